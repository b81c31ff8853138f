-- `selection::marks::count` meets its contract. The invariant: what was counted and what the rest counts is the whole count.
use Rattle.std.proofs.Common.{◌≡◌, ℕ, ◌+◌, ◌≤◌, Bool, List, ◌++◌, length, ap, ◌∙◌, arith}
use Rattle.std.specs.Slice.Iter.{chunks_rest}
use Rattle.grid.specs.Grid.{samples, largest}
use Rattle.grid.specs.Mark.{filled_mark}
use Rattle.selection.specs.Marks.{count, marked_own, marked_dependence}
use Rattle.selection.specs.Inner.{added, counted, byteful, Room}
use Rattle.selection.specs.declared.Selected.{Selected}
use Rattle.selection.proofs.Counts.{count_append, count_length}
use Rattle.selection.proofs.marks.count.Goals as goal

-- a few that are counted, and the rest
module _ (sum : Selected) (marks few after : List ℕ) {rest : List ℕ} (all : added sum (counted rest) ≡ counted marks) (split : rest ≡ few ++ after) where
  each : (f : ℕ → Bool) → count f rest ≡ count f few + count f after
  each f = ap (count f) split ∙ count_append f few after

  on : added (added sum (counted few)) (counted after) ≡ counted marks
  on =
      let own : sum.own + count marked_own few + count marked_own after ≡ sum.own + count marked_own rest = omega (arith, each marked_own) in
      let dependent : sum.dependent + count marked_dependence few + count marked_dependence after ≡ sum.dependent + count marked_dependence rest =
      omega (arith, each marked_dependence) in
      let voids : sum.voids + count filled_mark few + count filled_mark after ≡ sum.voids + count filled_mark rest = omega (arith, each filled_mark) in
      (λ i. record { refusal = sum.refusal; own = own i; dependent = dependent i; voids = voids i }) ∙ all

  room : length few ≤ byteful → length marks ≤ samples largest → Room sum few
  room f l =
      let own : sum.own + count marked_own rest ≡ count marked_own marks = ap (λ (a : Selected). a.own) all in
      let dependent : sum.dependent + count marked_dependence rest ≡ count marked_dependence marks = ap (λ (a : Selected). a.dependent) all in
      let voids : sum.voids + count filled_mark rest ≡ count filled_mark marks = ap (λ (a : Selected). a.voids) all in
      record {
        few = f;
        own = omega (arith, own, count_length marked_own marks);
        dependent = omega (arith, dependent, count_length marked_dependence marks);
        voids = omega (arith, voids, count_length filled_mark marks);
      }

pub count_on-sum-requires : goal.count_on-sum-requires
count_on-sum-requires c =
    let s = c.in-Some.ensures.steps in
    let l = c.loop-few.invariant in
    room c.loop-few.sum c.args.marks.now c.in-Some.few.now (chunks_rest c.next.new.self) l.0 s.1.0 (omega (arith, s.1.1, l.1)) c.requires

pub loop-few-preserved : goal.loop-few-preserved
loop-few-preserved c =
    let s = c.in-Some.ensures.steps in
    let l = c.loop-few.invariant in
    (rw c.count_on-sum.ensures (on c.loop-few.sum c.args.marks.now c.in-Some.few.now (chunks_rest c.next.new.self) l.0 s.1.0), s.0 ∙ l.1)
