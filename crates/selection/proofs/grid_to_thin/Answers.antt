-- `selection::grid_to_thin` meets its contract: each answer is the one of its case, and the size that is accepted has the samples.
use Rattle.std.proofs.Common.{◌≡◌, ◌≤◌, Bool, true, false, true≢false, Ok, ◌&&◌, eqb, length, sym, ◌∙◌}
use Rattle.std.proofs.lemmas.Result.{err_from_is_err_and}
use Rattle.grid.specs.Grid.{largest}
use Rattle.grid.specs.Sizes.{size_answer}
use Rattle.grid.specs.declared.sizes.Size.{Size}
use Rattle.grid.proofs.Sized.{given, refused}
use Rattle.selection.specs.Selected.{Handed, handed, right_lengths}
use Rattle.selection.specs.Rule.{Lengths, size, lengths, tolerance, corner, nothing}
use Rattle.selection.proofs.Accepted.{lengths_right, right_lengths_lem, turned_only}
use Rattle.selection.proofs.Corners.{corners_surveyed, corners_void}
use Rattle.selection.proofs.grid_to_thin.Goals as goal

-- what the code was told of the size, and of the lengths
module _ (h : Handed) {size : Size} (told : Ok size ≡ size_answer h.m) {r : Bool}
    (k : r ≡ (eqb (length h.survey) size.samples && (eqb (length h.marks) size.samples && eqb (length h.heights) size.samples))) where
  small : h.m ≤ largest
  small = (given h.m told).0

  right : r ≡ right_lengths h
  right = rw (given h.m told).1 at k

  wrong : r ≡ false → ¬ (Lengths h)
  wrong f l = true≢false (sym (right_lengths_lem h l) ∙ sym right ∙ f)

  exact : r ≡ true → Lengths h
  exact t = lengths_right h (sym right ∙ t)

pub returns-in_err-size : goal.returns-in_err-size
returns-in_err-size c =
    let p = err_from_is_err_and c.from_residual.result c.from_residual.ensures.1 in
    let r = refused c.args.m c.in_err-size.ensures in
    rw (p.1, p.2, r.1) (turned_only (handed c.args.survey.now c.args.m c.args.tolerance c.args.marks.now c.args.heights.now) (size r.0))

pub returns-then-not-right_lengths : goal.returns-then-not-right_lengths
returns-then-not-right_lengths c =
    let h = handed c.args.survey.now c.args.m c.args.tolerance c.args.marks.now c.args.heights.now in
    turned_only h (lengths (small h c.in_ok-size.ensures c.right_lengths.ensures) (wrong h c.in_ok-size.ensures c.right_lengths.ensures c.if-not-right_lengths.true))

pub returns-then-tolerance-gt-HIGHEST_TOLERANCE : goal.returns-then-tolerance-gt-HIGHEST_TOLERANCE
returns-then-tolerance-gt-HIGHEST_TOLERANCE c =
    let h = handed c.args.survey.now c.args.m c.args.tolerance c.args.marks.now c.args.heights.now in
    let l = exact h c.in_ok-size.ensures c.right_lengths.ensures c.if-not-right_lengths.false in
    turned_only h (tolerance (small h c.in_ok-size.ensures c.right_lengths.ensures) l c.if-tolerance-gt-HIGHEST_TOLERANCE.true)

pub returns-then-corner_void : goal.returns-then-corner_void
returns-then-corner_void c =
    let h = handed c.args.survey.now c.args.m c.args.tolerance c.args.marks.now c.args.heights.now in
    let l = exact h c.in_ok-size.ensures c.right_lengths.ensures c.if-not-right_lengths.false in
    let v = sym (rw c.grid_of-g.ensures at c.corner_void.ensures) ∙ c.if-corner_void.true in
    turned_only h
    (corner (small h c.in_ok-size.ensures c.right_lengths.ensures) l c.if-tolerance-gt-HIGHEST_TOLERANCE.false (corners_void h.m h.survey v))

pub returns : goal.returns
returns c =
    let h = handed c.args.survey.now c.args.m c.args.tolerance c.args.marks.now c.args.heights.now in
    let l = exact h c.in_ok-size.ensures c.right_lengths.ensures c.if-not-right_lengths.false in
    let v = sym (rw c.grid_of-g.ensures at c.corner_void.ensures) ∙ c.if-corner_void.false in (
      sym
          (turned_only h
          (nothing (small h c.in_ok-size.ensures c.right_lengths.ensures) l c.if-tolerance-gt-HIGHEST_TOLERANCE.false (corners_surveyed h.m h.survey v))),
      c.grid_of-g.ensures,
    )
