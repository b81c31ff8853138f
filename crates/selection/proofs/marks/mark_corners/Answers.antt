-- `selection::marks::mark_corners` meets its contract. The invariant: the corners listed before this one are marked.
use Rattle.std.proofs.Common.{◌≡◌, ℕ, ◌+◌, ◌<◌, ◌⊎◌, inl, inr, get_or, List, refl, sym, ap, ◌∙◌, arith}
use native.Mathlib.Decide.{dec_lt}
use Rattle.grid.specs.Grid.{Inside, corners}
use Rattle.grid.specs.declared.points.Point.{Point}
use Rattle.grid.proofs.OnGrid.{room, any_default}
use Rattle.selection.proofs.Corners.{corner_inside, corner_index}
use Rattle.selection.proofs.Final.{final_at, final_set}
use Rattle.selection.proofs.marks.mark_corners.Goals as goal

-- the points listed before place i
abbrev Listed : ℕ → ℕ → Point → Type 0
Listed m i p = (k : ℕ) × (k < i) × (p ≡ get_or (corners m) k p)

-- the corner that is read at place i: one more than those before it
module _ (m i : ℕ) {l : List Point} (d q : Point) (e : l ≡ corners m) (h : i < 4) (r : q ≡ get_or l i d) where
  is : q ≡ get_or (corners m) i q
  is = r ∙ rw e (any_default (corners m) i d q h)

  inside : Inside m q
  inside = corner_inside m i q h is

  grows : (p : Point) → Listed m (i + 1) p → (p ≡ q) ⊎ Listed m i p
  grows p (k, l, f) = by (dec_lt k i)
    where
      by : Dec (k < i) → (p ≡ q) ⊎ Listed m i p
      by (yes t) = inr (k, t, f)
      by (no n) =
          let last : k ≡ i = omega arith in
          inl (f ∙ ap (λ (j : ℕ). get_or (corners m) j p) last ∙ any_default (corners m) i p q h ∙ sym is)

pub bounds-marks-place : goal.bounds-marks-place
bounds-marks-place c =
    room c.loop-p.marks c.loop-p.invariant.long (inside c.args.grid.m c.loop-p.p-index _ _ c.corners-p-items.ensures c.loop-p-test.true refl) c.place.ensures

pub loop-p-preserved : goal.loop-p-preserved
loop-p-preserved c =
    let m = c.args.grid.m in
    let i = c.loop-p.p-index in
    let e = c.corners-p-items.ensures in
    let l = c.loop-p-test.true in
    rw c.place.ensures (final_set c.loop-p.invariant _ (inside m i _ _ e l refl) refl (λ p h t. grows m i _ _ e l refl p t))

pub returns : goal.returns
returns c =
    final_at c.loop-p.invariant (λ p h e. let k = corner_index c.args.grid.m p e in (k.0, omega (arith, k.1, c.loop-p-test.false), k.2))
