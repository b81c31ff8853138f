-- A point that is no grid corner is kept just where it is over tolerance or one of its dependents is kept.
-- A step to a dependent lowers the rank by one, so one step more than the rank changes nothing.
use Rattle.std.proofs.Common.{◌≡◌, ℕ, zero, suc, ◌*◌, ◌≤◌, Bool, false, ◌||◌, sym, ap, ◌∙◌, arith}
use mathlib.Core.Bool.{or-false}
use mathlib.Core.List.{Memᴰ}
use Rattle.grid.specs.Grid.{Inside}
use Rattle.grid.specs.Points.{is_corner, dependents, rank}
use Rattle.grid.specs.declared.points.Point.{Point}
use Rattle.grid.proofs.Dependence.{depends_inner, depends_rank, depends_dependents}
use Rattle.grid.proofs.Order.{dependents_inside}
use Rattle.grid.proofs.Units.{corner_rank}
use Rattle.selection.specs.Kept.{some, chain, kept}
use Rattle.selection.proofs.Some.{some_cong, some_none}

-- a dependent of p lies inside, is no grid corner, and has the rank below
pub dependent_below : (m : ℕ) (p q : Point) → Inside m p → is_corner m p ≡ false → Memᴰ q (dependents m p) →
    Inside m q × (is_corner m q ≡ false) × (rank m p ≡ suc (rank m q))
dependent_below m p q h inner i =
    let inside = dependents_inside m q p h i in
    let depends = (depends_dependents m q p inside h inner).1 i in
    (inside, depends_inner m q depends, (depends_rank m q p inside depends).1)

module _ (m : ℕ) (over : Point → Bool) where
  -- one step more changes nothing once the steps reach the rank: at rank 0 there is no dependent
  more : (d : ℕ) (p : Point) → Inside m p → is_corner m p ≡ false → rank m p ≤ d → chain (suc d) m over p ≡ chain d m over p
  unfolding chain
  more zero p h inner l =
      rw (some_none over (dependents m p) (λ q i. absurd (omega (arith, (dependent_below m p q h inner i).2)))) (or-false (over p))
  more (suc d) p h inner l =
      ap (λ (t : Bool). over p || t)
      (some_cong (chain (suc d) m over) (chain d m over) (dependents m p)
      (λ q i. let b = dependent_below m p q h inner i in more d q b.0 b.1 (omega arith)))

  pub kept_chain : (p : Point) → is_corner m p ≡ false → kept m over p ≡ chain (2 * m) m over p
  unfolding kept
  kept_chain p inner = rw inner

  pub kept_step : (p : Point) → Inside m p → is_corner m p ≡ false → kept m over p ≡ (over p || some (kept m over) (dependents m p))
  unfolding chain
  kept_step p h inner =
      kept_chain p inner
      ∙ sym (more (2 * m) p h inner (omega (arith, (corner_rank m p h).1 inner)))
      ∙ ap (λ (t : Bool). over p || t)
      (some_cong (chain (2 * m) m over) (kept m over) (dependents m p)
      (λ q i. sym (kept_chain q (dependent_below m p q h inner i).1)))
