-- The points kept are the least closed set that holds every point over tolerance, and there is no other such set.
-- A closed set that holds those holds every chain, step by step from its far end.
use Rattle.std.proofs.Common.{◌≡◌, ℕ, zero, suc, ◌*◌, Bool, true, false, ◌||◌, ◌↔◌, refl}
use mathlib.Core.Bool.{or-true}
use mathlib.Core.List.{Memᴰ}
use Rattle.grid.specs.Grid.{Inside}
use Rattle.grid.specs.Points.{is_corner, depends_on, dependents}
use Rattle.grid.specs.declared.points.Point.{Point}
use Rattle.grid.proofs.Dependence.{depends_rank, depends_dependents}
use Rattle.selection.specs.Kept.{some, chain, kept}
use Rattle.selection.specs.Rule.{Closed, Contains, Least}
use Rattle.selection.proofs.Some.{some_in, in_some}
use Rattle.selection.proofs.Chain.{dependent_below, kept_chain, kept_step}

-- what holds of a grid corner and of every other point holds
by_corner : {P : Type 0} (m : ℕ) (p : Point) → (is_corner m p ≡ true → P) → (is_corner m p ≡ false → P) → P
by_corner {P} m p corner inner = go (is_corner m p) refl
  where
    go : (t : Bool) → is_corner m p ≡ t → P
    go true e = corner e
    go false e = inner e

module _ (m : ℕ) (over : Point → Bool) where
  abbrev Kept : Point → Type 0
  Kept p = kept m over p ≡ true

  pub corner_kept : (p : Point) → is_corner m p ≡ true → Kept p
  unfolding kept
  corner_kept p e = rw e

  kept_depends : (p q : Point) → Inside m p → Kept p → Memᴰ q (depends_on m p) → Kept q
  kept_depends p q h k i =
      let inside = (depends_rank m p q h i).0 in
      by_corner m q (corner_kept q)
      (λ inner.
      rw (kept_step m over q inside inner, in_some (kept m over) (dependents m q) ((depends_dependents m p q h inside inner).0 i) k)
      (or-true (over q)))

  pub over_kept : (p : Point) → Inside m p → over p ≡ true → Kept p
  over_kept p h e = by_corner m p (corner_kept p) (λ inner. rw (kept_step m over p h inner, e))

  -- any closed set that holds every point over tolerance holds every point that has a chain
  module _ (other : Point → Type 0) (closed : Closed m other) (holds : Contains m over other) where
    chain_held : (d : ℕ) (p : Point) → Inside m p → is_corner m p ≡ false → chain d m over p ≡ true → other p
    unfolding chain
    chain_held zero p h inner e = holds p h e
    chain_held (suc d) p h inner e = go (chain_held d) (over p) refl e
      where
        go : ((q : Point) → Inside m q → is_corner m q ≡ false → chain d m over q ≡ true → other q) →
            (t : Bool) → over p ≡ t → (t || some (chain d m over) (dependents m p)) ≡ true → other p
        go below true f e = holds p h f
        go below false f e =
            let r = some_in (chain d m over) (dependents m p) e in
            let b = dependent_below m p r.0 h inner r.1 in
            closed.depends r.0 p b.0 (below r.0 b.0 b.1 r.2) ((depends_dependents m r.0 p b.0 h inner).1 r.1)

    kept_held : (p : Point) → Inside m p → Kept p → other p
    kept_held p h k = by_corner m p (closed.corners p) (λ inner. chain_held (2 * m) p h inner (rw (kept_chain m over p inner) at k))

  pub kept_least : Least m over (λ p. kept m over p ≡ true)
  kept_least = record { closed = record { corners = corner_kept; depends = kept_depends }; contains = over_kept; least = kept_held }

  pub least_only : (set other : Point → Type 0) → Least m over set → Least m over other → (p : Point) → Inside m p → set p ↔ other p
  least_only set other l k p h = (l.least other k.closed k.contains p h, k.least set l.closed l.contains p h)
