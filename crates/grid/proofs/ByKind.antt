-- What is known of a point by its kind and its spacing: how far it may be looked around, its dependents, and the reach to its ends.
use mathlib.Core.Path.{◌≡◌, sym, ◌∙◌}
use mathlib.Core.Logic.{⊎_elim}
use Prim.Native.Nat.{ℕ, ◌≤◌, ◌<◌}
use native.Mathlib.Omega.{arith}
use Rattle.grid.specs.Grid.{side, widest, largest}
use Rattle.grid.specs.Points.{crossed, beside, dependents, dependents_by}
use Rattle.grid.specs.declared.points.Point.{Point}
use Rattle.grid.specs.declared.points.Kind.{Kind}
use Rattle.grid.specs.declared.points.Kind.TheVariants.{Rising, Falling}
use Rattle.grid.proofs.Places.{side_small}
use Rattle.grid.proofs.Spaced.{spacing_positive}
use Rattle.grid.proofs.Room.{Reach, Reached, room, spacing_side}
use Rattle.grid.specs.Inner.{Sited, Clear, Spread, EdgeKind, CentreKind, reach_by}

module _ {m : ℕ} {p : Point} {k : Kind} {s : ℕ} (h : Sited m p k s) where
  -- by a kind whose line goes both ways, a centre's
  clear : (d : Kind) → k ≡ d → (Reached d (side m) s p.x p.y → Reach (side m) s p.x × Reach (side m) s p.y) →
      Clear m s p.x p.y
  clear d e f =
      let r = f (rw (sym e ∙ h.kinded, h.spaced) (room m p h.inside)) in
      record { west = r.0.0; south = r.1.0; east = r.0.1; north = r.1.1 }

  sited_dependents : {d : Kind} → k ≡ d → dependents_by d (side m) s p.x p.y ≡ dependents m p
  unfolding dependents
  sited_dependents e i = dependents_by ((sym e ∙ h.kinded) i) (side m) (h.spaced i) p.x p.y

  -- a spacing is from 1 to the largest N
  pub sited_small : m ≤ largest → (0 < s) × (s ≤ widest)
  sited_small l = rw h.spaced (spacing_positive m p, omega (arith, spacing_side m p, side_small l))

  pub edge_dependents : EdgeKind k → crossed (side m) s p.x p.y ≡ dependents m p
  edge_dependents e = ⊎_elim (λ d. sited_dependents d) (λ d. sited_dependents d) e

  pub centre_dependents : CentreKind k → beside s p.x p.y ≡ dependents m p
  centre_dependents e = ⊎_elim (λ d. sited_dependents d) (λ d. sited_dependents d) e

  -- s reaches back and on from a centre, both ways
  pub centre_clear : CentreKind k → Clear m s p.x p.y
  centre_clear e = ⊎_elim (λ d. clear Rising d (λ r. r)) (λ d. clear Falling d (λ r. r)) e

  pub spread : Spread m p (reach_by k (side m) s)
  spread = record { inside = h.inside; inner = h.inner; reached = λ i. reach_by (h.kinded i) (side m) (h.spaced i) }
