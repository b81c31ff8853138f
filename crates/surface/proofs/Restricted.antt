-- A closed set keeps no leg's midpoint without the cut: the midpoint of a half's longest side depends on the half's apex, and that is where the
-- triangle is cut. For heights and origins this is all that closedness is needed for.
use mathlib.Core.Path.{◌≡◌}
use mathlib.Core.Bool.{Bool, true}
use Prim.Native.Nat.{ℕ}
use Rattle.grid.specs.Hierarchy.{first_half, second_half}
use Rattle.grid.specs.declared.points.Point.{Point}
use Rattle.grid.proofs.Cutting.{cut}
use Rattle.selection.specs.Rule.{Closed}
use Rattle.surface.specs.OneMesh.{Restricted}

pub restricted : {m : ℕ} {kept : Point → Bool} → Closed m (λ p. kept p ≡ true) → Restricted m kept
restricted closed = record {
  left = λ t keeps. let c = cut (first_half t) in closed.depends _ _ c.inside keeps c.apex;
  right = λ t keeps. let c = cut (second_half t) in closed.depends _ _ c.inside keeps c.apex;
}
