-- The four calls together: a selection, triangles on the marks that it wrote, height and plane on the marks and the heights that it wrote, at one
-- point. The theorem is `four_calls` in proofs/FourCalls: where select and triangles were accepted, and (x, y) is a point of the square, in quarter
-- cells, it follows from the contracts of the four calls, as the code states them, and from nothing else. Definitions only.
use Rattle.std.specs.Prelude.{◌≡◌, List, ℕ, ◌<◌, ℤ}
use Rattle.grid.specs.Grid.{at}
use Rattle.grid.specs.Refusal.{accepted}
use Rattle.mesh.specs.Rule.{three_at}
use Rattle.mesh.specs.declared.Meshed.{Meshed}
use Rattle.aim.specs.Aimed.{handed as asking, said}
use Rattle.aim.specs.Geometry.{Contains}
use Rattle.aim.specs.Rule.{Answered, Grounded}
use Rattle.aim.specs.declared.HeightAnswer.{HeightAnswer}
use Rattle.aim.specs.declared.PlaneAnswer.{PlaneAnswer}
use Rattle.surface.specs.Surface.{Covered, Gives, OneSurface}

-- by what selection wrote, what triangles answered and wrote, and what height and plane answered at (x, y), in quarter cells
pub record FourCalls (m : ℕ) (marks : List ℕ) (heights : List ℤ) (r : Meshed) (places : List ℕ) (x y : ℕ) (a : HeightAnswer) (p : PlaneAnswer) : Type 0 where
  -- demand 3
  pub surface : OneSurface m marks heights r places
  -- height and plane are answered, each float the quotient exactly, with one height
  pub height_accepts : (said a).refusal ≡ accepted
  pub height : Answered (asking marks heights m x y) (said a).origin (said a).height
  pub plane_accepts : p.refusal ≡ accepted
  pub plane : Grounded (asking marks heights m x y) p
  pub level : p.ground.height ≡ (said a).height
  -- the point lies in a triangle of the list, and each that contains it gives the very height and origin that height gave
  pub covered : Covered m places r.triangles (at x y)
  pub agrees : (i : ℕ) → i < r.triangles → Contains (three_at m places i) (at x y) →
      Gives (asking marks heights m x y) (three_at m places i) (said a).origin (said a).height
