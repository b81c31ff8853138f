-- Demand 3: for every survey of 16 bits, as a lent `&[i16]` is, every size and tolerance, and every content of the lent buffers, if selection accepts
-- and triangles is called on the marks that it wrote, with room enough, then there is one surface. `Called` and `OneSurface` say what that means.
use mathlib.Core.List.{List}
use Prim.Native.Nat.{ℕ}
use native.Mathlib.Omega.{arith}
use lib.IntN.{ℤ}
use Rattle.grid.specs.declared.points.Point.{Point}
use Rattle.selection.specs.Selected.{Handed as Surveying}
use Rattle.selection.specs.declared.Selected.{Selected}
use Rattle.mesh.specs.Triangles.{Three}
use Rattle.mesh.specs.declared.Meshed.{Meshed}
use Rattle.aim.specs.Geometry.{Contains}
use Rattle.surface.specs.Surface.{Encloses, Called, OneSurface}
use Rattle.surface.proofs.Parts.{parts}

pub one_surface : {s : Surveying} {a : Selected} {marks : List ℕ} {heights : List ℤ} {places places' : List ℕ} {r : Meshed} →
    Called s a marks heights places r places' → OneSurface s.m marks heights r places'
one_surface called = parts called

-- a triangle contains what it encloses; so a point is strictly inside no two
pub encloses_contains : {t : Three} {q : Point} → Encloses t q → Contains t q
encloses_contains e = omega (arith, e.first, e.second, e.third)
