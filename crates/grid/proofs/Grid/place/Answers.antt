-- `grid::Grid::place` meets its contract: a place of one of the eight sizes fits its type with room to spare.
use Prim.Native.Nat.{◌+◌, ◌*◌, ◌≤◌}
use native.Mathlib.Nat.{mul-le-mul}
use native.Mathlib.Omega.{arith}
use Rattle.grid.specs.Grid.{place, Sound, Inside, widest}
use Rattle.grid.specs.declared.Grid.{Grid}
use Rattle.grid.specs.declared.points.Point.{Point}
use Rattle.grid.proofs.Places.{side_small}
use Rattle.grid.proofs.Grid.place.Goals as goal

bound : (g : Grid) (p : Point) → Sound g.m g.side → Inside g.m p → (p.y * (g.side + 1) ≤ widest * (widest + 1)) × (p.x ≤ widest)
bound g p s h =
    let n : g.side ≤ widest = omega (arith, s.sided, side_small s.small) in
    let y : p.y ≤ widest = omega (arith, h.north, side_small s.small) in
    let row : g.side + 1 ≤ widest + 1 = omega arith in
    (mul-le-mul y row, omega (arith, h.east, side_small s.small))

pub returns : goal.returns
unfolding place
returns c = rw c.args.self.sound.sided
