-- `strip::ring::ring` meets its contract: one starting triangle passed behind the other.
use mathlib.Core.Path.{refl}
use Rattle.std.proofs.Common.{rules}
use Rattle.grid.proofs.Places.{sided}
use Rattle.strip.specs.Inner.{passages_of}
use Rattle.strip.proofs.CodePassing.{behind}
use Rattle.strip.proofs.CodeRing.{south, round, south_passable, north_passable}
use Rattle.strip.proofs.ring.ring.Goals as goal

pub pass-requires : goal.pass-requires
pass-requires c =
    let g = sided c.grid_of-side.result c.grid_of-side.ensures in
    south_passable c.args.m c.args.marks.now g c.requires.1 c.requires.0 c.requires.2

pub pass-requires-2 : goal.pass-requires-2
pass-requires-2 c =
    let g = sided c.grid_of-side.result c.grid_of-side.ensures in
    rw (behind (passages_of c.args.marks.now (south c.args.m c.grid_of-side.result.side)) c.pass.ensures)
    (north_passable c.args.m c.args.marks.now g c.requires.1 c.requires.0 c.requires.2)

pub returns : goal.returns
returns c =
    let g = sided c.grid_of-side.result c.grid_of-side.ensures in
    let all = round c.args.m c.args.marks.now g refl c.pass.ensures c.pass-2.ensures in
    search (rules, all)
