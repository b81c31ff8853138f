-- `mesh::good::GoodMarks::centres_closed` meets its contract. The invariant: all tells whether the rows of centres before y are closed.
use mathlib.Core.Path.{refl}
use native.Mathlib.Omega.{arith}
use Prim.Native.Nat.{◌≤◌}
use Rattle.grid.specs.Grid.{side}
use Rattle.mesh.proofs.Lines.{centres_first, centre_row_here, centres_on, passed_last}
use Rattle.mesh.proofs.good.GoodMarks.centres_closed.Goals as goal

pub loop-y-init : goal.loop-y-init
loop-y-init c = centres_first c.requires _ c.args.self.now.grid.sound.sided refl

pub centre_row_closed-all-requires : goal.centre_row_closed-all-requires
centre_row_closed-all-requires c =
    let l : c.loop-y.y ≤ side c.args.self.now.grid.m = omega (arith, c.args.self.now.grid.sound.sided, c.loop-y-test.true) in
    (c.requires, centre_row_here c.requires _ c.loop-y.invariant l)

pub loop-y-preserved : goal.loop-y-preserved
loop-y-preserved c =
    let l : c.loop-y.y ≤ side c.args.self.now.grid.m = omega (arith, c.args.self.now.grid.sound.sided, c.loop-y-test.true) in
    centres_on c.requires _ c.loop-y.invariant c.args.self.now.grid.sound.sided l c.centre_row_closed-all.ensures

pub returns-2 : goal.returns-2
returns-2 c =
    let l : c.loop-y.y ≤ side c.args.self.now.grid.m = omega (arith, c.args.self.now.grid.sound.sided, c.loop-y-test.true) in
    passed_last c.requires _ _ 1 (centres_on c.requires _ c.loop-y.invariant c.args.self.now.grid.sound.sided l c.centre_row_closed-all.ensures).passed
    (omega (arith, c.args.self.now.grid.sound.sided))
