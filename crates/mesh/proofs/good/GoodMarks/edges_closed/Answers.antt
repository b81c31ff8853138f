-- `mesh::good::GoodMarks::edges_closed` meets its contract. The invariant: all tells whether the lines before c are closed.
use native.Mathlib.Omega.{arith}
use Prim.Native.Nat.{◌≤◌}
use Rattle.grid.specs.Grid.{side}
use Rattle.mesh.proofs.Lines.{passed_on, passed_last}
use Rattle.mesh.proofs.good.GoodMarks.edges_closed.Goals as goal

pub loop-c-preserved : goal.loop-c-preserved
loop-c-preserved c =
    let l : c.loop-c.c ≤ side c.args.self.now.grid.m = omega (arith, c.args.self.now.grid.sound.sided, c.loop-c-test.true) in
    passed_on c.requires _ _ 0 c.loop-c.invariant l c.edge_line_closed-all.ensures

pub returns-2 : goal.returns-2
returns-2 c =
    let l : c.loop-c.c ≤ side c.args.self.now.grid.m = omega (arith, c.args.self.now.grid.sound.sided, c.loop-c-test.true) in
    passed_last c.requires _ _ 0 (passed_on c.requires _ _ 0 c.loop-c.invariant l c.edge_line_closed-all.ensures)
    (omega (arith, c.args.self.now.grid.sound.sided))
