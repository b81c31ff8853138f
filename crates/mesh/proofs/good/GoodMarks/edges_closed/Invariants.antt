-- `mesh::good::GoodMarks::edges_closed` meets its contract. The invariant: all tells whether the lines before c are closed.
use Rattle.mesh.specs.Closed.{kept_by}
use Rattle.mesh.proofs.Lines.{Passed}
use Rattle.mesh.proofs.good.GoodMarks.edges_closed.Given as goal

abbrev pub invariant-loop-c : goal.invariant-loop-c
invariant-loop-c l = Passed l.self.grid.m l.s (kept_by l.self.grid.m l.self.bytes.now) l.turned 0 l.c l.all
