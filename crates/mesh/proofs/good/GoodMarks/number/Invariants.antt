-- `mesh::good::GoodMarks::number` meets its contract. The invariant: the northmost row and the rows below this one are counted.
use Rattle.mesh.proofs.Tally.{Counted}
use Rattle.mesh.proofs.good.GoodMarks.number.Given as goal

abbrev pub invariant-loop-at : goal.invariant-loop-at
invariant-loop-at l = Counted l.self.grid.m l.self.bytes.now l.at l.triangles
