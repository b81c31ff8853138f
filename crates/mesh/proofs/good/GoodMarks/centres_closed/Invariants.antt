-- `mesh::good::GoodMarks::centres_closed` meets its contract. The invariant: all tells whether the rows of centres before y are closed.
use Rattle.mesh.specs.Closed.{kept_by}
use Rattle.mesh.proofs.Lines.{PassedCentres}
use Rattle.mesh.proofs.good.GoodMarks.centres_closed.Given as goal

abbrev pub invariant-loop-y : goal.invariant-loop-y
invariant-loop-y l = PassedCentres l.self.grid.m l.s (kept_by l.self.grid.m l.self.bytes.now) l.y l.d l.all
