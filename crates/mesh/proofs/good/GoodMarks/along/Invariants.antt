-- `mesh::good::GoodMarks::along` meets its contract. The invariant: each place of the stride before i was asked.
use Prim.Native.Nat.{◌-◌}
use Rattle.mesh.proofs.Strides.{Gone}
use Rattle.mesh.proofs.good.GoodMarks.along.Given as goal

abbrev pub invariant-loop-i : goal.invariant-loop-i
invariant-loop-i l = Gone l.self.bytes.now l.from l.step l.before l.after l.i

abbrev pub decreases-loop-i : goal.decreases-loop-i
decreases-loop-i l = l.to - l.i
