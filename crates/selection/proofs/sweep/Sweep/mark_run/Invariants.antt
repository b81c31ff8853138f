-- `selection::sweep::Sweep::mark_run` meets its contract. The invariant: of the run every column before this one is final.
use Rattle.std.proofs.Common.{suc, ◌-◌}
use Rattle.selection.specs.Inner.{mark_over}
use Rattle.selection.proofs.Along.{Along}
use Rattle.selection.proofs.sweep.Sweep.mark_run.Given as goal

abbrev pub invariant-loop-x : goal.invariant-loop-x
invariant-loop-x g l = Along l.grid.m l.s (mark_over l.grid.m l.self.survey.now l.self.limit) l.p l.kind l.marks l.x

abbrev pub decreases-loop-x : goal.decreases-loop-x
decreases-loop-x g l = suc l.grid.side - l.x
