-- `selection::sweep::Sweep::mark_centres` meets its contract. The invariant: every row of centres below this one is final.
use Rattle.selection.specs.Inner.{mark_over}
use Rattle.selection.proofs.Sweeps.{CentreRows}
use Rattle.selection.proofs.sweep.Sweep.mark_centres.Given as goal

abbrev pub invariant-loop-y : goal.invariant-loop-y
invariant-loop-y l = CentreRows l.self.grid.m l.self.spacing (mark_over l.self.grid.m l.self.survey.now l.self.limit) l.marks l.y l.kind
