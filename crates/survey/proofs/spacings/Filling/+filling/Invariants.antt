-- The measure is the depth below the largest spacing, which falls from a void to its ends. The loop's invariant: the heights are partly
-- filled, and stand at the places behind.
use Rattle.std.proofs.Common.{◌+◌, ◌-◌, ◌*◌}
use Rattle.grid.specs.Grid.{point}
use Rattle.survey.specs.Inner.{depth}
use Rattle.survey.specs.Left.{Leaves}
use Rattle.survey.proofs.Runs.{Along}
use Rattle.survey.proofs.spacings.Filling.+filling.Given as goal

-- an end comes before its run, a run before its voids, and a void before its ends
abbrev pub decreases-fill_end : goal.decreases-fill_end
decreases-fill_end l = 3 * depth l.self.now.grid.m (point l.self.now.grid.m l.i) + 2

abbrev pub decreases-fill_run : goal.decreases-fill_run
decreases-fill_run l = 3 * depth l.self.now.grid.m (point l.self.now.grid.m l.from) + 1

abbrev pub decreases-fill_void : goal.decreases-fill_void
decreases-fill_void l = 3 * depth l.self.now.grid.m (point l.self.now.grid.m l.i)

abbrev pub invariant-fill_run-loop-i : goal.invariant-fill_run-loop-i
invariant-fill_run-loop-i l = Leaves l.initial.self l.self (Along l.self.heights.now l.from l.step l.i)

abbrev pub decreases-fill_run-loop-i : goal.decreases-fill_run-loop-i
decreases-fill_run-loop-i l = l.to - l.i
