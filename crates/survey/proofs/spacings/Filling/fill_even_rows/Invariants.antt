-- `survey::spacings::Filling::fill_even_rows` meets its contract. The invariant: the heights are partly filled, and the rows behind are.
use Prim.Native.Nat.{◌-◌}
use Rattle.survey.specs.Left.{Leaves}
use Rattle.survey.proofs.Rows.{Passed}
use Rattle.survey.proofs.spacings.Filling.fill_even_rows.Given as goal

abbrev pub invariant-loop-y : goal.invariant-loop-y
invariant-loop-y l = Leaves l.initial.self l.self (Passed l.initial.self.grid.m l.self.heights.now l.s 0 l.y)

abbrev pub decreases-loop-y : goal.decreases-loop-y
decreases-loop-y l = l.row - l.y
