-- `survey::spacings::Filling::fill_spacings` meets its contract. The invariant: the heights are partly filled, and the larger spacings are.
use Rattle.survey.specs.Left.{Leaves}
use Rattle.survey.proofs.Rows.{Coarser}
use Rattle.survey.proofs.spacings.Filling.fill_spacings.Given as goal

abbrev pub invariant-loop-k : goal.invariant-loop-k
invariant-loop-k l = Leaves l.initial.self l.self (Coarser l.initial.self.grid.m l.self.heights.now l.k)
