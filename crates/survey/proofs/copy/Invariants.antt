-- `survey::copy` meets its contract. The invariant: below i the two agree, and what was read there has 16 bits.
use Rattle.std.proofs.Common.{◌≡◌, ℕ, ◌<◌, take, get_or}
use mir.Syntax.{w16}
use mir.Val.{SFits}
use Rattle.grid.specs.Grid.{void}
use Rattle.survey.proofs.copy.Given as goal

abbrev pub invariant-loop-i : goal.invariant-loop-i
invariant-loop-i l = (take l.i l.heights ≡ take l.i l.survey) × ((k : ℕ) → k < l.i → SFits w16 (get_or l.survey k void))
