-- Each turn leaves fewer bytes to be written.
use Rattle.std.proofs.Common.{length}
use Rattle.meshprint.proofs.write_text.Given as goal

abbrev pub decreases-loop-rest : goal.decreases-loop-rest
decreases-loop-rest g l = length l.rest
