-- `aim::quotient::quotient` meets its contract: z is handed over in 32 bits and arrives, a float holds z and d, and their quotient is exact.
use mathlib.Core.Path.{ap, ◌∙◌}
use lib.IntN.{ℤ, pos}
use lib.Ieee.{of_int, div}
use mir.Facts.{to_z-of_z}
use Rattle.aim.specs.Quotient.{format}
use Rattle.aim.proofs.Exactness.{casts, divided}
use Rattle.aim.proofs.quotient.quotient.Goals as goal

pub int_to_float-result-2 : goal.int_to_float-result-2
int_to_float-result-2 c = (casts format c.args.z c.args.d c.requires).1

pub returns : goal.returns
returns c =
    ap (λ (z : ℤ). div format (of_int format z) (of_int format (pos c.args.d))) (to_z-of_z c.ranges.z)
    ∙ divided format c.args.z c.args.d c.requires
