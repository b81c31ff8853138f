-- No refusal has the number of an accepted call.
use mathlib.Core.Logic.{◌≢◌}
use native.Mathlib.Omega.{arith}
use Rattle.grid.specs.Refusal.{accepted, number}
use Rattle.grid.specs.declared.refusals.Refusal.{Refusal}
use Rattle.grid.specs.declared.refusals.Refusal.TheVariants.{SizeAbove, WrongLength, VoidCorner, ToleranceAbove, PointBeyond, BadMark, NotClosed, NoRoom, InputForm}

pub refused : (r : Refusal) → number r ≢ accepted
refused SizeAbove e = omega arith
refused WrongLength e = omega arith
refused VoidCorner e = omega arith
refused ToleranceAbove e = omega arith
refused PointBeyond e = omega arith
refused BadMark e = omega arith
refused NotClosed e = omega arith
refused (NoRoom needed) e = omega arith
refused InputForm e = omega arith
