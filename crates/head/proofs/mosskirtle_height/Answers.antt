-- `head::mosskirtle_height` meets its contract: what the answer says crosses, and its float has bits, since it is no NaN.
use mathlib.Core.Path.{◌≡◌}
use mathlib.Core.Bool.{not}
use lib.Dec.{T}
use lib.Ieee.{is_nan}
use Rattle.aim.specs.Aimed.{Handed, handed, said, height_at}
use Rattle.aim.specs.declared.HeightAnswer.{HeightAnswer}
use Rattle.head.proofs.Number.{height_number}
use Rattle.head.proofs.mosskirtle_height.Goals as goal

-- the answer is the case that the code is in, and its float is no NaN
number : (h : Handed) {r : HeightAnswer} (a : HeightAnswer) → r ≡ a → said r ≡ height_at h → T (not (is_nan (said a).height))
number h a e k = let told = rw e at k in rw (← told) at (height_number h).number

pub float_to_bits-result : goal.float_to_bits-result
float_to_bits-result c =
    let h = handed c.args.marks.now c.args.heights.now c.args.m c.args.x c.args.y in
    number h _ c.in-Surveyed.is c.height.ensures.answer

pub float_to_bits-result-in-Filled : goal.float_to_bits-result-in-Filled
float_to_bits-result-in-Filled c =
    let h = handed c.args.marks.now c.args.heights.now c.args.m c.args.x c.args.y in
    number h _ c.in-Filled.is c.height.ensures.answer
