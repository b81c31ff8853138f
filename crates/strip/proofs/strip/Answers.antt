-- `strip::strip` meets its contract: past the refusals the strip finds room, and what is laid is the strip.
use mathlib.Core.Path.{sym}
use native.Mathlib.Omega.{arith}
use Rattle.mesh.specs.Meshed.{handed}
use Rattle.strip.proofs.CodeAnswered.{plain, fits, places_refused, taken_shut, answer_written, places_written}
use Rattle.strip.proofs.strip.Goals as goal

pub ring-requires : goal.ring-requires
ring-requires c =
    let k = taken_shut (handed c.args.marks.now c.args.m c.args.places.now) c.in-Ok.ensures in
    (k.small, plain k, k.long)

pub overflow_cast-result : goal.overflow_cast-result
overflow_cast-result c =
    let h = handed c.args.marks.now c.args.m c.args.places.now in
    fits h (taken_shut h c.in-Ok.ensures) (omega (arith, c.ring.ensures.behind))

pub returns-in-Ok : goal.returns-in-Ok
returns-in-Ok c =
    let h = handed c.args.marks.now c.args.m c.args.places.now in
    record {
      answer = answer_written h c.in-Ok.ensures (omega (arith, c.ring.ensures.behind));
      places = places_written h c.in-Ok.ensures c.ring.ensures;
    }

pub returns-in-Err : goal.returns-in-Err
returns-in-Err c =
    let told = c.in-Err.ensures in
    record { answer = told.answer; places = sym (places_refused (handed c.args.marks.now c.args.m c.args.places.now) told.some) }
