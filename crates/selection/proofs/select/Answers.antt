-- `selection::select` meets its contract: past the refusals what each call asks holds, and what they leave is what is promised.
use Rattle.std.proofs.Common.{length, refl, ap, ◌∙◌, arith}
use Rattle.grid.proofs.Places.{samples_small}
use Rattle.grid.proofs.Refused.{refused}
use Rattle.selection.specs.Selected.{handed}
use Rattle.selection.proofs.Accepted.{turned, accepted_handed}
use Rattle.selection.proofs.Counted.{marks_long_lem}
use Rattle.selection.proofs.Answered.{completed}
use Rattle.selection.proofs.Rule.{refused_only}
use Rattle.selection.proofs.select.Goals as goal

pub returns-in-Err : goal.returns-in-Err
returns-in-Err c =
    let h = handed c.args.survey.now c.args.m c.args.tolerance c.args.marks.now c.args.heights.now in
    rw c.from.ensures
    (record {
      selects =
          refused_only h (rw c.in-Err.ensures (turned h)) (refused c.in-Err.refusal)
          (record { own = refl; dependent = refl; voids = refl; marks = refl; heights = refl });
      sixteen = λ ok. absurd (refused c.in-Err.refusal ok);
    })

pub fill-requires : goal.fill-requires
fill-requires c =
    let h = handed c.args.survey.now c.args.m c.args.tolerance c.args.marks.now c.args.heights.now in
    let a = accepted_handed h c.in-Ok.ensures.0 in
    let g = c.in-Ok.ensures.1 in
    (rw g a.lengths.survey, rw g a.lengths.heights, rw g a.corners)

pub overflow_mul-tolerance : goal.overflow_mul-tolerance
overflow_mul-tolerance c =
    let h = handed c.args.survey.now c.args.m c.args.tolerance c.args.marks.now c.args.heights.now in
    record { fits = omega (arith, (accepted_handed h c.in-Ok.ensures.0).tolerance) }

pub mark_all-requires : goal.mark_all-requires
mark_all-requires c =
    let h = handed c.args.survey.now c.args.m c.args.tolerance c.args.marks.now c.args.heights.now in
    let a = accepted_handed h c.in-Ok.ensures.0 in
    let g = c.in-Ok.ensures.1 in
    (record { near = omega (arith, a.tolerance); long = rw g a.lengths.survey; filled = c.fill.ensures.is }, rw g a.lengths.marks)

pub count-requires : goal.count-requires
count-requires c =
    omega (arith, ap length c.mark_all.ensures ∙ marks_long_lem _ _ _, samples_small c.in-Ok.grid.sound.small)

pub returns-in-Ok : goal.returns-in-Ok
returns-in-Ok c =
    let h = handed c.args.survey.now c.args.m c.args.tolerance c.args.marks.now c.args.heights.now in
    let g = c.in-Ok.ensures.1 in
    let fill = c.fill.ensures in
    record {
      selects = completed h c.in-Ok.ensures.0 (rw g at c.mark_all.ensures) (rw g at fill.is) c.count.ensures;
      sixteen = λ ok. fill.sixteen;
    }
