-- `survey::spacings::Filling::fill_even_rows` meets its contract. The invariant: the heights are partly filled, and the rows behind are.
use native.Mathlib.Nat.{mul-zero}
use native.Mathlib.Omega.{arith}
use Rattle.survey.proofs.Leaving.{left_none, left_then, left_swept, left_so, run_asked}
use Rattle.survey.proofs.Rows.{passed_first, passed_on, passed_last}
use Rattle.survey.proofs.Runs.{even_run, even_swept}
use Rattle.survey.proofs.spacings.Filling.fill_even_rows.Goals as goal

pub loop-y-init : goal.loop-y-init
loop-y-init c = left_none _ (passed_first _ _ (omega (arith, mul-zero c.args.s)) (omega arith))

pub fill_run-requires : goal.fill_run-requires
fill_run-requires c =
    let here = c.loop-y.invariant in
    let sound = c.args.self.now.grid.sound in
    run_asked here (even_run sound c.requires (omega (arith, sound.sided, c.loop-y-test.true)) here.swept.stand.row)

pub loop-y-preserved : goal.loop-y-preserved
loop-y-preserved c =
    let here = c.loop-y.invariant in
    let row = even_swept c.args.self.now.grid.sound here.swept.stand.row (left_swept here c.fill_run.ensures) in
    left_then here c.fill_run.ensures (passed_on here.swept.stand row)

pub returns : goal.returns
returns c =
    let here = c.loop-y.invariant in
    left_so here (passed_last here.swept.stand (omega (arith, c.loop-y-test.false, c.args.self.now.grid.sound.sided)))

pub returns-2 : goal.returns-2
returns-2 c =
    let here = c.loop-y.invariant in
    let row = even_swept c.args.self.now.grid.sound here.swept.stand.row (left_swept here c.fill_run.ensures) in
    let on = passed_on here.swept.stand row in
    left_then here c.fill_run.ensures (passed_last on (omega (arith, c.args.self.now.grid.sound.sided)))
