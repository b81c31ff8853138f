-- `survey::spacings::Filling::fill_odd_row` meets its contract: its edge points are a run, its centres are two.
use Rattle.survey.proofs.Leaving.{left_then, left_swept, left_two, run_asked}
use Rattle.survey.proofs.Runs.{odd_run, reach_small, first_run, second_run, odd_swept}
use Rattle.survey.proofs.spacings.Filling.fill_odd_row.Goals as goal

pub fill_run-requires : goal.fill_run-requires
fill_run-requires c = odd_run c.args.self.now.grid.sound c.requires.0 c.requires.1 c.requires.2

pub fill_run-requires-2 : goal.fill_run-requires-2
fill_run-requires-2 c =
    run_asked c.fill_run.ensures (first_run c.args.self.now.grid.sound c.requires.0 c.requires.1 c.requires.2)

pub overflow_sub-up : goal.overflow_sub-up
overflow_sub-up c = reach_small c.args.self.now.grid.sound c.requires.0 c.requires.1 c.requires.2

pub fill_run-requires-3 : goal.fill_run-requires-3
fill_run-requires-3 c =
    run_asked (left_two c.fill_run.ensures c.fill_run-2.ensures)
    (second_run c.args.self.now.grid.sound c.requires.0 c.requires.1 c.requires.2)

pub returns : goal.returns
returns c =
    let two = left_two c.fill_run.ensures c.fill_run-2.ensures in
    let row =
    odd_swept c.args.self.now.grid.sound c.requires.0 c.requires.1 c.requires.2 c.fill_run.ensures.swept
    (left_swept c.fill_run.ensures c.fill_run-2.ensures) (left_swept two c.fill_run-3.ensures) in
    left_then two c.fill_run-3.ensures row.stand
