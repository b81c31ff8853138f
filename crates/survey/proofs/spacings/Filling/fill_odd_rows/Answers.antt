-- `survey::spacings::Filling::fill_odd_rows` meets its contract. The invariant: the heights are partly filled, and the rows behind are.
use native.Mathlib.Omega.{arith}
use Rattle.grid.specs.Grid.{at}
use Rattle.grid.specs.Inner.{Power, Spread}
use Rattle.survey.specs.Inner.{Row, RowFilled}
use Rattle.survey.proofs.Leaving.{left_none, left_then, left_so, asked, left_of}
use Rattle.survey.proofs.Rows.{odd_first, odd_spread, odd_on, passed_on, passed_last}
use Rattle.survey.proofs.Runs.{reach_small}
use Rattle.survey.proofs.spacings.Filling.fill_odd_rows.Goals as goal

pub loop-y-init : goal.loop-y-init
loop-y-init c = left_none _ (odd_first c.requires _ (rw c.args.self.now.grid.sound.sided))

pub fill_odd_row-requires : goal.fill_odd_row-requires
fill_odd_row-requires c =
    let here = c.loop-y.invariant in
    let sided = c.args.self.now.grid.sound.sided in
    asked here (λ m. Power m c.args.s × Row c.args.s 1 c.loop-y.y × Spread m (at c.args.s c.loop-y.y) c.loop-y.reach)
    (c.requires, here.swept.stand.passed.row, odd_spread c.requires here.swept.stand (omega (arith, sided, c.loop-y-test.true)))

pub overflow_sub-reach : goal.overflow_sub-reach
overflow_sub-reach c =
    let here = c.loop-y.invariant.swept.stand in
    let sound = c.args.self.now.grid.sound in
    reach_small sound c.requires here.passed.row (odd_spread c.requires here (omega (arith, sound.sided, c.loop-y-test.true)))

pub loop-y-preserved : goal.loop-y-preserved
loop-y-preserved c =
    let here = c.loop-y.invariant in
    let row = left_of here (λ m. RowFilled m c.fill_odd_row.new.self.heights.now c.args.s 1 c.loop-y.y) c.fill_odd_row.ensures in
    left_then here c.fill_odd_row.ensures (rw c.args.self.now.grid.sound.sided (odd_on c.requires here.swept.stand row))

pub returns : goal.returns
returns c =
    let here = c.loop-y.invariant in
    left_so here (passed_last here.swept.stand.passed (omega (arith, c.loop-y-test.false, c.args.self.now.grid.sound.sided)))

pub returns-2 : goal.returns-2
returns-2 c =
    let here = c.loop-y.invariant in
    let row = left_of here (λ m. RowFilled m c.fill_odd_row.new.self.heights.now c.args.s 1 c.loop-y.y) c.fill_odd_row.ensures in
    left_then here c.fill_odd_row.ensures (passed_last (passed_on here.swept.stand.passed row) (omega (arith, c.args.self.now.grid.sound.sided)))
