-- `selection::sweep::Sweep::mark_edges` meets its contract. The invariant: every row of edge points below this one is final.
use Rattle.std.proofs.Common.{refl, arith}
use Rattle.selection.proofs.Along.{row_asks, row_gives}
use Rattle.selection.proofs.Sweeps.{power, asks, gives, edge_east, edge_north, edge_on, edges_end, last_row, edges_done}
use Rattle.selection.proofs.sweep.Sweep.mark_edges.Goals as goal
use Rattle.selection.proofs.sweep.Sweep.mark_edges.Goals.{else-loop-y-test, then-loop-y-test+else-y-step-n}

pub mark_run-requires : goal.mark_run-requires
mark_run-requires c =
    let here = c.loop-y.invariant in
    let row = edge_east (power c.args.self.now.spaced) here in
    (row.sited, omega (arith, row.first), row_asks row.sited row.first (asks row here.final), refl)

pub mark_run-requires-in-loop-y : goal.mark_run-requires-in-loop-y
mark_run-requires-in-loop-y c =
    let here = c.loop-y.invariant in
    let w = power c.args.self.now.spaced in
    let l = rw c.args.self.now.grid.sound.sided at c.loop-y-test.true in
    let east = edge_east w here in
    let row = edge_north w here l in
    (row.sited, omega (arith, row.first), row_asks row.sited row.first (asks row (gives east (row_gives east.sited east.first (omega arith) c.mark_run.ensures))), refl)

pub loop-y-preserved : goal.loop-y-preserved
loop-y-preserved c =
    let here = c.loop-y.invariant in
    let w = power c.args.self.now.spaced in
    let l = rw c.args.self.now.grid.sound.sided at c.loop-y-test.true in
    let row = edge_north w here l in
    edge_on w here l (gives row (row_gives row.sited row.first (omega arith) c.mark_run-in-loop-y.ensures))

pub mark_run-requires-2 : goal.mark_run-requires-2
mark_run-requires-2 c =
    let here = c.loop-y.invariant in
    let w = power c.args.self.now.spaced in
    let row = last_row w in
    rw c.args.self.now.grid.sound.sided (
      row.sited,
      omega (arith, row.first),
      row_asks row.sited row.first (
          elim c.loop-y-test.branch [
            | else-loop-y-test b ↦
                (let l = rw c.args.self.now.grid.sound.sided at b.loop-y-test.false in
                let last = edges_end w here l in
                rw b.marks-is (asks (edge_east w last) last.final))
            | then-loop-y-test+else-y-step-n b ↦
                (let l = rw c.args.self.now.grid.sound.sided at b.loop-y-test.true in
                let row = edge_north w here l in
                let next = edge_on w here l (gives row (row_gives row.sited row.first (omega arith) b.mark_run-in-loop-y.ensures)) in
                let last = edges_end w next (omega (arith, c.args.self.now.grid.sound.sided)) in
                rw b.marks-is (asks (edge_east w last) last.final))
          ]
          ),
      refl,
    )

pub returns : goal.returns
returns c =
    let w = power c.args.self.now.spaced in
    let row = last_row w in
    edges_done w (gives row (row_gives row.sited row.first (omega arith) (rw c.args.self.now.grid.sound.sided at c.mark_run-2.ensures)))
