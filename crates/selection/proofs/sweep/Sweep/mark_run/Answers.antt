-- `selection::sweep::Sweep::mark_run` meets its contract. The invariant: of the run every column before this one is final.
use Rattle.grid.proofs.OnGrid.{room}
use Rattle.grid.proofs.ByKind.{spread}
use Rattle.selection.proofs.Along.{begins, sited_here, marked, beyond}
use Rattle.selection.proofs.sweep.Sweep.mark_run.Goals as goal

pub loop-x-init : goal.loop-x-init
loop-x-init g c = begins c.requires.0 c.requires.1 c.requires.2

pub kept_dependent-kept-requires : goal.kept_dependent-kept-requires
kept_dependent-kept-requires g c =
    let l = rw c.args.self.now.grid.sound.sided at c.loop-x-test.true in sited_here c.requires.0 c.loop-x.invariant l

pub mark_of-requires : goal.mark_of-requires
mark_of-requires g c =
    let l = rw c.args.self.now.grid.sound.sided at c.loop-x-test.true in
    rw c.reach_of-reach.ensures (spread (sited_here c.requires.0 c.loop-x.invariant l))

pub bounds-marks-place : goal.bounds-marks-place
bounds-marks-place g c =
    let l = rw c.args.self.now.grid.sound.sided at c.loop-x-test.true in
    room c.loop-x.marks c.loop-x.invariant.final.long (sited_here c.requires.0 c.loop-x.invariant l).inside c.place.ensures

pub loop-x-preserved : goal.loop-x-preserved
loop-x-preserved g c =
    let w = c.args.self.now in
    let l = rw w.grid.sound.sided at c.loop-x-test.true in
    rw (c.place.ensures, c.requires.3)
    (marked w.survey.now w.limit c.requires.0 c.loop-x.invariant l c.kept_dependent-kept.ensures c.mark_of.ensures)

pub returns : goal.returns
returns g c =
    let l = rw c.args.self.now.grid.sound.sided at c.loop-x-test.false in beyond c.requires.0 c.loop-x.invariant l
