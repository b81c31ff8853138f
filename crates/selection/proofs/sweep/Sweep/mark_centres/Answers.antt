-- `selection::sweep::Sweep::mark_centres` meets its contract. The invariant: every row of centres below this one is final.
use Rattle.std.proofs.Common.{arith}
use Rattle.grid.proofs.Rows.{centre_kind}
use Rattle.selection.proofs.Sweeps.{power, asks, gives, centres_begin, centre_here, centre_on, centre_last}
use Rattle.selection.proofs.sweep.Sweep.mark_centres.Goals as goal

pub loop-y-init : goal.loop-y-init
loop-y-init c = centres_begin (power c.args.self.now.spaced) c.requires

pub mark_centre_row-requires : goal.mark_centre_row-requires
mark_centre_row-requires c =
    let l = rw c.args.self.now.grid.sound.sided at c.loop-y-test.true in
    let here = c.loop-y.invariant in
    let row = centre_here (power c.args.self.now.spaced) here l in
    (row.sited, centre_kind here.odd here.way, row.first, asks row here.final)

pub loop-y-preserved : goal.loop-y-preserved
loop-y-preserved c =
    let l = rw c.args.self.now.grid.sound.sided at c.loop-y-test.true in
    let w = power c.args.self.now.spaced in
    rw c.next-kind.ensures (centre_on w c.loop-y.invariant (gives (centre_here w c.loop-y.invariant l) c.mark_centre_row.ensures))

pub returns : goal.returns
returns c =
    let l = rw c.args.self.now.grid.sound.sided at c.loop-y-test.false in centre_last (power c.args.self.now.spaced) c.loop-y.invariant l

pub returns-2 : goal.returns-2
returns-2 c =
    let l = rw c.args.self.now.grid.sound.sided at c.loop-y-test.true in
    let w = power c.args.self.now.spaced in
    let last = centre_on w c.loop-y.invariant (gives (centre_here w c.loop-y.invariant l) c.mark_centre_row.ensures) in
    centre_last w last (omega (arith, c.args.self.now.grid.sound.sided))
