-- `selection::sweep::Sweep::mark_centre_row` meets its contract: its two runs, or the one, mark every centre of the row.
use Rattle.std.proofs.Common.{sym}
use Rattle.selection.proofs.Along.{centre_stride, row_asks, first_column, first_gives, second_sited, second_column, second_asks, second_gives}
use Rattle.selection.proofs.sweep.Sweep.mark_centre_row.Goals as goal

pub mark_run-requires : goal.mark_run-requires
mark_run-requires c =
    let r = c.requires in (r.0, first_column r.0 r.1 r.2, row_asks r.0 r.2 r.3, sym (centre_stride r.1).0)

pub mark_run-requires-then-s-self : goal.mark_run-requires-then-s-self
mark_run-requires-then-s-self c =
    let r = c.requires in
    let l = rw c.args.self.now.grid.sound.sided at c.if-s-self.true in
    rw c.next.ensures (second_sited r.0 r.1 r.2 l, second_column r.0 r.1 r.2 l, second_asks r.0 r.1 r.2 l c.mark_run.ensures, sym (centre_stride r.1).1)

pub returns-then-s-self : goal.returns-then-s-self
returns-then-s-self c =
    let r = c.requires in
    let l = rw c.args.self.now.grid.sound.sided at c.if-s-self.true in
    second_gives r.0 r.1 r.2 l (rw c.next.ensures at c.mark_run-then-s-self.ensures)

pub returns-else-s-self : goal.returns-else-s-self
returns-else-s-self c =
    let r = c.requires in
    let l = rw c.args.self.now.grid.sound.sided at c.if-s-self.false in
    first_gives r.0 r.1 r.2 l c.mark_run.ensures
