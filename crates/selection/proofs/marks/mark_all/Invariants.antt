-- `selection::marks::mark_all` meets its contract. The invariant: below this spacing every rank is final.
use Rattle.std.proofs.Common.{◌*◌}
use Rattle.selection.specs.Inner.{mark_over, Final, Swept}
use Rattle.selection.proofs.marks.mark_all.Given as goal

abbrev pub invariant-loop-k : goal.invariant-loop-k
invariant-loop-k l = Final l.grid.m (mark_over l.grid.m l.survey l.limit) (Swept l.grid.m (2 * l.k) 0) l.marks
