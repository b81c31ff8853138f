-- `selection::marks::count_on` meets its contract. The invariant: each number counts the marks before this one.
use Rattle.std.proofs.Common.{◌≡◌, take}
use Rattle.grid.specs.Mark.{filled_mark}
use Rattle.selection.specs.Marks.{count, marked_own, marked_dependence}
use Rattle.selection.proofs.marks.count_on.Given as goal

abbrev pub invariant-loop-mark : goal.invariant-loop-mark
invariant-loop-mark l =
    let before = take l.mark-index l.few in
    (l.own ≡ count marked_own before) × (l.dependent ≡ count marked_dependence before) × (l.voids ≡ count filled_mark before)
