-- `selection::marks::mark_corners` meets its contract. The invariant: the corners listed before this one are marked.
use Rattle.std.proofs.Common.{◌≡◌, ℕ, ◌<◌, get_or}
use Rattle.grid.specs.Mark.{for_corner}
use Rattle.grid.specs.Grid.{corners}
use Rattle.selection.specs.Inner.{Final}
use Rattle.selection.proofs.marks.mark_corners.Given as goal

abbrev pub invariant-loop-p : goal.invariant-loop-p
invariant-loop-p l =
    Final l.grid.m (λ p. for_corner) (λ p. (k : ℕ) × (k < l.p-index) × (p ≡ get_or (corners l.grid.m) k p)) l.marks
