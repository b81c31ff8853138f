-- The measure is the number of cuts left. The invariant of both loops: what is written for the halves before this one stands in the buffer.
use Prim.Native.Nat.{◌≤◌}
use Rattle.mesh.specs.Inner.{kept_place, Put}
use Rattle.mesh.proofs.Halves.{written}
use Rattle.mesh.proofs.cut.+cutting.Given as goal

abbrev pub decreases-cut_at_centre : goal.decreases-cut_at_centre
decreases-cut_at_centre l = l.left

abbrev pub decreases-cut_at_edge : goal.decreases-cut_at_edge
decreases-cut_at_edge l = l.left

abbrev pub invariant-cut_at_centre-loop-p : goal.invariant-cut_at_centre-loop-p
invariant-cut_at_centre-loop-p l =
    (l.p-index ≤ 2) × Put (written (kept_place l.marks) l.left l.l l.a l.r l.centre l.p-index) l.at l.initial.places l.next l.places

abbrev pub invariant-cut_at_edge-loop-p : goal.invariant-cut_at_edge-loop-p
invariant-cut_at_edge-loop-p l =
    (l.p-index ≤ 2) × Put (written (kept_place l.marks) l.left l.l l.a l.r l.edge l.p-index) l.at l.initial.places l.next l.places
