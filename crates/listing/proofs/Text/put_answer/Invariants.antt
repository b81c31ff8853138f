-- The loop's invariant: behind the first line those of the triangles so far are written, and the places of the others are left: how many, and which.
use Rattle.std.proofs.Common.{◌≡◌, ◌*◌, ◌-◌, ◌≤◌, length, take, drop}
use Rattle.std.specs.Slice.Iter.{chunks_exact_rest, chunks_exact_size}
use Rattle.mesh.specs.Meshed.{entries_each}
use Rattle.listing.specs.Text.{lines_of}
use Rattle.listing.specs.Inner.{line_room, Adds}
use Rattle.listing.proofs.Text.put_answer.Given as goal

abbrev pub invariant-loop-triangle : goal.invariant-loop-triangle
invariant-loop-triangle l =
    (length l.yielded ≤ l.triangles)
    × (chunks_exact_size l.triangle-iterator ≡ entries_each)
    × (length (chunks_exact_rest l.triangle-iterator) ≡ entries_each * l.triangles - entries_each * length l.yielded)
    × (chunks_exact_rest l.triangle-iterator ≡ drop (entries_each * length l.yielded) (take (entries_each * l.triangles) l.places))
    × Adds (line_room * length l.yielded) (lines_of (length l.yielded) l.places) l.initial.self l.self
