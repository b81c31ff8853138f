-- The strip as a call: its refusals, in their order, its answer, and what it writes. Document 02, K1. Definitions only.
use Rattle.std.specs.Prelude.{◌≡◌, cond, not, ◌||◌, List, ℕ, eqb, ltb, length}
use Rattle.grid.specs.Grid.{largest, samples}
use Rattle.grid.specs.Refusal.{accepted, size_above, wrong_length, bad_mark, not_closed, no_room}
use Rattle.mesh.specs.Triangles.{mesh}
use Rattle.mesh.specs.Closed.{good_marks, closed}
use Rattle.mesh.specs.Meshed.{Handed, kept_of, written_over}
use Rattle.strip.specs.Strip.{Corners, placed, strip_of}
use Rattle.strip.specs.declared.Stripped.{Stripped}

-- the triangles of the plain list, by their places, and their strip
abbrev pub triangles_of : Handed → List Corners
triangles_of h = placed h.m (mesh h.m (kept_of h))

unfoldable pub strip : Handed → List ℕ
strip h = strip_of (triangles_of h)

-- the first case that holds: 1, 2, 6, 7 as for triangles, then 8 where the buffer has fewer entries than the strip has places; or no refusal
unfoldable pub refusal : Handed → ℕ
refusal h =
    cond (ltb largest h.m) size_above
    (cond (not (eqb (length h.marks) (samples h.m))) wrong_length
    (cond (not (good_marks h.m h.marks)) bad_mark
    (cond (not (closed h.m (kept_of h))) not_closed
    (cond (ltb (length h.places) (length (strip h))) no_room accepted))))

-- accepted: 0, and the number of places; refused: the refusal's number, and with 8 the places needed, else 0
unfoldable pub answer_of : Handed → Stripped
answer_of h =
    record { refusal = refusal h; places = cond (eqb (refusal h) accepted || eqb (refusal h) no_room) (length (strip h)) 0 }

-- accepted: the strip, and behind it the buffer as it was; refused: the buffer stays untouched
unfoldable pub places_after : Handed → List ℕ
places_after h = cond (eqb (refusal h) accepted) (written_over (strip h) h.places) h.places

-- the promise: the answer, and the places at exit
pub record Strips (h : Handed) (r : Stripped) (places' : List ℕ) : Type 0 where
  pub answer : r ≡ answer_of h
  pub places : places' ≡ places_after h
