-- Triangles as a whole: the refusals, in their order, the answer, and what is written. Document 01, "Triangles", "What a call may
-- turn down". Definitions only.
use Rattle.std.specs.Prelude.{◌≡◌, Bool, cond, not, ◌||◌, List, ◌++◌, ℕ, ◌*◌, eqb, ltb, length, drop}
use Rattle.grid.specs.Grid.{largest, samples}
use Rattle.grid.specs.Refusal.{accepted, size_above, wrong_length, bad_mark, not_closed, no_room}
use Rattle.grid.specs.declared.points.Point.{Point}
use Rattle.mesh.specs.Triangles.{mesh, places_of, number}
use Rattle.mesh.specs.Closed.{good_marks, kept_by, closed}
use Rattle.mesh.specs.declared.Meshed.{Meshed}

-- what the call is handed: the marks, which it only reads, the size, and the buffer for the places as it is before the call. Refusal 2
-- concerns the marks alone: the places are no sample buffer, and a buffer too short for them is refusal 8.
pub record Handed : Type 0 where
  pub marks : List ℕ
  pub m : ℕ
  pub places : List ℕ

abbrev pub handed : List ℕ → ℕ → List ℕ → Handed
handed marks m places = record { marks = marks; m = m; places = places }

-- the points that the marks keep
abbrev pub kept_of : Handed → Point → Bool
kept_of h = kept_by h.m h.marks

-- document 01's count of their triangles: of a closed set, the one case in which it is used, it is their number
abbrev pub needed : Handed → ℕ
needed h = number h.m (kept_of h)

-- each triangle takes three entries
abbrev pub entries_each : ℕ
entries_each = 3

-- the buffer has fewer than three entries per triangle
abbrev pub no_room_for : ℕ → ℕ → Bool
no_room_for triangles room = ltb room (entries_each * triangles)

-- the first case that holds, in the order 1, 2, 6, 7, 8; or no refusal
unfoldable pub refusal : Handed → ℕ
refusal h =
    cond (ltb largest h.m) size_above
    (cond (not (eqb (length h.marks) (samples h.m))) wrong_length
    (cond (not (good_marks h.m h.marks)) bad_mark
    (cond (not (closed h.m (kept_of h))) not_closed
    (cond (no_room_for (needed h) (length h.places)) no_room accepted))))

-- accepted: 0, and the number of triangles; refused: the refusal's number, and with 8 the number of triangles needed, else 0
unfoldable pub answer_of : Handed → Meshed
answer_of h =
    record { refusal = refusal h; triangles = cond (eqb (refusal h) accepted || eqb (refusal h) no_room) (needed h) 0 }

-- a list written over the beginning of a buffer: entries past the last one written are untouched
abbrev pub written_over : List ℕ → List ℕ → List ℕ
written_over list buffer = list ++ drop (length list) buffer

-- accepted: the uncut triangles, three places each, and behind them the buffer as it was; refused: the buffer stays untouched
unfoldable pub places_after : Handed → List ℕ
places_after h = cond (eqb (refusal h) accepted) (written_over (places_of h.m (mesh h.m (kept_of h))) h.places) h.places

-- the promise: the answer, and the places at exit
pub record Meshes (h : Handed) (r : Meshed) (places' : List ℕ) : Type 0 where
  pub answer : r ≡ answer_of h
  pub places : places' ≡ places_after h
