-- What the program answers of an input: the refusal's number, or the count of triangles and their places. Document 01, "The program". How they are
-- printed is `Text`. Definitions only.
use Rattle.std.specs.Prelude.{Bool, cond, List, [], ℕ, eqb, replicate, pos, Result, Ok, Err}
use Rattle.grid.specs.Grid.{samples}
use Rattle.grid.specs.Refusal.{accepted}
use Rattle.grid.specs.declared.points.Point.{Point}
use Rattle.frame.specs.Frame.{size_in, tolerance_in, survey_in}
use Rattle.frame.specs.Frame.{refusal as form_refusal}
use Rattle.selection.specs.Selected.{Handed as Selecting, marks_by}
use Rattle.selection.specs.Selected.{handed as selecting, refusal as selection_refusal}
use Rattle.mesh.specs.Closed.{kept_by}
use Rattle.mesh.specs.Triangles.{mesh, places_of, number}

-- what selection is handed: the frame's heights, m and tolerance, and two buffers of (N+1)² entries (zeros: what they hold does not matter)
abbrev pub selected : List ℕ → Selecting
selected input =
    let n = samples (size_in input) in
    selecting (survey_in input) (size_in input) (tolerance_in input) (replicate n 0) (replicate n (pos 0))

-- the input's own refusals, then selection's own; or no refusal
unfoldable pub refusal : List ℕ → ℕ
refusal input = cond (eqb (form_refusal input) accepted) (selection_refusal (selected input)) (form_refusal input)

-- the points that selection keeps, by the marks that it writes
abbrev pub kept_in : List ℕ → Point → Bool
kept_in input = kept_by (size_in input) (marks_by (selected input))

-- accepted: document 01's count of the triangles of these points; refused: the number
unfoldable pub answer_in : List ℕ → Result ℕ ℕ
answer_in input = cond (eqb (refusal input) accepted) (Ok (number (size_in input) (kept_in input))) (Err (refusal input))

-- the places of the uncut triangles that these points lead to, three each; refused: none
unfoldable pub places_in : List ℕ → List ℕ
places_in input = cond (eqb (refusal input) accepted) (places_of (size_in input) (mesh (size_in input) (kept_in input))) []
