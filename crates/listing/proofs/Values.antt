-- Values of document 01, computed from the definitions: what is printed of the program's sample, to the byte, and each refusal of the program, with what else was
-- wrong beside it.
use mathlib.Core.Path.{◌≡◌, refl, ◌∙◌}
use mathlib.Core.List.{List, [], ◌∷◌, ◌++◌, map}
use Prim.Native.Nat.{ℕ, ◌*◌, ◌-◌}
use lib.ListN.{replicate}
use Rattle.std.specs.Prelude.{Ok, Err}
use Rattle.grid.specs.Grid.{place, point, on_grid, midpoint}
use Rattle.grid.specs.Points.{level, spacing, units, is_corner, kind, ends, dependents}
use Rattle.survey.specs.Filled.{sample, height_by, height_of, filled}
use Rattle.selection.specs.Error.{error_by, exceeding}
use Rattle.selection.specs.Kept.{chain, kept}
use Rattle.selection.specs.Marks.{mark, marks_of}
use Rattle.selection.specs.Selected.{corner_void}
use Rattle.selection.specs.Selected.{refusal as selection_refusal}
use Rattle.mesh.specs.Triangles.{uncut, mesh, number}
use Rattle.frame.specs.Frame.{survey_in}
use Rattle.frame.specs.Frame.{answer_of as form_answer}
use Rattle.listing.specs.Program.{refusal, answer_in, places_in}
use Rattle.listing.specs.Text.{digits_by, decimal_of, lines_of, text_of, text_in}
use Rattle.listing.specs.Rule.{Shows}
use Rattle.listing.proofs.Rule.{shows_text}

-- length 24, a version, an m, a tolerance of three bytes behind a zero, heights 0 10 0 / 0 0 0 / 0 0 and the last
abbrev framed : ℕ → ℕ → ℕ → ℕ → ℕ → ℕ → List ℕ
framed version m a b c last =
    (0 ∷ 0 ∷ 0 ∷ 24 ∷ version ∷ m ∷ 0 ∷ a ∷ b ∷ c ∷ []) ++ (0 ∷ 0 ∷ 0 ∷ 10 ∷ replicate 12 0) ++ last ∷ 0 ∷ []

-- the places of the five triangles
pub printed : places_in (framed 1 1 0 0 5 0)
    ≡ 0 ∷ 1 ∷ 4 ∷ 4 ∷ 1 ∷ 2 ∷ 8 ∷ 4 ∷ 2 ∷ 6 ∷ 4 ∷ 8 ∷ 0 ∷ 4 ∷ 6 ∷ []
unfolding places_in refusal form_answer selection_refusal corner_void survey_in marks_of mark kept chain exceeding error_by filled height_of height_by sample on_grid place point ends dependents kind units spacing level is_corner mesh uncut midpoint
printed = refl

pub counted : answer_in (framed 1 1 0 0 5 0) ≡ Ok 5
unfolding answer_in refusal form_answer selection_refusal corner_void survey_in marks_of mark kept chain exceeding error_by filled height_of height_by sample on_grid place point ends dependents kind units spacing level is_corner number
counted = refl

-- a frame of m 1 with a tolerance, its heights zero but one, at a place
abbrev single : ℕ → ℕ → ℕ → List ℕ
single tolerance place height =
    (0 ∷ 0 ∷ 0 ∷ 24 ∷ 1 ∷ 1 ∷ 0 ∷ 0 ∷ 0 ∷ tolerance ∷ []) ++ replicate (2 * place) 0 ++ 0 ∷ height ∷ replicate (2 * (8 - place)) 0

-- a unit more of tolerance leaves a point out: 1 at (1,0), tolerance 0 and 1; 10 in the middle, tolerance 9 and 10
pub tolerated : map places_in (single 0 1 1 ∷ single 1 1 1 ∷ single 9 4 10 ∷ single 10 4 10 ∷ [])
    ≡ (0 ∷ 1 ∷ 4 ∷ 4 ∷ 1 ∷ 2 ∷ 8 ∷ 4 ∷ 2 ∷ 6 ∷ 4 ∷ 8 ∷ 0 ∷ 4 ∷ 6 ∷ [])
    ∷ (0 ∷ 2 ∷ 8 ∷ 8 ∷ 6 ∷ 0 ∷ [])
    ∷ (2 ∷ 4 ∷ 0 ∷ 8 ∷ 4 ∷ 2 ∷ 6 ∷ 4 ∷ 8 ∷ 0 ∷ 4 ∷ 6 ∷ [])
    ∷ (0 ∷ 2 ∷ 8 ∷ 8 ∷ 6 ∷ 0 ∷ []) ∷ []
unfolding places_in refusal form_answer selection_refusal corner_void survey_in marks_of mark kept chain exceeding error_by filled height_of height_by sample on_grid place point ends dependents kind units spacing level is_corner mesh uncut midpoint
tolerated = refl

pub tolerated_count : map answer_in (single 0 1 1 ∷ single 1 1 1 ∷ single 9 4 10 ∷ single 10 4 10 ∷ [])
    ≡ Ok 5 ∷ Ok 2 ∷ Ok 4 ∷ Ok 2 ∷ []
unfolding answer_in refusal form_answer selection_refusal corner_void survey_in marks_of mark kept chain exceeding error_by filled height_of height_by sample on_grid place point ends dependents kind units spacing level is_corner number
tolerated_count = refl

-- tolerance 65,535 is taken, 65,536 refused 4; a last height of -32768 is a void corner; then of several the first: another version
-- before m, m before the tolerance, the tolerance before the corner; and a byte too many before all that selection turns down
pub refusals : map refusal
    (framed 1 1 0 255 255 0 ∷ framed 1 1 1 0 0 0 ∷ framed 1 1 0 0 5 128 ∷ framed 2 6 1 0 0 128 ∷ framed 1 6 1 0 0 128 ∷ framed 1 1 1 0 0 128 ∷
    (framed 1 1 1 0 0 128 ++ 0 ∷ []) ∷ [])
    ≡ 0 ∷ 4 ∷ 3 ∷ 9 ∷ 1 ∷ 4 ∷ 9 ∷ []
unfolding refusal form_answer selection_refusal corner_void survey_in sample on_grid place point
refusals = refl

-- a refusal has no triangles, and no places
pub refused : (answer_in (framed 1 1 1 0 0 0) ≡ Err 4) × (places_in (framed 1 1 1 0 0 0) ≡ [])
unfolding answer_in places_in refusal form_answer selection_refusal survey_in on_grid
refused = (refl, refl)

-- all 34 bytes that are printed of the sample, line by line
abbrev sample_text : List ℕ
sample_text =
    (84 ∷ 32 ∷ 53 ∷ 10 ∷ [])
    ++ (48 ∷ 32 ∷ 49 ∷ 32 ∷ 52 ∷ 10 ∷ [])
    ++ (52 ∷ 32 ∷ 49 ∷ 32 ∷ 50 ∷ 10 ∷ [])
    ++ (56 ∷ 32 ∷ 52 ∷ 32 ∷ 50 ∷ 10 ∷ [])
    ++ (54 ∷ 32 ∷ 52 ∷ 32 ∷ 56 ∷ 10 ∷ [])
    ++ (48 ∷ 32 ∷ 52 ∷ 32 ∷ 54 ∷ 10 ∷ [])

pub sample_text_lem : text_in (framed 1 1 0 0 5 0) ≡ sample_text
unfolding text_of lines_of digits_by answer_in places_in refusal form_answer selection_refusal corner_void survey_in marks_of mark kept chain exceeding error_by filled height_of height_by sample on_grid place point ends dependents kind units spacing level is_corner mesh uncut midpoint number
sample_text_lem = refl

-- and the document's sentences show no other text of it, such as `refused 8`
pub sample_only : {text : List ℕ} → Shows (framed 1 1 0 0 5 0) text → text ≡ sample_text
sample_only s = shows_text s ∙ sample_text_lem

-- `refused 4`, and numbers of more digits than one
pub refused_text : text_in (framed 1 1 1 0 0 0) ≡ 114 ∷ 101 ∷ 102 ∷ 117 ∷ 115 ∷ 101 ∷ 100 ∷ 32 ∷ 52 ∷ 10 ∷ []
unfolding text_of digits_by answer_in places_in refusal form_answer selection_refusal survey_in on_grid
refused_text = refl

pub decimals : map decimal_of (0 ∷ 9 ∷ 10 ∷ 100 ∷ 1_088 ∷ [])
    ≡ (48 ∷ []) ∷ (57 ∷ []) ∷ (49 ∷ 48 ∷ []) ∷ (49 ∷ 48 ∷ 48 ∷ []) ∷ (49 ∷ 48 ∷ 56 ∷ 56 ∷ []) ∷ []
unfolding digits_by
decimals = refl
