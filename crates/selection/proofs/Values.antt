-- Values of document 01, computed from the definitions: the marks, heights and counts of examples 2, 3, 4, 8, 9 and 10, and of a grid in
-- which a void is an end; example 11, and each refusal, with what else was wrong beside it. So a slip in a definition that no law would notice is noticed here.
use Rattle.std.proofs.Common.{◌≡◌, ℕ, List, [], ◌∷◌, ◌++◌, map, replicate, ℤ, pos, negsuc, refl}
use Rattle.grid.specs.Grid.{void, place, point, on_grid}
use Rattle.grid.specs.Points.{level, spacing, units, is_corner, kind, ends, dependents}
use Rattle.survey.specs.Filled.{sample, height_by, height_of, filled}
use Rattle.selection.specs.Error.{doubled_error, error_by, exceeding}
use Rattle.selection.specs.Kept.{chain, kept}
use Rattle.selection.specs.Marks.{mark, marks_of}
use Rattle.selection.specs.Selected.{Handed, handed, corner_void, refusal, answer_of, marks_after, heights_after}
use Rattle.selection.specs.declared.Selected.{Selected}

-- a call of size m: the survey, the tolerance, and buffers that hold nines
abbrev call : ℕ → ℕ → ℕ → List ℤ → Handed
call m n t survey = handed survey m t (replicate n 9) (replicate n (pos 9))

abbrev answer : ℕ → ℕ → ℕ → ℕ → Selected
answer r a b c = record { refusal = r; own = a; dependent = b; voids = c }

-- P: zero but 10 in the middle; Q: zero but 10 at (1,0); V: corners (0,0) -3 and (2,2) -4, middle void, the rest 0
abbrev p : List ℤ
p = replicate 4 (pos 0) ++ pos 10 ∷ replicate 4 (pos 0)

abbrev q : List ℤ
q = pos 0 ∷ pos 10 ∷ replicate 7 (pos 0)

abbrev v : ℤ → List ℤ
v middle = negsuc 2 ∷ pos 0 ∷ pos 0 ∷ pos 0 ∷ middle ∷ pos 0 ∷ pos 0 ∷ pos 0 ∷ negsuc 3 ∷ []

-- twice 10 less 0 and 0; twice -4 less -3 and -4
pub errors : doubled_error (pos 10) (pos 0) (pos 0) ∷ doubled_error (negsuc 3) (negsuc 2) (negsuc 3) ∷ [] ≡ 20 ∷ 1 ∷ []
errors = refl

-- examples 2 and 3, P at tolerance 9 and 10, where the error equals the tolerance; 4, Q at 5; 8 and 9, V at 1 and at 5; 10, m = 2,
-- zero but 10 at (1,0), tolerance 4
abbrev ten : Handed
ten = call 2 25 4 (pos 0 ∷ pos 10 ∷ replicate 23 (pos 0))

-- a void that is an end of surveyed points, (1,0) and (3,0): its height, not its sample, is what they lie off; m = 2, zero but (2,0)
-- void, tolerance 5
abbrev flat : ℤ → List ℤ
flat end = pos 0 ∷ pos 0 ∷ end ∷ replicate 22 (pos 0)

abbrev examples : List Handed
examples = call 1 9 9 p ∷ call 1 9 10 p ∷ call 1 9 5 q ∷ call 1 9 1 (v void) ∷ call 1 9 5 (v void) ∷ ten ∷ call 2 25 5 (flat void) ∷ []

pub example_marks : map marks_after examples
    ≡ (3 ∷ 0 ∷ 3 ∷ 0 ∷ 1 ∷ 0 ∷ 3 ∷ 0 ∷ 3 ∷ []) ∷
    (3 ∷ 0 ∷ 3 ∷ 0 ∷ 0 ∷ 0 ∷ 3 ∷ 0 ∷ 3 ∷ []) ∷
    (3 ∷ 1 ∷ 3 ∷ 0 ∷ 2 ∷ 0 ∷ 3 ∷ 0 ∷ 3 ∷ []) ∷
    (3 ∷ 1 ∷ 3 ∷ 1 ∷ 6 ∷ 1 ∷ 3 ∷ 1 ∷ 3 ∷ []) ∷
    (3 ∷ 0 ∷ 3 ∷ 0 ∷ 4 ∷ 0 ∷ 3 ∷ 0 ∷ 3 ∷ []) ∷
    (3 ∷ 1 ∷ 2 ∷ 0 ∷ 3 ∷ 0 ∷ 2 ∷ 0 ∷ 0 ∷ 0 ∷ 2 ∷ 0 ∷ 2 ∷ 0 ∷ 0 ∷ 0 ∷ 0 ∷ 0 ∷ 0 ∷ 0 ∷ 3 ∷ 0 ∷ 0 ∷ 0 ∷ 3 ∷ []) ∷
    (3 ∷ 0 ∷ 4 ∷ 0 ∷ 3 ∷ replicate 15 0 ++ 3 ∷ 0 ∷ 0 ∷ 0 ∷ 3 ∷ []) ∷
    []
unfolding marks_after refusal corner_void marks_of mark kept chain exceeding error_by filled height_of height_by sample on_grid place point ends dependents kind units spacing level is_corner
example_marks = refl

pub example_heights : map heights_after examples ≡ p ∷ p ∷ q ∷ v (negsuc 3) ∷ v (negsuc 3) ∷ ten.survey ∷ flat (pos 0) ∷ []
unfolding heights_after refusal corner_void filled height_of height_by sample on_grid place point ends kind units spacing level is_corner
example_heights = refl

pub example_answers : map answer_of examples ≡ answer 0 1 0 0 ∷ answer 0 0 0 0 ∷ answer 0 1 1 0 ∷ answer 0 4 1 1 ∷ answer 0 0 0 1 ∷ answer 0 1 4 0 ∷ answer 0 0 0 1 ∷ []
unfolding answer_of refusal corner_void marks_of mark kept chain exceeding error_by filled height_of height_by sample on_grid place point ends dependents kind units spacing level is_corner
example_answers = refl

-- each refusal, and of two the first in the order 1, 2, 4, 3: a size that is none, a buffer too long or too short, a tolerance above
-- 65,535, a void corner
abbrev cornered : List ℤ
cornered = void ∷ replicate 8 (pos 0)

pub refusals : map refusal
    (call 1 9 65535 q ∷ call 1 9 65536 q ∷ call 8 9 5 q ∷ call 1 9 5 cornered ∷ call 1 8 5 q ∷ handed q 1 5 (replicate 10 0) q ∷
    handed q 1 5 (replicate 9 0) [] ∷ call 2 25 5 q ∷ call 8 1 65536 cornered ∷ call 1 8 65536 cornered ∷ call 1 9 65536 cornered ∷ [])
    ≡ 0 ∷ 4 ∷ 1 ∷ 3 ∷ 2 ∷ 2 ∷ 2 ∷ 2 ∷ 1 ∷ 2 ∷ 4 ∷ []
unfolding refusal corner_void sample place
refusals = refl

-- a refusal leaves the buffers as they were, and its counts are 0
pub refused : (answer_of (call 1 9 65536 q) ≡ answer 4 0 0 0) × (marks_after (call 1 9 65536 q) ≡ replicate 9 9)
    × (heights_after (call 1 9 65536 q) ≡ replicate 9 (pos 9))
unfolding answer_of marks_after heights_after refusal
refused = (refl, refl, refl)
