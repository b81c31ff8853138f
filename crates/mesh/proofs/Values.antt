-- Values of document 01, computed from the definitions: the places and answers of examples 1, 2, 3, 8, 9, 10 and 12 and of the program's
-- sample, one list of size 3 cut down to its finest triangles, and each refusal, with what else was wrong beside it. The order of the
-- triangles and of their corners, which the laws share with the definitions, is pinned here.
use mathlib.Core.Path.{◌≡◌, refl}
use mathlib.Core.List.{List, [], ◌∷◌, ◌++◌, map}
use Prim.Native.Nat.{ℕ}
use lib.ListN.{replicate, take}
use Rattle.grid.specs.Grid.{place, point, on_grid, midpoint}
use Rattle.grid.specs.Points.{level, spacing, units, is_corner, kind, depends_on}
use Rattle.mesh.specs.Triangles.{uncut, mesh, number}
use Rattle.mesh.specs.Closed.{good_marks, supported, closed}
use Rattle.mesh.specs.Meshed.{Handed, handed, refusal, answer_of, places_after}
use Rattle.mesh.proofs.Answered.{answering as answer}

-- a call of size m: the entries of room, which hold nines, and the marks
abbrev call : ℕ → ℕ → List ℕ → Handed
call m room marks = handed marks m (replicate room 9)

-- marks of the 3×3 grid: the same on all four sides, and the middle; those of the corners, with the middle kept; Q's, by the middle
abbrev square : ℕ → ℕ → List ℕ
square side middle = 3 ∷ side ∷ 3 ∷ side ∷ middle ∷ side ∷ 3 ∷ side ∷ 3 ∷ []

abbrev cornered : ℕ → ℕ → ℕ → ℕ → List ℕ
cornered sw se nw ne = sw ∷ 0 ∷ se ∷ 0 ∷ 1 ∷ 0 ∷ nw ∷ 0 ∷ ne ∷ []

abbrev q : ℕ → List ℕ
q middle = 3 ∷ 1 ∷ 3 ∷ 0 ∷ middle ∷ 0 ∷ 3 ∷ 0 ∷ 3 ∷ []

-- marks of size 2: those of (1,0), (2,0), (1,1), (0,2) and (2,2); all others but the grid corners are left out
abbrev ten : ℕ → ℕ → ℕ → ℕ → ℕ → List ℕ
ten a b c d e =
    (3 ∷ a ∷ b ∷ 0 ∷ 3 ∷ 0 ∷ c ∷ 0 ∷ 0 ∷ 0 ∷ d ∷ 0 ∷ e ∷ 0 ∷ 0 ∷ []) ++ (0 ∷ 0 ∷ 0 ∷ 0 ∷ 0 ∷ 3 ∷ 0 ∷ 0 ∷ 0 ∷ 3 ∷ [])

-- marks of size 3: zero but 10 at (1,0), tolerance 4
abbrev fine : List ℕ
fine =
    (3 ∷ 1 ∷ 2 ∷ 0 ∷ 2 ∷ 0 ∷ 0 ∷ 0 ∷ 3 ∷ 0 ∷ 2 ∷ replicate 7 0) ++ (2 ∷ 0 ∷ 2 ∷ replicate 15 0) ++ (2 ∷ 0 ∷ 0 ∷ 0 ∷ 2 ∷ replicate 31 0)
    ++ (3 ∷ replicate 7 0) ++ 3 ∷ []

-- examples 1, 2 and 3; the program's sample, with the 15 entries of example 12 and with two more; 8 and 9; 10; a middle marked 2, and 6,
-- for no reason; the marks of size 3
abbrev examples : List Handed
examples =
    call 0 6 (replicate 4 3) ∷ call 1 12 (square 0 1) ∷ call 1 6 (square 0 0) ∷ call 1 15 (q 2) ∷ call 1 17 (q 2) ∷
    call 1 24 (square 1 6) ∷ call 1 6 (square 0 4) ∷ call 2 27 (ten 1 2 2 2 2) ∷ call 1 12 (square 0 2) ∷ call 1 12 (square 0 6) ∷
    call 3 39 fine ∷ []

abbrev sample : List ℕ
sample = 0 ∷ 1 ∷ 4 ∷ 4 ∷ 1 ∷ 2 ∷ 8 ∷ 4 ∷ 2 ∷ 6 ∷ 4 ∷ 8 ∷ 0 ∷ 4 ∷ 6 ∷ []

abbrev centred : List ℕ
centred = 2 ∷ 4 ∷ 0 ∷ 8 ∷ 4 ∷ 2 ∷ 6 ∷ 4 ∷ 8 ∷ 0 ∷ 4 ∷ 6 ∷ []

abbrev whole : List ℕ
whole = 0 ∷ 2 ∷ 8 ∷ 8 ∷ 6 ∷ 0 ∷ []

pub example_places : map places_after examples
    ≡ (0 ∷ 1 ∷ 3 ∷ 3 ∷ 2 ∷ 0 ∷ []) ∷
    centred ∷
    whole ∷
    sample ∷
    (sample ++ 9 ∷ 9 ∷ []) ∷
    (0 ∷ 1 ∷ 4 ∷ 4 ∷ 1 ∷ 2 ∷ 2 ∷ 5 ∷ 4 ∷ 4 ∷ 5 ∷ 8 ∷ 8 ∷ 7 ∷ 4 ∷ 4 ∷ 7 ∷ 6 ∷ 6 ∷ 3 ∷ 4 ∷ 4 ∷ 3 ∷ 0 ∷ []) ∷
    whole ∷
    (0 ∷ 1 ∷ 6 ∷ 6 ∷ 1 ∷ 2 ∷ 12 ∷ 6 ∷ 2 ∷ 12 ∷ 2 ∷ 4 ∷ 24 ∷ 12 ∷ 4 ∷ 20 ∷ 12 ∷ 24 ∷ 20 ∷ 10 ∷ 12 ∷ 10 ∷ 6 ∷ 12 ∷ 0 ∷ 6 ∷ 10 ∷ []) ∷
    centred ∷
    centred ∷
    ((0 ∷ 1 ∷ 10 ∷ 10 ∷ 1 ∷ 2 ∷ 20 ∷ 10 ∷ 2 ∷ 20 ∷ 2 ∷ 4 ∷ 40 ∷ 20 ∷ 4 ∷ 40 ∷ 4 ∷ 8 ∷ []) ++ 80 ∷ 40 ∷ 8 ∷ 72 ∷ 40 ∷ 80 ∷ 72 ∷ 36 ∷ 40 ∷ 36 ∷ 20 ∷ 40 ∷ 36 ∷ 18 ∷ 20 ∷ 18 ∷ 10 ∷ 20 ∷ 0 ∷ 10 ∷ 18 ∷ []) ∷
    []
unfolding places_after refusal good_marks closed supported number mesh uncut on_grid place point midpoint depends_on kind units spacing level is_corner
example_places = refl

pub example_answers : map answer_of examples
    ≡ answer 0 2 ∷ answer 0 4 ∷ answer 0 2 ∷ answer 0 5 ∷ answer 0 5 ∷ answer 0 8 ∷ answer 0 2 ∷ answer 0 9 ∷ answer 0 4 ∷ answer 0 4 ∷
    answer 0 13 ∷ []
unfolding answer_of refusal good_marks closed supported number on_grid place point depends_on kind units spacing level is_corner
example_answers = refl

-- Refused, a line each: example 12, with the middle left out, then a void left out there, then 14 entries of room, then none; a size
-- that is none, a mark too few, one too many, the marks of another size, none of the largest; marks of 5, 7, 3, 9 and 255 at no grid
-- corner, of 0 at one, of 1 at each of the others; example 10's marks without one of the points that others depend on; and of several refusals the first in the order 1, 2, 6, 7, 8
abbrev refused : List Handed
refused =
    call 1 15 (q 0) ∷ call 1 15 (q 4) ∷ call 1 14 (q 2) ∷ call 1 0 (q 2) ∷
    call 8 15 (q 2) ∷ call 1 15 (take 8 (q 2)) ∷ call 1 15 (q 2 ++ 0 ∷ []) ∷ call 2 15 (q 2) ∷ call 7 0 [] ∷
    call 1 15 (q 5) ∷ call 1 15 (q 7) ∷ call 1 15 (q 3) ∷ call 1 15 (q 9) ∷ call 1 15 (q 255) ∷ call 1 15 (cornered 0 3 3 3) ∷
    call 1 15 (cornered 3 1 3 3) ∷ call 1 15 (cornered 3 3 1 3) ∷ call 1 15 (cornered 3 3 3 1) ∷
    call 2 27 (ten 1 0 2 2 2) ∷ call 2 27 (ten 1 2 0 2 2) ∷ call 2 27 (ten 1 2 2 0 2) ∷ call 2 27 (ten 1 2 2 2 0) ∷
    call 8 0 (7 ∷ []) ∷ call 1 0 (7 ∷ []) ∷ call 1 0 (q 7) ∷ call 1 0 (q 0) ∷ []

pub refused_answers : map answer_of refused
    ≡ answer 7 0 ∷ answer 7 0 ∷ answer 8 5 ∷ answer 8 5 ∷
    answer 1 0 ∷ answer 2 0 ∷ answer 2 0 ∷ answer 2 0 ∷ answer 2 0 ∷
    answer 6 0 ∷ answer 6 0 ∷ answer 6 0 ∷ answer 6 0 ∷ answer 6 0 ∷ answer 6 0 ∷
    answer 6 0 ∷ answer 6 0 ∷ answer 6 0 ∷
    answer 7 0 ∷ answer 7 0 ∷ answer 7 0 ∷ answer 7 0 ∷
    answer 1 0 ∷ answer 2 0 ∷ answer 6 0 ∷ answer 7 0 ∷ []
unfolding answer_of refusal good_marks closed supported number on_grid place point depends_on kind units spacing level is_corner
refused_answers = refl

-- each leaves its buffer as it was
pub refused_places : map places_after refused ≡ map (λ h. h.places) refused
unfolding places_after refusal good_marks closed supported number on_grid place point depends_on kind units spacing level is_corner
refused_places = refl
