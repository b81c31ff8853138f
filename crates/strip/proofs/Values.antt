-- Values of K1, computed from the definitions: strips of meshes of document 01's examples, as they are written and
-- as they are read, and each refusal, with what else was wrong beside it. The corner that the first triangle begins at, which of a pair is repeated
-- and which windows are turned over, which the laws share with the definitions, is pinned here.
use mathlib.Core.Path.{◌≡◌, refl}
use mathlib.Core.List.{List, [], ◌∷◌, ◌++◌, map}
use Prim.Native.Nat.{ℕ}
use lib.ListN.{replicate, take}
use Rattle.grid.specs.Grid.{place, point, on_grid, midpoint}
use Rattle.grid.specs.Points.{level, spacing, units, is_corner, kind, depends_on}
use Rattle.mesh.specs.Triangles.{uncut, mesh}
use Rattle.mesh.specs.Closed.{good_marks, supported, closed}
use Rattle.mesh.specs.Meshed.{Handed, handed}
use Rattle.strip.specs.Strip.{corners, going_on, strip_of}
use Rattle.strip.specs.Reading.{reading, read_strip}
use Rattle.strip.specs.Stripped.{strip, refusal, answer_of, places_after}
use Rattle.strip.specs.declared.Stripped.{Stripped}

-- a call of size m: the entries of room, which hold nines, and the marks
abbrev call : ℕ → ℕ → List ℕ → Handed
call m room marks = handed marks m (replicate room 9)

abbrev answer : ℕ → ℕ → Stripped
answer number places = record { refusal = number; places = places }

-- marks of the 3×3 grid: the same on all four sides, and the middle; Q's, by the middle
abbrev square : ℕ → ℕ → List ℕ
square side middle = 3 ∷ side ∷ 3 ∷ side ∷ middle ∷ side ∷ 3 ∷ side ∷ 3 ∷ []

abbrev q : ℕ → List ℕ
q middle = 3 ∷ 1 ∷ 3 ∷ 0 ∷ middle ∷ 0 ∷ 3 ∷ 0 ∷ 3 ∷ []

-- example 10's marks
abbrev ten : List ℕ
ten = (3 ∷ 1 ∷ 2 ∷ 0 ∷ 3 ∷ 0 ∷ 2 ∷ 0 ∷ 0 ∷ 0 ∷ 2 ∷ 0 ∷ 2 ∷ 0 ∷ 0 ∷ []) ++ (0 ∷ 0 ∷ 0 ∷ 0 ∷ 0 ∷ 3 ∷ 0 ∷ 0 ∷ 0 ∷ 3 ∷ [])

-- the smallest patch; P, with the middle kept and left out; Q, with the entries needed and with two more; every point kept; example 10
abbrev examples : List Handed
examples =
    call 0 4 (replicate 4 3) ∷ call 1 7 (square 0 1) ∷ call 1 4 (square 0 0) ∷ call 1 9 (q 2) ∷ call 1 11 (q 2) ∷ call 1 15 (square 1 6) ∷
    call 2 14 ten ∷ []

abbrev sample : List ℕ
sample = 0 ∷ 1 ∷ 4 ∷ 2 ∷ 4 ∷ 8 ∷ 4 ∷ 6 ∷ 0 ∷ []

pub example_places : map places_after examples
    ≡ (1 ∷ 3 ∷ 0 ∷ 2 ∷ []) ∷
    (0 ∷ 2 ∷ 4 ∷ 8 ∷ 4 ∷ 6 ∷ 0 ∷ []) ∷
    (2 ∷ 8 ∷ 0 ∷ 6 ∷ []) ∷
    sample ∷
    (sample ++ 9 ∷ 9 ∷ []) ∷
    (0 ∷ 1 ∷ 4 ∷ 2 ∷ 4 ∷ 5 ∷ 4 ∷ 8 ∷ 4 ∷ 7 ∷ 4 ∷ 6 ∷ 4 ∷ 3 ∷ 0 ∷ []) ∷
    (0 ∷ 1 ∷ 6 ∷ 2 ∷ 12 ∷ 4 ∷ 12 ∷ 24 ∷ 12 ∷ 20 ∷ 12 ∷ 10 ∷ 6 ∷ 0 ∷ []) ∷
    []
unfolding places_after refusal good_marks closed supported strip strip_of going_on mesh uncut on_grid place point midpoint depends_on kind units spacing level is_corner
example_places = refl

pub example_answers : map answer_of examples
    ≡ answer 0 4 ∷ answer 0 7 ∷ answer 0 4 ∷ answer 0 9 ∷ answer 0 9 ∷ answer 0 15 ∷ answer 0 14 ∷ []
unfolding answer_of refusal good_marks closed supported strip strip_of going_on mesh uncut on_grid place point midpoint depends_on kind units spacing level is_corner
example_answers = refl

-- read back, each triangle of the plain list from one or another of its corners: of the smallest patch, of P and of Q
pub example_read : map (λ h. read_strip (strip h)) (call 0 4 (replicate 4 3) ∷ call 1 7 (square 0 1) ∷ call 1 9 (q 2) ∷ [])
    ≡ (corners 1 3 0 ∷ corners 0 3 2 ∷ []) ∷
    (corners 0 2 4 ∷ corners 4 2 8 ∷ corners 4 8 6 ∷ corners 4 6 0 ∷ []) ∷
    (corners 0 1 4 ∷ corners 4 1 2 ∷ corners 4 2 8 ∷ corners 4 8 6 ∷ corners 4 6 0 ∷ []) ∷
    []
unfolding reading strip strip_of going_on mesh uncut place point midpoint
example_read = refl

-- Refused, several a line: Q with an entry too few, then with none; with the middle left out, then a void left out there; marks of 5 and 7; a size that
-- is none, a mark too few, the marks of another size; and of several refusals the first in the order 1, 2, 6, 7, 8
abbrev refused : List Handed
refused =
    call 1 8 (q 2) ∷ call 1 0 (q 2) ∷
    call 1 9 (q 0) ∷ call 1 9 (q 4) ∷ call 1 9 (q 5) ∷ call 1 9 (q 7) ∷
    call 8 9 (q 2) ∷ call 1 9 (take 8 (q 2)) ∷ call 2 9 (q 2) ∷
    call 8 0 (7 ∷ []) ∷ call 1 0 (7 ∷ []) ∷ call 1 0 (q 7) ∷ call 1 0 (q 0) ∷ []

pub refused_answers : map answer_of refused
    ≡ answer 8 9 ∷ answer 8 9 ∷
    answer 7 0 ∷ answer 7 0 ∷ answer 6 0 ∷ answer 6 0 ∷
    answer 1 0 ∷ answer 2 0 ∷ answer 2 0 ∷
    answer 1 0 ∷ answer 2 0 ∷ answer 6 0 ∷ answer 7 0 ∷ []
unfolding answer_of refusal good_marks closed supported strip strip_of going_on mesh uncut on_grid place point midpoint depends_on kind units spacing level is_corner
refused_answers = refl

-- each leaves its buffer as it was
pub refused_places : map places_after refused ≡ map (λ h. h.places) refused
unfolding places_after refusal good_marks closed supported strip strip_of going_on mesh uncut on_grid place point midpoint depends_on kind units spacing level is_corner
refused_places = refl
