-- Values of document 01, computed from the definitions: places, the table of sizes, the refusal numbers, the marks, and the
-- ends and dependencies of points of each sort. So a slip in a definition that no law would notice is noticed here.
use mathlib.Core.Path.{◌≡◌, refl}
use mathlib.Core.Bool.{Bool, true, false}
use mathlib.Core.List.{List, [], ◌∷◌, map}
use Prim.Native.Nat.{ℕ}
use lib.IntN.{pos, negsuc}
use Rattle.grid.specs.Grid.{at, place, point, is_void, in_quarters}
use Rattle.grid.specs.Refusal.{accepted, size_above, wrong_length, void_corner, tolerance_above, point_beyond, bad_mark, not_closed, no_room, input_form, number}
use Rattle.grid.specs.Mark.{good_mark, kept_mark, filled_mark}
use Rattle.grid.specs.Sizes.{size_answer}
use Rattle.grid.specs.Points.{level, spacing, units, is_corner, kind, ends, Pair, pair, depends_on, dependents, rank}
use Rattle.grid.specs.declared.points.Point.{Point}
use Rattle.grid.specs.declared.sizes.Size.{Size}
use Rattle.grid.specs.declared.refusals.Refusal.{Refusal}
use Rattle.grid.specs.declared.refusals.Refusal.TheVariants.{SizeAbove, WrongLength, VoidCorner, ToleranceAbove, PointBeyond, BadMark, NotClosed, NoRoom, InputForm}
use Rattle.std.specs.Prelude.{Result, Ok, Err}

-- point (x, y) at place y·(N+1)+x, x east, y north
pub places : map (place 2) (at 0 0 ∷ at 1 0 ∷ at 0 1 ∷ at 3 1 ∷ at 4 4 ∷ []) ≡ 0 ∷ 1 ∷ 5 ∷ 8 ∷ 24 ∷ []
unfolding place
places = refl

pub points : map (point 2) (1 ∷ 5 ∷ 8 ∷ 24 ∷ []) ≡ at 1 0 ∷ at 0 1 ∷ at 3 1 ∷ at 4 4 ∷ []
unfolding point
points = refl

-- the table of sizes, and what is refused beyond it
abbrev row : ℕ → ℕ → ℕ → Result Size Refusal
row n s t = Ok (record { side = n; samples = s; triangles = t })

pub sizes : map size_answer (0 ∷ 1 ∷ 2 ∷ 3 ∷ 4 ∷ 5 ∷ 6 ∷ 7 ∷ 8 ∷ 4294967295 ∷ [])
    ≡ row 1 4 2 ∷ row 2 9 8 ∷ row 4 25 32 ∷ row 8 81 128 ∷ row 16 289 512 ∷ row 32 1089 2048 ∷ row 64 4225 8192 ∷
    row 128 16641 32768 ∷ Err SizeAbove ∷ Err SizeAbove ∷ []
sizes = refl

pub quarter_cells : map in_quarters (0 ∷ 1 ∷ 7 ∷ []) ≡ 4 ∷ 8 ∷ 512 ∷ []
quarter_cells = refl

pub refusals : accepted ∷ size_above ∷ wrong_length ∷ void_corner ∷ tolerance_above ∷ point_beyond ∷ bad_mark ∷ not_closed ∷ no_room ∷ input_form ∷ []
    ≡ 0 ∷ 1 ∷ 2 ∷ 3 ∷ 4 ∷ 5 ∷ 6 ∷ 7 ∷ 8 ∷ 9 ∷ []
refusals = refl

-- whatever is needed with 8
pub numbers : (needed : ℕ) →
    map number (SizeAbove ∷ WrongLength ∷ VoidCorner ∷ ToleranceAbove ∷ PointBeyond ∷ BadMark ∷ NotClosed ∷ NoRoom needed ∷ InputForm ∷ [])
    ≡ 1 ∷ 2 ∷ 3 ∷ 4 ∷ 5 ∷ 6 ∷ 7 ∷ 8 ∷ 9 ∷ []
numbers needed = refl

pub voids : map is_void (negsuc 32767 ∷ negsuc 32766 ∷ negsuc 32768 ∷ pos 0 ∷ pos 32767 ∷ []) ≡ true ∷ false ∷ false ∷ false ∷ false ∷ []
voids = refl

-- marks 0 to 8
abbrev marks : (ℕ → Bool) → List Bool
marks f = map f (0 ∷ 1 ∷ 2 ∷ 3 ∷ 4 ∷ 5 ∷ 6 ∷ 7 ∷ 8 ∷ [])

pub good_at_corners : marks (good_mark true) ≡ false ∷ false ∷ false ∷ true ∷ false ∷ false ∷ false ∷ false ∷ false ∷ []
good_at_corners = refl

pub good_elsewhere : marks (good_mark false) ≡ true ∷ true ∷ true ∷ false ∷ true ∷ false ∷ true ∷ false ∷ false ∷ []
good_elsewhere = refl

pub kept : marks kept_mark ≡ false ∷ true ∷ true ∷ true ∷ false ∷ false ∷ true ∷ false ∷ false ∷ []
kept = refl

pub filled : marks filled_mark ≡ false ∷ false ∷ false ∷ false ∷ true ∷ true ∷ true ∷ true ∷ true ∷ []
filled = refl

-- a point's spacing, its ends, what it depends on, and its dependents
record Told : Type 0 where
  spaced : ℕ
  between : Pair
  on : List Point
  of : List Point

abbrev about : ℕ → Point → Point → List Point → List Point → Told
about s p q on of = record { spaced = s; between = pair p q; on = on; of = of }

abbrev told : ℕ → Point → Told
told m p = record { spaced = spacing m p; between = ends m p; on = depends_on m p; of = dependents m p }

-- m = 2, every point but the grid corners, as a separate program, written from document 01's words, has them
pub table_two :
    map (told 2) (at 1 0 ∷ at 2 0 ∷ at 3 0 ∷ at 0 1 ∷ at 1 1 ∷ at 2 1 ∷ at 3 1 ∷ at 4 1 ∷ at 0 2 ∷ at 1 2 ∷ at 2 2 ∷ at 3 2 ∷ at 4 2 ∷ at 0 3 ∷ at 1 3 ∷ at 2 3 ∷ at 3 3 ∷ at 4 3 ∷ at 1 4 ∷ at 2 4 ∷ at 3 4 ∷ [])
    ≡ about 1 (at 0 0) (at 2 0) (at 1 1 ∷ []) [] ∷
    about 2 (at 0 0) (at 4 0) (at 2 2 ∷ []) (at 1 1 ∷ at 3 1 ∷ []) ∷
    about 1 (at 2 0) (at 4 0) (at 3 1 ∷ []) [] ∷
    about 1 (at 0 0) (at 0 2) (at 1 1 ∷ []) [] ∷
    about 1 (at 0 0) (at 2 2) (at 2 0 ∷ at 0 2 ∷ []) (at 1 0 ∷ at 0 1 ∷ at 2 1 ∷ at 1 2 ∷ []) ∷
    about 1 (at 2 0) (at 2 2) (at 1 1 ∷ at 3 1 ∷ []) [] ∷
    about 1 (at 4 0) (at 2 2) (at 2 0 ∷ at 4 2 ∷ []) (at 3 0 ∷ at 2 1 ∷ at 4 1 ∷ at 3 2 ∷ []) ∷
    about 1 (at 4 0) (at 4 2) (at 3 1 ∷ []) [] ∷
    about 2 (at 0 0) (at 0 4) (at 2 2 ∷ []) (at 1 1 ∷ at 1 3 ∷ []) ∷
    about 1 (at 0 2) (at 2 2) (at 1 1 ∷ at 1 3 ∷ []) [] ∷
    about 2 (at 0 0) (at 4 4) (at 4 0 ∷ at 0 4 ∷ []) (at 2 0 ∷ at 0 2 ∷ at 4 2 ∷ at 2 4 ∷ []) ∷
    about 1 (at 2 2) (at 4 2) (at 3 1 ∷ at 3 3 ∷ []) [] ∷
    about 2 (at 4 0) (at 4 4) (at 2 2 ∷ []) (at 3 1 ∷ at 3 3 ∷ []) ∷
    about 1 (at 0 2) (at 0 4) (at 1 3 ∷ []) [] ∷
    about 1 (at 2 2) (at 0 4) (at 0 2 ∷ at 2 4 ∷ []) (at 1 2 ∷ at 0 3 ∷ at 2 3 ∷ at 1 4 ∷ []) ∷
    about 1 (at 2 2) (at 2 4) (at 1 3 ∷ at 3 3 ∷ []) [] ∷
    about 1 (at 2 2) (at 4 4) (at 4 2 ∷ at 2 4 ∷ []) (at 3 2 ∷ at 2 3 ∷ at 4 3 ∷ at 3 4 ∷ []) ∷
    about 1 (at 4 2) (at 4 4) (at 3 3 ∷ []) [] ∷
    about 1 (at 0 4) (at 2 4) (at 1 3 ∷ []) [] ∷
    about 2 (at 0 4) (at 4 4) (at 2 2 ∷ []) (at 1 3 ∷ at 3 3 ∷ []) ∷
    about 1 (at 2 4) (at 4 4) (at 3 3 ∷ []) [] ∷ []
unfolding ends depends_on dependents kind units spacing level is_corner
table_two = refl

-- m = 3, some points of each kind and spacing, by the same program
pub table_three :
    map (told 3) (at 4 0 ∷ at 4 2 ∷ at 6 2 ∷ at 2 4 ∷ at 4 4 ∷ at 5 4 ∷ at 8 4 ∷ at 7 5 ∷ at 2 6 ∷ at 6 6 ∷ at 8 6 ∷ at 1 7 ∷ [])
    ≡ about 4 (at 0 0) (at 8 0) (at 4 4 ∷ []) (at 2 2 ∷ at 6 2 ∷ []) ∷
    about 2 (at 4 0) (at 4 4) (at 2 2 ∷ at 6 2 ∷ []) (at 3 1 ∷ at 5 1 ∷ at 3 3 ∷ at 5 3 ∷ []) ∷
    about 2 (at 8 0) (at 4 4) (at 4 0 ∷ at 8 4 ∷ []) (at 6 0 ∷ at 4 2 ∷ at 8 2 ∷ at 6 4 ∷ []) ∷
    about 2 (at 0 4) (at 4 4) (at 2 2 ∷ at 2 6 ∷ []) (at 1 3 ∷ at 3 3 ∷ at 1 5 ∷ at 3 5 ∷ []) ∷
    about 4 (at 0 0) (at 8 8) (at 8 0 ∷ at 0 8 ∷ []) (at 4 0 ∷ at 0 4 ∷ at 8 4 ∷ at 4 8 ∷ []) ∷
    about 1 (at 4 4) (at 6 4) (at 5 3 ∷ at 5 5 ∷ []) [] ∷
    about 4 (at 8 0) (at 8 8) (at 4 4 ∷ []) (at 6 2 ∷ at 6 6 ∷ []) ∷
    about 1 (at 8 4) (at 6 6) (at 6 4 ∷ at 8 6 ∷ []) (at 7 4 ∷ at 6 5 ∷ at 8 5 ∷ at 7 6 ∷ []) ∷
    about 2 (at 4 4) (at 0 8) (at 0 4 ∷ at 4 8 ∷ []) (at 2 4 ∷ at 0 6 ∷ at 4 6 ∷ at 2 8 ∷ []) ∷
    about 2 (at 4 4) (at 8 8) (at 8 4 ∷ at 4 8 ∷ []) (at 6 4 ∷ at 4 6 ∷ at 8 6 ∷ at 6 8 ∷ []) ∷
    about 2 (at 8 4) (at 8 8) (at 6 6 ∷ []) (at 7 5 ∷ at 7 7 ∷ []) ∷
    about 1 (at 2 6) (at 0 8) (at 0 6 ∷ at 2 8 ∷ []) (at 1 6 ∷ at 0 7 ∷ at 2 7 ∷ at 1 8 ∷ []) ∷ []
unfolding ends depends_on dependents kind units spacing level is_corner
table_three = refl

pub corners_have_none : map (dependents 2) (at 0 0 ∷ at 4 0 ∷ at 0 4 ∷ at 4 4 ∷ []) ≡ [] ∷ [] ∷ [] ∷ [] ∷ []
unfolding dependents kind units spacing level is_corner
corners_have_none = refl

pub some_ranks : map (rank 2) (at 1 1 ∷ at 3 1 ∷ at 2 2 ∷ at 1 0 ∷ at 2 0 ∷ at 4 2 ∷ at 2 1 ∷ []) ≡ 1 ∷ 1 ∷ 3 ∷ 0 ∷ 2 ∷ 2 ∷ 0 ∷ []
unfolding rank units spacing level
some_ranks = refl
