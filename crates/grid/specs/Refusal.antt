-- The refusal numbers. Document 01, "What a call may turn down". Definitions only.
use Rattle.std.specs.Prelude.{ℕ}
use Rattle.grid.specs.declared.refusals.Refusal.{Refusal}
use Rattle.grid.specs.declared.refusals.Refusal.TheVariants.{SizeAbove, WrongLength, VoidCorner, ToleranceAbove, PointBeyond, BadMark, NotClosed, NoRoom, InputForm}

-- at 0, which document 01 leaves free, no refusal: the call is accepted
abbrev pub accepted : ℕ
accepted = 0

-- m above the largest size
abbrev pub size_above : ℕ
size_above = 1

-- a sample buffer not exactly (N+1)² long
abbrev pub wrong_length : ℕ
wrong_length = 2

-- selection: a grid corner is void; height or plane: a corner of the final triangle has height -32768
abbrev pub void_corner : ℕ
void_corner = 3

-- tolerance above 65,535
abbrev pub tolerance_above : ℕ
tolerance_above = 4

-- point beyond 4N
abbrev pub point_beyond : ℕ
point_beyond = 5

-- a mark that isn't good
abbrev pub bad_mark : ℕ
bad_mark = 6

-- good marks, set not closed
abbrev pub not_closed : ℕ
not_closed = 7

-- triangles: fewer than three entries per triangle; the triangles needed are given with it. Strip: fewer entries than it has places; the
-- places needed are given with it
abbrev pub no_room : ℕ
no_room = 8

-- program only: input form
abbrev pub input_form : ℕ
input_form = 9

-- the number of each refusal
abbrev pub number : Refusal → ℕ
number SizeAbove = size_above
number WrongLength = wrong_length
number VoidCorner = void_corner
number ToleranceAbove = tolerance_above
number PointBeyond = point_beyond
number BadMark = bad_mark
number NotClosed = not_closed
number (NoRoom needed) = no_room
number InputForm = input_form
