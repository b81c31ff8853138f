-- What a mark may be, what it keeps, what it says of the sample. Document 01, "Marks". Definitions only.
use Rattle.std.specs.Prelude.{Bool, cond, ◌||◌, ℕ, ◌+◌, eqb, leb}

-- left out
abbrev pub left_out : ℕ
left_out = 0

-- kept for its own error
abbrev pub for_error : ℕ
for_error = 1

-- kept only for dependence
abbrev pub for_dependence : ℕ
for_dependence = 2

-- a grid corner
abbrev pub for_corner : ℕ
for_corner = 3

-- plus 4 if the sample was void
abbrev pub if_void : ℕ
if_void = 4

-- a void that is left out
abbrev pub void_out : ℕ
void_out = left_out + if_void

-- a void that is kept: for dependence, since a void has no error of its own
abbrev pub void_kept : ℕ
void_kept = for_dependence + if_void

-- good marks are 3 at a grid corner and 0, 1, 2, 4, 6 elsewhere
abbrev pub good_mark : Bool → ℕ → Bool
good_mark corner mark =
    cond corner (eqb mark for_corner)
    (eqb mark left_out || eqb mark for_error || eqb mark for_dependence || eqb mark void_out || eqb mark void_kept)

-- a point is kept if its mark is 1, 2, 3 or 6
abbrev pub kept_mark : ℕ → Bool
kept_mark mark = eqb mark for_error || eqb mark for_dependence || eqb mark for_corner || eqb mark void_kept

-- a mark of 4 or more: of those that selection writes, just where the sample was void
abbrev pub filled_mark : ℕ → Bool
filled_mark mark = leb if_void mark
