-- What is printed, byte by byte. Document 01, "The program": one line, `refused` and the number, or `T` and the triangle count, then one
-- line of three places per triangle; one space between items, a line feed after each line. Definitions only.
use Rattle.std.specs.Prelude.{◌≡◌, cond, List, [], ◌∷◌, ◌++◌, ℕ, zero, suc, ◌+◌, ◌*◌, ◌/◌, ◌%◌, ltb, length, get_or, Result, Ok, Err}
use Rattle.mesh.specs.Meshed.{entries_each, written_over}
use Rattle.listing.specs.Program.{answer_in, places_in}

-- the characters, by their codes
abbrev pub space : ℕ
space = 32

abbrev pub line_feed : ℕ
line_feed = 10

abbrev pub digit : ℕ → ℕ
digit d = 48 + d

-- `refused`, and `T`
abbrev pub refused_word : List ℕ
refused_word = 114 ∷ 101 ∷ 102 ∷ 117 ∷ 115 ∷ 101 ∷ 100 ∷ []

abbrev pub triangle_word : List ℕ
triangle_word = 84 ∷ []

-- A number in decimal digits, without zeros in front: below ten it is its one digit, else the tenth part's digits and then the last one.
-- The first argument bounds how many digits there are: a number has no more of them than one more than itself.
unfoldable pub digits_by : ℕ → ℕ → List ℕ
digits_by zero n = []
digits_by (suc most) n = cond (ltb n 10) [] (digits_by most (n / 10)) ++ digit (n % 10) ∷ []

abbrev pub decimal_of : ℕ → List ℕ
decimal_of n = digits_by (suc n) n

-- one space between items, a line feed after the line
abbrev pub line_of : List (List ℕ) → List ℕ
line_of [] = line_feed ∷ []
line_of (item ∷ []) = item ++ line_feed ∷ []
line_of (item ∷ next ∷ items) = item ++ space ∷ line_of (next ∷ items)

-- the line of the triangle whose places stand from an entry on
abbrev pub line_at : List ℕ → ℕ → List ℕ
line_at places i = line_of (decimal_of (get_or places i 0) ∷ decimal_of (get_or places (i + 1) 0) ∷ decimal_of (get_or places (i + 2) 0) ∷ [])

-- one line for each of so many triangles
unfoldable pub lines_of : ℕ → List ℕ → List ℕ
lines_of zero places = []
lines_of (suc triangles) places = lines_of triangles places ++ line_at places (entries_each * triangles)

-- `T` and the triangle count, then the triangles; or `refused` and the number
unfoldable pub text_of : Result ℕ ℕ → List ℕ → List ℕ
text_of (Ok triangles) places = line_of (triangle_word ∷ decimal_of triangles ∷ []) ++ lines_of triangles places
text_of (Err number) places = line_of (refused_word ∷ decimal_of number ∷ [])

-- what is printed of an input
abbrev pub text_in : List ℕ → List ℕ
text_in input = text_of (answer_in input) (places_in input)

-- the promise: how many bytes the text has, and the buffer at exit: the text written over its beginning, the bytes behind it untouched
pub record Prints (input out : List ℕ) (r : ℕ) (out' : List ℕ) : Type 0 where
  pub answer : r ≡ length (text_in input)
  pub written : out' ≡ written_over (text_in input) out
