-- The input of the program, its refusals in their order, what it carries, and the heights read from it. Document 01, "The
-- program". Definitions only.
use Rattle.std.specs.Prelude.{◌≡◌, cond, not, List, ℕ, ◌+◌, ◌*◌, eqb, ltb, length, ℤ, ⊤, Result, Ok, Err}
use Rattle.std.specs.Result.{result_and}
use Rattle.grid.specs.Grid.{samples, place, on_grid}
use Rattle.grid.specs.Refusal.{accepted, number}
use Rattle.grid.specs.declared.refusals.Refusal.{Refusal}
use Rattle.grid.specs.declared.refusals.Refusal.TheVariants.{SizeAbove, WrongLength, InputForm}
use Rattle.frame.specs.Bytes.{byte_at, number_at, signed}
use Rattle.frame.specs.declared.Frame.{Frame}

-- a 4-byte length of what follows, version byte 1, m, tolerance in 4 bytes, then the heights: where each begins
abbrev pub length_at : ℕ
length_at = 0

abbrev pub version_at : ℕ
version_at = 4

abbrev pub size_at : ℕ
size_at = 5

abbrev pub tolerance_at : ℕ
tolerance_at = 6

abbrev pub heights_at : ℕ
heights_at = 10

-- the length and the tolerance have four bytes each, a height has two
abbrev pub field_bytes : ℕ
field_bytes = 4

abbrev pub height_bytes : ℕ
height_bytes = 2

abbrev pub version : ℕ
version = 1

-- m is at most 5
abbrev pub largest_framed : ℕ
largest_framed = 5

-- the fewest bytes that are looked into: those before the tolerance
abbrev pub fewest : ℕ
fewest = 6

-- of what the length counts, the bytes before the heights: the version, m and the tolerance
abbrev pub following : ℕ
following = 6

-- m, and the tolerance
abbrev pub size_in : List ℕ → ℕ
size_in input = byte_at input size_at

abbrev pub tolerance_in : List ℕ → ℕ
tolerance_in input = number_at input tolerance_at field_bytes

-- a frame of size m has (N+1)² heights: its bytes in all, and what its length field says
abbrev pub total_of : ℕ → ℕ
total_of m = heights_at + height_bytes * samples m

abbrev pub length_of : ℕ → ℕ
length_of m = following + height_bytes * samples m

-- the bytes of the longest valid frame
abbrev pub longest : ℕ
longest = total_of largest_framed

-- the number of what is answered: that of the refusal, or that of none
abbrev pub number_of : {A : Type 0} → Result A Refusal → ℕ
number_of (Ok _) = accepted
number_of (Err refusal) = number refusal

-- what an accepted input carries: m, and the tolerance
abbrev pub framed : List ℕ → Frame
framed input = record { m = size_in input; tolerance = tolerance_in input }

-- The promise of `read`. Fewer than 6 bytes, or another version: 9. Then m above 5: 1. Then a wrong total or length field: 9. Else no refusal.
unfoldable pub answer_of : List ℕ → Result Frame Refusal
answer_of input =
    cond (ltb (length input) fewest) (Err InputForm)
    (cond (not (eqb (byte_at input version_at) version)) (Err InputForm)
    (cond (ltb largest_framed (size_in input)) (Err SizeAbove)
    (cond (not (eqb (length input) (total_of (size_in input)))) (Err InputForm)
    (cond (not (eqb (number_at input length_at field_bytes) (length_of (size_in input)))) (Err InputForm)
    (Ok (framed input))))))

-- its number
abbrev pub refusal : List ℕ → ℕ
refusal input = number_of (answer_of input)

-- the height at a place: the signed number in the two bytes there
abbrev pub height_at : List ℕ → ℕ → ℤ
height_at input i = signed (number_at input (heights_at + height_bytes * i) height_bytes)

-- row by row from y = 0: the height of each point is the one at its place
unfoldable pub survey_in : List ℕ → List ℤ
survey_in input = on_grid (size_in input) (λ p. height_at input (place (size_in input) p))

-- what `heights` is handed: the input, and the buffer for the survey as it is before the call
pub record Handed : Type 0 where
  pub input : List ℕ
  pub survey : List ℤ

abbrev pub handed : List ℕ → List ℤ → Handed
handed input survey = record { input = input; survey = survey }

-- the input's own refusals first, then 2 where the survey is not exactly (N+1)² long
unfoldable pub heights_answer : Handed → Result ⊤ Refusal
heights_answer h =
    result_and (answer_of h.input) (cond (not (eqb (length h.survey) (samples (size_in h.input)))) (Err WrongLength) (Ok tt))

abbrev pub heights_refusal : Handed → ℕ
heights_refusal h = number_of (heights_answer h)

-- accepted: the heights; refused: the buffer stays untouched
unfoldable pub survey_after : Handed → List ℤ
survey_after h = cond (eqb (heights_refusal h) accepted) (survey_in h.input) h.survey

-- the promise of `heights`: the answer, and the survey at exit
pub record Surveys (h : Handed) (r : Result ⊤ Refusal) (survey' : List ℤ) : Type 0 where
  pub answer : r ≡ heights_answer h
  pub survey : survey' ≡ survey_after h
