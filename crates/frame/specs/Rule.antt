-- Document 01's sentences about the program's input, as records: the promises are proved to mean them, and they the promises. Where each part of the
-- input stands is written here in numbers, once more, so that a slip in a name of `Frame` would show: a 4-byte length at 0, the version at 4, m at 5, the
-- tolerance at 6, the heights from 10 on. Definitions only.
use Rattle.std.specs.Prelude.{◌≡◌, List, ◌≢◌, ℕ, ◌+◌, ◌*◌, ◌^◌, ◌≤◌, ◌<◌, length, get_or, ℤ, pos, ◌+ℤ◌, ⊤, Result, Ok}
use Rattle.grid.specs.Grid.{samples, side, Inside}
use Rattle.grid.specs.Refusal.{accepted, size_above, wrong_length, input_form}
use Rattle.grid.specs.declared.points.Point.{Point}
use Rattle.grid.specs.declared.refusals.Refusal.{Refusal}
use Rattle.frame.specs.Bytes.{byte_at}
use Rattle.frame.specs.Frame.{Handed, number_of}
use Rattle.frame.specs.declared.Frame.{Frame}

-- big-endian: n stands in the two bytes, or in the four bytes, from an index on, the first of them counting most
abbrev pub TwoAt : List ℕ → ℕ → ℕ → Type 0
TwoAt input i n = n ≡ byte_at input i * 2 ^ 8 + byte_at input (i + 1)

abbrev pub FourAt : List ℕ → ℕ → ℕ → Type 0
FourAt input i n =
    n ≡ byte_at input i * 2 ^ 24 + byte_at input (i + 1) * 2 ^ 16 + byte_at input (i + 2) * 2 ^ 8 + byte_at input (i + 3)

-- z is the signed number that has the 16 bits of n: below 2^15 it is n, else it is 2^16 below n
pub data Signed (n : ℕ) (z : ℤ) : Type 0 where
  plus : n < 2 ^ 15 → z ≡ pos n → Signed n z
  minus : 2 ^ 15 ≤ n → z +ℤ pos (2 ^ 16) ≡ pos n → Signed n z

-- m
abbrev pub m_of : List ℕ → ℕ
m_of input = byte_at input 5

-- the bytes that come first: enough of them, and the version
pub record Opens (input : List ℕ) : Type 0 where
  pub enough : 6 ≤ length input
  pub versioned : byte_at input 4 ≡ 1

-- the bytes of (N+1)² heights
abbrev pub heights_long : List ℕ → ℕ
heights_long input = 2 * samples (m_of input)

-- the total, and the length field
abbrev pub Total : List ℕ → Type 0
Total input = length input ≡ 10 + heights_long input

abbrev pub Counted : List ℕ → Type 0
Counted input = FourAt input 0 (6 + heights_long input)

-- each refusal number with its case, in the order in which they are looked at; and 0 where nothing is turned down
pub data Turned (input : List ℕ) : ℕ → Type 0 where
  -- fewer than 6 bytes
  short : length input < 6 → Turned input input_form
  -- or another version
  other : 6 ≤ length input → byte_at input 4 ≢ 1 → Turned input input_form
  -- then m above 5
  size : Opens input → 5 < m_of input → Turned input size_above
  -- then a wrong total
  total : Opens input → m_of input ≤ 5 → ¬ (Total input) → Turned input input_form
  -- or length field
  field : Opens input → m_of input ≤ 5 → Total input → ¬ (Counted input) → Turned input input_form
  nothing : Opens input → m_of input ≤ 5 → Total input → Counted input → Turned input accepted

-- m, and the tolerance in 4 bytes
pub record Carries (input : List ℕ) (r : Frame) : Type 0 where
  pub m : r.m ≡ m_of input
  pub tolerance : FourAt input 6 r.tolerance

-- an answer of `read` follows document 01; with a refusal no number is handed back but its own
pub record Follows (input : List ℕ) (r : Result Frame Refusal) : Type 0 where
  pub turned : Turned input (number_of r)
  pub framed : (f : Frame) → r ≡ Ok f → Carries input f

-- z is the height that stands at a place
pub record HeightAt (input : List ℕ) (i : ℕ) (z : ℤ) : Type 0 where
  pub bits : ℕ
  pub two : TwoAt input (10 + 2 * i) bits
  pub signed : Signed bits z

-- the buffer is exactly (N+1)² long
abbrev pub Long : Handed → Type 0
Long h = length h.survey ≡ samples (m_of h.input)

-- the refusals of `heights`: those of the input first, then 2
pub data TurnedHeights (h : Handed) : ℕ → Type 0 where
  frame : {n : ℕ} → Turned h.input n → n ≢ accepted → TurnedHeights h n
  buffer : Turned h.input accepted → ¬ (Long h) → TurnedHeights h wrong_length
  none : Turned h.input accepted → Long h → TurnedHeights h accepted

-- the heights row by row from y = 0: (N+1)² of them, that of the point (x, y) behind y whole rows and x of its own
pub record RowByRow (input : List ℕ) (survey : List ℤ) : Type 0 where
  pub long : length survey ≡ samples (m_of input)
  pub each : (p : Point) → Inside (m_of input) p →
      let i = p.y * (side (m_of input) + 1) + p.x in HeightAt input i (get_or survey i (pos 0))

-- a call of `heights` follows document 01
pub record FollowsHeights (h : Handed) (r : Result ⊤ Refusal) (survey' : List ℤ) : Type 0 where
  pub turned : TurnedHeights h (number_of r)
  pub refused : number_of r ≢ accepted → survey' ≡ h.survey
  pub surveyed : number_of r ≡ accepted → RowByRow h.input survey'
