-- What functions inside this crate may ask and what they promise one another. No rule rests on it. Definitions only.
use Rattle.std.specs.Prelude.{◌≡◌, Bool, true, false, cond, List, [], ◌∷◌, ◌++◌, ℕ, zero, suc, ◌+◌, ◌-◌, ◌*◌, ◌%◌, ◌≤◌, ◌<◌, length, get_or, Result, Ok, Err}
use Rattle.std.proofs.lemmas.List.Edits.{sets}
use Rattle.grid.specs.Grid.{side, samples, largest, midplace}
use Rattle.grid.specs.Points.{odd, laid}
use Rattle.grid.specs.Mark.{left_out, good_mark, kept_mark}
use Rattle.grid.specs.declared.points.Point.{Point}
use Rattle.grid.specs.Inner.{keeps}
use Rattle.grid.specs.Refusal.{accepted, no_room, number}
use Rattle.grid.specs.declared.refusals.Refusal.{Refusal}
use Rattle.grid.specs.declared.refusals.Refusal.TheVariants.{NoRoom}
use Rattle.mesh.specs.declared.Meshed.{Meshed}
use Rattle.mesh.specs.Closed.{supported}

-- the answer to a call that is turned down: the triangles needed go with a want of room alone
abbrev pub refused : Refusal → Meshed
refused (NoRoom triangles) = record { refusal = no_room; triangles = triangles }
refused other = record { refusal = number other; triangles = 0 }

-- the answer by what was found before anything is written: the number of triangles, or a refusal
abbrev pub outcome : Result ℕ Refusal → Meshed
outcome (Ok triangles) = record { refusal = accepted; triangles = triangles }
outcome (Err r) = refused r

-- whether the mark at a place keeps its point
abbrev pub kept_place : List ℕ → ℕ → Bool
kept_place marks i = kept_mark (get_or marks i left_out)

-- of each mark one test tells whether it keeps its point: so it is where all are good
abbrev pub Plain : List ℕ → Type 0
Plain marks = (i : ℕ) → keeps (get_or marks i left_out) ≡ kept_place marks i

-- n terms: f at each number from i
abbrev pub sum : (ℕ → ℕ) → ℕ → ℕ → ℕ
sum f i zero = 0
sum f i (suc n) = f i + sum f (suc i) n

-- 1 where the mark at a place keeps its point
abbrev pub kept_once : List ℕ → ℕ → ℕ
kept_once marks i = cond (kept_place marks i) 1 0

-- how many of the n marks from a place on keep their point
abbrev pub kept_from : List ℕ → ℕ → ℕ → ℕ
kept_from marks i n = sum (kept_once marks) i n

-- how many of a row's marks between its two ends keep their point
abbrev pub kept_between_ends : List ℕ → ℕ → ℕ → ℕ
kept_between_ends marks at n = kept_from marks (at + 1) (n - 1)

-- whether a triangle with k cuts left is cut: its midpoint, between l and r, is kept
abbrev pub is_cut : (ℕ → Bool) → ℕ → ℕ → ℕ → Bool
is_cut kept zero l r = false
is_cut kept (suc k) l r = kept (midplace l r)

-- the places of a triangle with k cuts left, as they are written: cuts made and left are 2m in all, so both are odd or both even
abbrev pub in_order : ℕ → ℕ → ℕ → ℕ → List ℕ
in_order k l a r = cond (odd k) (r ∷ a ∷ l ∷ []) (l ∷ a ∷ r ∷ [])

-- the places written for the uncut triangles that one with k cuts left leads to
unfoldable pub cut_places : (ℕ → Bool) → ℕ → ℕ → ℕ → ℕ → List ℕ
cut_places kept zero l a r = in_order 0 l a r
cut_places kept (suc k) l a r =
    cond (kept (midplace l r))
    (cut_places kept k l (midplace l r) a ++ cut_places kept k a (midplace l r) r)
    (in_order (suc k) l a r)

-- two places at which marks stand, and no more marks than the largest size has
pub record Ends (marks : List ℕ) (l r : ℕ) : Type 0 where
  pub plain : Plain marks
  pub small : length marks ≤ samples largest
  pub left : l < length marks
  pub right : r < length marks

-- three such places
pub record Corners (marks : List ℕ) (l a r : ℕ) : Type 0 where
  pub ends : Ends marks l r
  pub apex : a < length marks

-- a list was written into a buffer from an index on, and next is the index behind it
pub record Put (list : List ℕ) (at : ℕ) (buffer : List ℕ) (next : ℕ) (buffer' : List ℕ) : Type 0 where
  pub behind : next ≡ at + length list
  pub holds : buffer' ≡ sets buffer at list

-- whether the mark at a place is good away from the grid corners
abbrev pub good_inner : List ℕ → ℕ → Bool
good_inner marks i = good_mark false (get_or marks i left_out)

-- if the sample at a place is kept, so are those that lie so many places before and after it
abbrev pub Backed : List ℕ → ℕ → ℕ → ℕ → Type 0
Backed marks before after i = kept_place marks i ≡ true → (kept_place marks (i - before) ≡ true) × (kept_place marks (i + after) ≡ true)

-- at each of the places from, from + step, .. below to
abbrev pub BackedAlong : List ℕ → ℕ → ℕ → ℕ → ℕ → ℕ → Type 0
BackedAlong marks from to step before after = (k : ℕ) → from + step * k < to → Backed marks before after (from + step * k)

-- there are marks at all those places, and before and after them
pub record Stride (marks : List ℕ) (from to step before after : ℕ) : Type 0 where
  pub on : 0 < step
  pub short : step ≤ 4 * samples largest
  pub small : length marks ≤ samples largest
  pub inside : (k : ℕ) → from + step * k < to → (before ≤ from + step * k) × (from + step * k + after < length marks)

-- how many places on the next point along a line lies: an east-west line, or turned to a north-south one
abbrev pub unit : ℕ → Bool → ℕ
unit m turned = cond turned (side m + 1) 1

-- the line c is an even or an odd number of s away from the square's side
pub record Line (m s parity c : ℕ) : Type 0 where
  pub number : ℕ
  pub times : c ≡ s * number
  pub is : number % 2 ≡ parity
  pub inside : c ≤ side m

-- a centre whose x/s and y/s have the sum t: what it depends on lies d places before and after it, on a falling or a rising diagonal
pub data Across (n s t d : ℕ) : Type 0 where
  falls : t % 4 ≡ 2 → d ≡ s * (n + 1) - s → Across n s t d
  rises : t % 4 ≡ 0 → d ≡ s * (n + 1) + s → Across n s t d

-- the row y of centres, the first of which has what it depends on d places before and after it
pub record CentreRow (m s y d : ℕ) : Type 0 where
  pub line : Line m s 1 y
  pub across : Across (side m) s (1 + line.number) d

-- with each kept point of a line, at an odd number of s, all it depends on is kept
abbrev pub LineClosed : ℕ → (Point → Bool) → ℕ → Bool → ℕ → Type 0
LineClosed m kept s turned c = (a : ℕ) → a % 2 ≡ 1 → s * a ≤ side m → supported m kept (laid turned (s * a) c) ≡ true

-- in each line at an even, or at an odd number of s
abbrev pub LinesClosed : ℕ → (Point → Bool) → ℕ → Bool → ℕ → Type 0
LinesClosed m kept s turned parity = (b : ℕ) → b % 2 ≡ parity → s * b ≤ side m → LineClosed m kept s turned (s * b)

-- with each kept point of spacing s: edge points of either axis, and centres
pub record SpacingClosed (m : ℕ) (kept : Point → Bool) (s : ℕ) : Type 0 where
  pub east_west : LinesClosed m kept s false 0
  pub north_south : LinesClosed m kept s true 0
  pub centres : LinesClosed m kept s false 1
