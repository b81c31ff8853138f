-- The grid: its void mark, its quarter-cell factor, its largest size; where a point lies and what is halfway between two.
-- Document 01, "The grid". Definitions only.
use Rattle.std.specs.Prelude.{Bool, false, List, [], ◌∷◌, ℕ, zero, suc, ◌+◌, ◌*◌, ◌^◌, ◌/◌, ◌%◌, ◌≤◌, eqb, ℤ, pos, negsuc, nat_abs, ◌+ℤ◌, ◌-ℤ◌, ◌≡◌}
use Rattle.grid.specs.declared.points.Point.{Point}

-- heights run from -32767 to 32767
abbrev pub highest : ℕ
highest = 32767

abbrev pub Height : ℤ → Type 0
Height h = nat_abs h ≤ highest

-- the number below the lowest height, -32768, means void (`negsuc n` is -(n + 1))
abbrev pub void : ℤ
void = negsuc highest

abbrev pub is_void : ℤ → Bool
is_void (pos n) = false
is_void (negsuc n) = eqb n highest

-- the quarter-cell factor: a queried point is given in quarter cells
abbrev pub quarters : ℕ
quarters = 4

-- size m is 0 to 7
abbrev pub largest : ℕ
largest = 7

-- N = 2^m, the cells along a side of the square
abbrev pub side : ℕ → ℕ
side m = 2 ^ m

-- the largest N
abbrev pub widest : ℕ
widest = side largest

-- of one of the eight sizes, with its own N
pub record Sound (m n : ℕ) : Type 0 where
  pub small : m ≤ largest
  pub sided : n ≡ side m

-- the grid has (N+1)² samples
abbrev pub samples : ℕ → ℕ
samples m = (side m + 1) * (side m + 1)

-- 4N: a queried point lies from 0 to 4N each way
abbrev pub in_quarters : ℕ → ℕ
in_quarters m = quarters * side m

-- the point (x, y): x east, y north
abbrev pub at : ℕ → ℕ → Point
at a b = record { x = a; y = b }

-- point (x, y) lies at place y·(N+1)+x
unfoldable pub place : ℕ → Point → ℕ
place m p = p.y * (side m + 1) + p.x

-- the point that lies at a place
unfoldable pub point : ℕ → ℕ → Point
point m i = at (i % (side m + 1)) (i / (side m + 1))

-- a point of the grid's square, the border included
pub record Inside (m : ℕ) (p : Point) : Type 0 where
  pub east : p.x ≤ side m
  pub north : p.y ≤ side m

-- the four grid corners
abbrev pub corners : ℕ → List Point
corners m = at 0 0 ∷ at (side m) 0 ∷ at 0 (side m) ∷ at (side m) (side m) ∷ []

-- n entries: f at each number from i
abbrev pub entries : {A : Type 0} → (ℕ → A) → ℕ → ℕ → List A
entries f i zero = []
entries f i (suc n) = f i ∷ entries f (suc i) n

-- one entry for each sample, in the order of their places: f at each point
unfoldable pub on_grid : {A : Type 0} → ℕ → (Point → A) → List A
on_grid m f = entries (λ i. f (point m i)) 0 (samples m)

-- the midpoint of two points whose coordinates have even sums
unfoldable pub midpoint : Point → Point → Point
midpoint p q = at ((p.x + q.x) / 2) ((p.y + q.y) / 2)

-- the place of the midpoint of two such points, by their places
abbrev pub midplace : ℕ → ℕ → ℕ
midplace i j = (i + j) / 2

-- a sample counted from the void mark, as sums and means are worked out: void is 0, heights are 1 to 65535
abbrev pub raise : ℤ → ℕ
raise h = nat_abs (h -ℤ void)

-- and back
abbrev pub lower : ℕ → ℤ
lower b = pos b +ℤ void
