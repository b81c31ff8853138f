-- Document 01's sentences about the spacing, about centre points and about edge points, as records: what the definitions of
-- `Points` are proved to mean, `Related`, at every point of the square that is no grid corner. And those about places and sizes. Definitions only.
use Rattle.std.specs.Prelude.{◌≡◌, Bool, true, false, not, ◌⊎◌, ◌↔◌, Result, Ok, Err, ℕ, ◌+◌, ◌*◌, ◌^◌, ◌/◌, ◌%◌, ◌≤◌, ◌<◌}
use mathlib.Core.List.{List, Memᴰ}
use Rattle.grid.specs.Grid.{Inside, side, at, place, largest}
use Rattle.grid.specs.Points.{Pair, pair, both, spacing, ends, depends_on, dependents}
use Rattle.grid.specs.declared.points.Point.{Point}
use Rattle.grid.specs.declared.sizes.Size.{Size}
use Rattle.grid.specs.declared.refusals.Refusal.{Refusal}
use Rattle.grid.specs.Refusal.{number}

-- s is the largest power of two dividing both x and y (zero is divisible by all)
pub record LargestPower (x y s : ℕ) : Type 0 where
  pub exponent : ℕ
  pub power : s ≡ 2 ^ exponent
  pub east : x % s ≡ 0
  pub north : y % s ≡ 0
  pub largest : (k : ℕ) → x % 2 ^ k ≡ 0 → y % 2 ^ k ≡ 0 → 2 ^ k ≤ s

-- c is d - s or d + s
abbrev pub Away : ℕ → ℕ → ℕ → Type 0
Away s d c = (c + s ≡ d) ⊎ (c ≡ d + s)

-- q is one of the four points (x±s, y±s)
pub record Around (s : ℕ) (p q : Point) : Type 0 where
  pub east : Away s p.x q.x
  pub north : Away s p.y q.y

-- the coordinates of q, counted in units of 2s, are both odd; both even
abbrev pub BothOdd : ℕ → Point → Type 0
BothOdd s q = ((q.x / (2 * s)) % 2 ≡ 1) × ((q.y / (2 * s)) % 2 ≡ 1)

abbrev pub BothEven : ℕ → Point → Type 0
BothEven s q = ((q.x / (2 * s)) % 2 ≡ 0) × ((q.y / (2 * s)) % 2 ≡ 0)

-- of the four points around a centre one has both odd and one has both even: these two are its ends, and it depends on the
-- other two
pub record Centre (s : ℕ) (p : Point) (e : Pair) (on : List Point) : Type 0 where
  pub first : Around s p e.first
  pub second : Around s p e.second
  pub ends : (BothOdd s e.first × BothEven s e.second) ⊎ (BothEven s e.first × BothOdd s e.second)
  pub only : (q : Point) → Around s p q → BothOdd s q ⊎ BothEven s q → Memᴰ q (both e)
  pub others : (q : Point) → Memᴰ q on ↔ (Around s p q × ¬ (Memᴰ q (both e)))

-- of a point, the coordinate along the east-west axis; turned, along the north-south axis
abbrev pub along : Bool → Point → ℕ
along false p = p.x
along true p = p.y

-- q is s away from p along an axis
pub record AwayAlong (turned : Bool) (s : ℕ) (p q : Point) : Type 0 where
  pub away : Away s (along turned p) (along turned q)
  pub same : along (not turned) q ≡ along (not turned) p

-- the ends of an edge point are the points s away along the axis with the odd one; it depends on the points s away along the
-- other axis, those inside the square
pub record Edge (m : ℕ) (turned : Bool) (s : ℕ) (p : Point) (e : Pair) (on : List Point) : Type 0 where
  pub ends : (q : Point) → Memᴰ q (both e) ↔ AwayAlong turned s p q
  pub others : (q : Point) → Memᴰ q on ↔ (AwayAlong (not turned) s p q × Inside m q)

-- what document 01 says of a point p that is no grid corner
pub record Related (m : ℕ) (p : Point) : Type 0 where
  -- its spacing s is the largest power of two dividing both x and y
  pub spaced : LargestPower p.x p.y (spacing m p)
  -- x/s or y/s is odd. Centre point: both odd
  pub some : (p.x / spacing m p % 2 ≡ 1) ⊎ (p.y / spacing m p % 2 ≡ 1)
  pub centre : p.x / spacing m p % 2 ≡ 1 → p.y / spacing m p % 2 ≡ 1 → Centre (spacing m p) p (ends m p) (depends_on m p)
  -- for the grid's centre the ends are (0,0) and (N,N)
  pub grid_centre : 2 * p.x ≡ side m → 2 * p.y ≡ side m → ends m p ≡ pair (at 0 0) (at (side m) (side m))
  -- edge point: exactly one of them odd, x/s or y/s
  pub east_west : p.x / spacing m p % 2 ≡ 1 → p.y / spacing m p % 2 ≡ 0 → Edge m false (spacing m p) p (ends m p) (depends_on m p)
  pub north_south : p.x / spacing m p % 2 ≡ 0 → p.y / spacing m p % 2 ≡ 1 → Edge m true (spacing m p) p (ends m p) (depends_on m p)
  -- its dependents are those that depend on it
  pub dependent_on : (q : Point) → Inside m q → Memᴰ p (depends_on m q) ↔ Memᴰ q (dependents m p)

-- point (x, y) is at place y·(N+1)+x
abbrev pub AtPlace : ℕ → Point → Type 0
AtPlace m p = place m p ≡ p.y * (2 ^ m + 1) + p.x

-- What is answered for a size. Up to the largest: N = 2^m, (N+1)² samples, at most 2N² triangles. Above it: refusal 1, and no number with it.
pub data SizeGiven (m : ℕ) : Result Size Refusal → Type 0 where
  held : {size : Size} → m ≤ largest → size.side ≡ 2 ^ m → size.samples ≡ (2 ^ m + 1) * (2 ^ m + 1) → size.triangles ≡ 2 * (2 ^ m * 2 ^ m) →
      SizeGiven m (Ok size)
  above : {refusal : Refusal} → largest < m → number refusal ≡ 1 → SizeGiven m (Err refusal)
