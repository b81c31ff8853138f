-- A point 2^j·(a, b) with a or b odd has level j, spacing 2^j, and units a and b; with j below m it is no grid corner,
-- for a grid corner has level m. So the ranks from 2m on are those of the grid corners.
use mathlib.Core.Path.{◌≡◌, ap}
use mathlib.Core.Bool.{Bool, true, false}
use mathlib.Core.Logic.{◌⊎◌, inl, inr}
use Prim.Native.Nat.{ℕ, ◌+◌, ◌-◌, ◌*◌, ◌^◌, ◌%◌, ◌≤◌, ◌<◌}
use native.Mathlib.Nat.{mul-div_cancel_left}
use native.Mathlib.Decide.{ℕ_discrete}
use native.Mathlib.Omega.{arith}
use lib.Pow.{pow_pos}
use Rattle.grid.specs.Grid.{Inside}
use Rattle.grid.specs.Points.{level, spacing, units, is_corner, rank, odd, centre_bit}
use Rattle.grid.specs.declared.points.Point.{Point}
use Rattle.grid.proofs.Sums.{choose, false_by}
use Rattle.grid.proofs.Level.{level_units}
use Rattle.grid.proofs.Spaced.{level_below, corner_level}
use Rattle.grid.proofs.Parity.{even_false, odd_true}

pub below_inner : (m : ℕ) (p : Point) → level m p.x p.y < m → is_corner m p ≡ false
below_inner m p l = false_by (is_corner m p) (λ e. let z : level m p.x p.y ≡ m = corner_level m p e in omega arith)

-- p is s times (a, b)
pub record Times (s a b : ℕ) (p : Point) : Type 0 where
  pub east : p.x ≡ s * a
  pub north : p.y ≡ s * b

-- what p measures: its level, its spacing and its units
pub record Measured (m : ℕ) (p : Point) (j a b : ℕ) : Type 0 where
  pub levelled : level m p.x p.y ≡ j
  pub spaced : spacing m p ≡ 2 ^ j
  pub across : (units m p).across ≡ a
  pub up : (units m p).up ≡ b
  pub inner : j < m → is_corner m p ≡ false

-- one of two numbers is odd
abbrev pub Odd : ℕ → ℕ → Type 0
Odd a b = (a % 2 ≡ 1) ⊎ (b % 2 ≡ 1)

pub at_units : (m j a b : ℕ) {p : Point} → j ≤ m → Times (2 ^ j) a b p → Odd a b → Measured m p j a b
unfolding spacing units
at_units m j a b {p} l t o =
    let k : m ≡ j + (m - j) = omega arith in
    let e : level m p.x p.y ≡ j = rw (k, t.east, t.north) (level_units j (m - j) a b o) in
    record {
      levelled = e;
      spaced = ap (λ (n : ℕ). 2 ^ n) e;
      across = rw (e, t.east) (mul-div_cancel_left a (pow_pos j));
      up = rw (e, t.north) (mul-div_cancel_left b (pow_pos j));
      inner = λ below. below_inner m p (rw e below);
    }

-- one of two units is odd: of an edge point one alone, of a centre both
pub data Form (a b : ℕ) : Type 0 where
  edge : (a + b) % 2 ≡ 1 → Form a b
  centre : a % 2 ≡ 1 → b % 2 ≡ 1 → Form a b

pub form : (a b : ℕ) → Odd a b → Form a b
form a b o = by (ℕ_discrete ((a + b) % 2) 1) o
  where
    by : Dec ((a + b) % 2 ≡ 1) → Odd a b → Form a b
    by (yes e) o = edge e
    by (no e) (inl oa) = centre oa (omega arith)
    by (no e) (inr ob) = centre (omega arith) ob

pub edge_odd : (a b : ℕ) → (a + b) % 2 ≡ 1 → Odd a b
edge_odd a b e = choose (ℕ_discrete (a % 2) 1) (λ o. o) (λ n. omega arith)

bit_edge : (a b : ℕ) → (a + b) % 2 ≡ 1 → Dec (a % 2 ≡ 1) → centre_bit (odd a) (odd b) ≡ 0
bit_edge a b e (yes o) = rw (odd_true a o, even_false b (omega arith))
bit_edge a b e (no n) = rw (even_false a (omega arith))

-- an edge point has twice its level for its rank, a centre one more
module _ {m : ℕ} {p : Point} {j a b : ℕ} (f : Measured m p j a b) where
  pub rank_edge : (a + b) % 2 ≡ 1 → rank m p ≡ 2 * j
  unfolding rank
  rank_edge e = rw (f.levelled, f.across, f.up, bit_edge a b e (ℕ_discrete (a % 2) 1)) (omega arith)

  pub rank_centre : a % 2 ≡ 1 → b % 2 ≡ 1 → rank m p ≡ 2 * j + 1
  unfolding rank
  rank_centre oa ob = rw (f.levelled, f.across, f.up, odd_true a oa, odd_true b ob)

bit_small : (t u : Bool) → centre_bit t u ≤ 1
bit_small true true = omega arith
bit_small true false = omega arith
bit_small false u = omega arith

pub corner_rank : (m : ℕ) (p : Point) → Inside m p → (is_corner m p ≡ true → 2 * m ≤ rank m p) × (is_corner m p ≡ false → rank m p < 2 * m)
unfolding rank
corner_rank m p h = (
  λ e. omega (arith, corner_level m p e),
  λ e. omega (arith, level_below m p h e, bit_small (odd (units m p).across) (odd (units m p).up)),
)
