-- The ends of a point that is no grid corner lie inside the square and have a higher level: at least twice its spacing.
use mathlib.Core.Path.{◌≡◌, ap, ◌∙◌}
use mathlib.Core.Bool.{false}
use Prim.Native.Nat.{ℕ, suc, ◌+◌, ◌-◌, ◌*◌, ◌%◌, ◌≤◌, ◌<◌}
use native.Mathlib.Nat.{mul-suc, mul-one, mul-add}
use native.Mathlib.Omega.{arith}
use Rattle.grid.specs.Grid.{side, at, Inside}
use Rattle.grid.specs.Points.{level, spacing, units, is_corner, kind, ends, ends_by, Pair}
use Rattle.grid.specs.declared.points.Point.{Point}
use Rattle.grid.specs.declared.points.Kind.TheVariants.{EastWest, NorthSouth, Rising, Falling}
use Rattle.grid.proofs.Level.{level_largest}
use Rattle.grid.proofs.Spaced.{east_units, north_units, level_below, twice_units}
use Rattle.grid.proofs.Parity.{Sort, east_west, north_south, rising, falling, sort}
use Rattle.grid.proofs.Room.{Reach, Reached, room}

-- q lies inside and its spacing is a larger power of two than p's
pub record Coarser (m : ℕ) (p q : Point) : Type 0 where
  pub inside : Inside m q
  pub higher : level m p.x p.y < level m q.x q.y

-- c is an odd number a of s: both its neighbours s away are even numbers of s, and inside
pub record Neighbours (n s a c : ℕ) : Type 0 where
  pub low : c - s ≡ s * (a - 1)
  pub high : c + s ≡ s * (a + 1)
  pub low_even : (a - 1) % 2 ≡ 0
  pub high_even : (a + 1) % 2 ≡ 0
  pub low_inside : c - s ≤ n
  pub high_inside : c + s ≤ n

pub neighbours : (n s a c : ℕ) → c ≡ s * a → a % 2 ≡ 1 → Reach n s c → Neighbours n s a c
neighbours n s a c e o r =
    let d : a ≡ suc (a - 1) = omega arith in
    let f : s * a ≡ s * (a - 1) + s = ap (λ (n : ℕ). s * n) d ∙ mul-suc s (a - 1) in
    let g : s * (a + 1) ≡ s * a + s = mul-add s a 1 ∙ ap (λ (n : ℕ). s * a + n) (mul-one s) in
    record {
      low = omega arith;
      high = omega arith;
      low_even = omega arith;
      high_even = omega arith;
      low_inside = omega (arith, r.1);
      high_inside = r.1;
    }

module _ (m : ℕ) (p : Point) (h : Inside m p) (inner : is_corner m p ≡ false) where
  -- even numbers of s both ways
  coarser : {x y : ℕ} (a b : ℕ) → x ≤ side m → y ≤ side m → x ≡ spacing m p * a → y ≡ spacing m p * b → a % 2 ≡ 0 → b % 2 ≡ 0 →
      Coarser m p (at x y)
  unfolding spacing
  coarser {x} {y} a b lx ly ex ey za zb =
      let j = level m p.x p.y in
      record {
        inside = record { east = lx; north = ly };
        higher =
            level_largest m (suc j) x y (level_below m p h inner)
            (record { east = twice_units j x a ex za; north = twice_units j y b ey zb });
      }

  abbrev Both : Pair → Type 0
  Both e = Coarser m p e.first × Coarser m p e.second

  abbrev East : Type 0
  East = Neighbours (side m) (spacing m p) (units m p).across p.x

  abbrev North : Type 0
  North = Neighbours (side m) (spacing m p) (units m p).up p.y

  east : (units m p).across % 2 ≡ 1 → Reach (side m) (spacing m p) p.x → East
  east o r = neighbours (side m) (spacing m p) (units m p).across p.x (east_units m p) o r

  north : (units m p).up % 2 ≡ 1 → Reach (side m) (spacing m p) p.y → North
  north o r = neighbours (side m) (spacing m p) (units m p).up p.y (north_units m p) o r

  level_row : East → (units m p).up % 2 ≡ 0 → Both (ends_by EastWest (spacing m p) p.x p.y)
  level_row e z = (
    coarser _ _ e.low_inside h.north e.low (north_units m p) e.low_even z,
    coarser _ _ e.high_inside h.north e.high (north_units m p) e.high_even z,
  )

  level_column : North → (units m p).across % 2 ≡ 0 → Both (ends_by NorthSouth (spacing m p) p.x p.y)
  level_column n z = (
    coarser _ _ h.east n.low_inside (east_units m p) n.low z n.low_even,
    coarser _ _ h.east n.high_inside (east_units m p) n.high z n.high_even,
  )

  level_rising : East → North → Both (ends_by Rising (spacing m p) p.x p.y)
  level_rising e n = (
    coarser _ _ e.low_inside n.low_inside e.low n.low e.low_even n.low_even,
    coarser _ _ e.high_inside n.high_inside e.high n.high e.high_even n.high_even,
  )

  level_falling : East → North → Both (ends_by Falling (spacing m p) p.x p.y)
  level_falling e n = (
    coarser _ _ e.high_inside n.low_inside e.high n.low e.high_even n.low_even,
    coarser _ _ e.low_inside n.high_inside e.low n.high e.low_even n.high_even,
  )

  by : Reached (kind m p) (side m) (spacing m p) p.x p.y → Sort m p → Both (ends_by (kind m p) (spacing m p) p.x p.y)
  by r (east_west k oa eb) = rw k (level_row (east oa (rw k at r)) eb)
  by r (north_south k ea ob) = rw k (level_column (north ob (rw k at r)) ea)
  by r (rising k oa ob e) = let w = rw k at r in rw k (level_rising (east oa w.0) (north ob w.1))
  by r (falling k oa ob e) = let w = rw k at r in rw k (level_falling (east oa w.0) (north ob w.1))

  pub ends_coarser : Coarser m p (ends m p).first × Coarser m p (ends m p).second
  unfolding ends
  ends_coarser = by (room m p h) (sort m p h inner)
