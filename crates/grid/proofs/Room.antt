-- The line on which a point's ends lie stays inside the square: s back and s on from the point.
use mathlib.Core.Path.{◌≡◌, refl}
use mathlib.Core.Bool.{Bool, true, false}
use Prim.Native.Nat.{ℕ, suc, ◌+◌, ◌*◌, ◌%◌, ◌≤◌}
use native.Mathlib.Nat.{mul-suc, mul-le-mul_left, mul-one}
use native.Mathlib.Omega.{arith}
use lib.Pow.{pow_mono}
use Rattle.grid.specs.Grid.{side, Inside}
use Rattle.grid.specs.Points.{spacing, units, is_corner, kind}
use Rattle.grid.specs.declared.points.Point.{Point}
use Rattle.grid.specs.declared.points.Kind.{Kind}
use Rattle.grid.specs.declared.points.Kind.TheVariants.{Corner, EastWest, NorthSouth, Rising, Falling}
use Rattle.grid.proofs.Level.{level_most}
use Rattle.grid.proofs.Spaced.{View, view, east_units, north_units}
use Rattle.grid.proofs.Parity.{kind_corner, Sort, east_west, north_south, rising, falling, sort}

pub spacing_side : (m : ℕ) (p : Point) → spacing m p ≤ side m
unfolding spacing
spacing_side m p = pow_mono (level_most m p.x p.y)

-- s reaches back and on from an odd number of s
abbrev pub Reach : ℕ → ℕ → ℕ → Type 0
Reach n s c = (s ≤ c) × (c + s ≤ n)

pub reach : (n s h a c : ℕ) → n ≡ s * (2 * h) → c ≡ s * a → a ≤ 2 * h → a % 2 ≡ 1 → Reach n s c
reach n s h a c w e l o =
    let one : s * 1 ≤ s * a = mul-le-mul_left s (omega arith) in
    let on : s * suc a ≤ s * (2 * h) = mul-le-mul_left s (omega arith) in
    (omega (arith, mul-one s), omega (arith, mul-suc s a))

-- by kind: what is reached
abbrev pub Reached : Kind → ℕ → ℕ → ℕ → ℕ → Type 0
Reached Corner n s x y = Unit {0}
Reached EastWest n s x y = Reach n s x
Reached NorthSouth n s x y = Reach n s y
Reached Rising n s x y = Reach n s x × Reach n s y
Reached Falling n s x y = Reach n s x × Reach n s y

module _ (m : ℕ) (p : Point) where
  Reaches : Kind → Type 0
  Reaches k = Reached k (side m) (spacing m p) p.x p.y

  east : (v : View m p) → (units m p).across % 2 ≡ 1 → Reach (side m) (spacing m p) p.x
  east v o = reach (side m) (spacing m p) v.half (units m p).across p.x v.wide (east_units m p) v.east o

  north : (v : View m p) → (units m p).up % 2 ≡ 1 → Reach (side m) (spacing m p) p.y
  north v o = reach (side m) (spacing m p) v.half (units m p).up p.y v.wide (north_units m p) v.north o

  by : View m p → Sort m p → Reaches (kind m p)
  unfolding Reaches
  by v (east_west k oa eb) = rw k (east v oa)
  by v (north_south k ea ob) = rw k (north v ob)
  by v (rising k oa ob e) = rw k (east v oa, north v ob)
  by v (falling k oa ob e) = rw k (east v oa, north v ob)

  go : Inside m p → (t : Bool) → is_corner m p ≡ t → Reaches (kind m p)
  unfolding Reaches
  go h true e = rw (kind_corner m p e) tt
  go h false e = by (view m p h e) (sort m p h e)

  pub room : Inside m p → Reached (kind m p) (side m) (spacing m p) p.x p.y
  unfolding Reaches
  room h = go h (is_corner m p) refl

-- by kind: the line that it names reaches s back, so that no difference falls below zero
abbrev pub Back : Kind → ℕ → ℕ → ℕ → Type 0
Back Corner s x y = Unit {0}
Back EastWest s x y = s ≤ x
Back NorthSouth s x y = s ≤ y
Back Rising s x y = (s ≤ x) × (s ≤ y)
Back Falling s x y = (s ≤ x) × (s ≤ y)

-- what is reached is reached backwards
pub behind : (k : Kind) (n s x y : ℕ) → Reached k n s x y → Back k s x y
behind Corner n s x y r = tt
behind EastWest n s x y r = r.0
behind NorthSouth n s x y r = r.0
behind Rising n s x y r = (r.0.0, r.1.0)
behind Falling n s x y r = (r.0.0, r.1.0)
