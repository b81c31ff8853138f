-- A point that is no grid corner is placed by its level and units, and they name its ends and what it depends on: the
-- claims of Around, carried from kind and spacing to the point.
use mathlib.Core.Path.{◌≡◌, sym, ap, ◌∙◌}
use mathlib.Core.Bool.{false}
use mathlib.Core.List.{Memᴰ}
use mathlib.Core.Logic.{◌↔◌}
use Prim.Native.Nat.{ℕ, suc, ◌*◌, ◌^◌, ◌/◌, ◌%◌, ◌<◌}
use native.Mathlib.Nat.{mul_left_comm}
use native.Mathlib.Omega.{arith}
use lib.Pow.{pow_pos}
use Rattle.grid.specs.Grid.{Inside}
use Rattle.grid.specs.Points.{level, spacing, units, is_corner, kind, both, ends, depends_on}
use Rattle.grid.specs.declared.points.Point.{Point}
use Rattle.grid.proofs.Level.{twice}
use Rattle.grid.proofs.Spaced.{view, east_units, north_units, level_below}
use Rattle.grid.proofs.Parity.{sort}
use Rattle.grid.proofs.Units.{Times, Measured, Odd, at_units}
use Rattle.grid.proofs.Around.{Ended, Depended, Stands, Way, way, Lattice, ends_way, depends_way}

-- a point in units of 2^(j+1), counted in units of 2^j
pub doubled : (j : ℕ) {a b : ℕ} {p : Point} → Times (2 ^ suc j) a b p → Times (2 ^ j) (2 * a) (2 * b) p
doubled j {a} {b} t = record { east = t.east ∙ step a; north = t.north ∙ step b }
  where
    step : (n : ℕ) → 2 ^ suc j * n ≡ 2 ^ j * (2 * n)
    step n = twice j n ∙ mul_left_comm 2 (2 ^ j) n

pub halved : (j : ℕ) {u v : ℕ} {p : Point} → Times (2 ^ j) u v p → u % 2 ≡ 0 → v % 2 ≡ 0 → Times (2 ^ suc j) (u / 2) (v / 2) p
halved j {u} {v} t eu ev = record { east = t.east ∙ step u eu; north = t.north ∙ step v ev }
  where
    step : (n : ℕ) → n % 2 ≡ 0 → 2 ^ j * n ≡ 2 ^ suc j * (n / 2)
    step n e =
        let d : n ≡ 2 * (n / 2) = omega arith in
        ap (λ (k : ℕ). 2 ^ j * k) d ∙ mul_left_comm (2 ^ j) 2 (n / 2) ∙ sym (twice j (n / 2))

-- p is 2^j times (a, b), a or b odd, inside a square more than 2^j wide
pub record Placed (m j a b : ℕ) (p : Point) : Type 0 where
  pub below : j < m
  pub times : Times (2 ^ j) a b p
  pub odd : Odd a b
  pub inside : Inside m p

pub placed : (m : ℕ) (p : Point) → Inside m p → is_corner m p ≡ false →
    Placed m (level m p.x p.y) (units m p).across (units m p).up p
unfolding spacing
placed m p h inner = record {
  below = level_below m p h inner;
  times = record { east = east_units m p; north = north_units m p };
  odd = (view m p h inner).odd;
  inside = h;
}

module _ {m j a b : ℕ} {p : Point} (f : Placed m j a b p) where
  pub measured : Measured m p j a b
  measured = at_units m j a b (omega arith) f.times f.odd

  pub inner : is_corner m p ≡ false
  inner = measured.inner f.below

  pub lattice : Lattice m (2 ^ j) a b p
  lattice =
      let v = view m p f.inside inner in
      record { half = v.half; wide = rw (← measured.spaced) v.wide; positive = pow_pos j; times = f.times; inside = f.inside }

  pub kind_way : Way a b (kind m p)
  kind_way = rw (measured.across, measured.up) at (way (sort m p f.inside inner))

  pub ends_are : {q : Point} → Memᴰ q (both (ends m p)) ↔ Stands (Ended a b) (2 ^ j) q
  unfolding ends
  ends_are = rw measured.spaced (ends_way lattice kind_way)

  pub depends_are : {q : Point} → Memᴰ q (depends_on m p) ↔ (Inside m q × Stands (Depended a b) (2 ^ j) q)
  unfolding depends_on
  depends_are = rw measured.spaced (depends_way lattice kind_way)
