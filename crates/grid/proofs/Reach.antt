-- The ends of a point lie `reach_by` places before and behind it: a place is linear in its point, and the ends' line reaches both ways.
use mathlib.Core.Path.{◌≡◌, sym, ap, ◌∙◌}
use Prim.Native.Nat.{ℕ, ◌+◌, ◌-◌, ◌*◌, ◌≤◌}
use native.Mathlib.Nat.{add-mul, sub-add_cancel, le-mul_of_pos_right}
use native.Mathlib.Omega.{arith}
use Rattle.grid.specs.Grid.{side, at, place}
use Rattle.grid.specs.Points.{kind, spacing, ends, ends_by, Pair}
use Rattle.grid.specs.declared.points.Point.{Point}
use Rattle.grid.specs.declared.points.Kind.{Kind}
use Rattle.grid.specs.declared.points.Kind.TheVariants.{Corner, EastWest, NorthSouth, Rising, Falling}
use Rattle.grid.proofs.Room.{Reached, room}
use Rattle.grid.specs.Inner.{reach_by, Spread}

-- the places of a pair lie d before and behind a point's
pub record Between (m : ℕ) (e : Pair) (p : Point) (d : ℕ) : Type 0 where
  pub before : place m e.first + d ≡ place m p
  pub behind : place m p + d ≡ place m e.second

module _ (m s x y : ℕ) where
  back : s ≤ y → (y - s) * (side m + 1) + s * (side m + 1) ≡ y * (side m + 1)
  back l = sym (add-mul (y - s) s (side m + 1)) ∙ ap (λ (n : ℕ). n * (side m + 1)) (sub-add_cancel l)

  on : (y + s) * (side m + 1) ≡ y * (side m + 1) + s * (side m + 1)
  on = add-mul y s (side m + 1)

  pub between_by : (k : Kind) → Reached k (side m) s x y → Between m (ends_by k s x y) (at x y) (reach_by k (side m) s)
  unfolding place
  between_by Corner r = record { before = omega arith; behind = omega arith }
  between_by EastWest r = record { before = omega arith; behind = omega arith }
  between_by NorthSouth r = record { before = omega (arith, back r.0); behind = omega (arith, on) }
  between_by Rising r = record { before = omega (arith, back r.1.0); behind = omega (arith, on) }
  between_by Falling r =
      let wide : s ≤ s * (side m + 1) = le-mul_of_pos_right s (omega arith) in
      record { before = omega (arith, back r.1.0); behind = omega (arith, on) }

pub between : {m : ℕ} {p : Point} {d : ℕ} → Spread m p d → Between m (ends m p) p d
unfolding ends
between {m} {p} h = rw h.reached (between_by m (spacing m p) p.x p.y (kind m p) (room m p h.inside))
