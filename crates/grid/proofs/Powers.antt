-- A spacing below N: how far it reaches, and what stands at so many of it east and north.
use mathlib.Core.Path.{◌≡◌, ap, ◌∙◌}
use Prim.Native.Nat.{ℕ, suc, ◌+◌, ◌*◌, ◌≤◌, ◌<◌}
use native.Mathlib.Nat.{mul-suc}
use native.Mathlib.Omega.{arith}
use lib.Pow.{pow_pos, pow_mono}
use Rattle.grid.specs.Grid.{side, widest, largest, at, Inside}
use Rattle.grid.specs.Inner.{Power, Spread, reach_by}
use Rattle.grid.specs.declared.points.Kind.{Kind}
use Rattle.grid.proofs.Around.{Way}
use Rattle.grid.proofs.ByKind.{spread}
use Rattle.grid.proofs.Places.{side_small}
use Rattle.grid.proofs.Placed.{Placed}
use Rattle.grid.proofs.Rows.{way_odd, sited}
use Rattle.grid.proofs.Units.{Odd}

-- two spacings on
pub two_on : (s b : ℕ) {y : ℕ} → y ≡ s * b → y + 2 * s ≡ s * suc (suc b)
two_on s b e = omega (arith, mul-suc s b, mul-suc s (suc b))

module _ {m s : ℕ} (w : Power m s) where
  pub positive : 0 < s
  positive = rw w.power (pow_pos w.exponent)

  pub reaches : s ≤ side m
  reaches = rw w.power (pow_mono (omega (arith, w.below)))

  pub spacing_small : m ≤ largest → (0 < s) × (s ≤ widest)
  spacing_small l = (positive, omega (arith, reaches, side_small l))

  module _ {a b x y : ℕ} (across : x ≡ s * a) (up : y ≡ s * b) (inside : Inside m (at x y)) where
    pub stands : Odd a b → Placed m w.exponent a b (at x y)
    stands odd =
        record {
          below = w.below;
          times = record { east = across ∙ ap (λ (n : ℕ). n * a) w.power; north = up ∙ ap (λ (n : ℕ). n * b) w.power };
          odd = odd;
          inside = inside;
        }

    pub spread_at : {k : Kind} → Way a b k → Spread m (at x y) (reach_by k (side m) s)
    spread_at way = spread (sited (stands (way_odd way)) w.power way)
