-- No number that an answered call works out is too large: the height times 4N is at most 512 · 32767, below 2^24, and a slope times the
-- doubled area is less than that; so each is divided by its power of two exactly.
use mathlib.Core.Path.{◌≡◌, refl, sym}
use mathlib.Core.Bool.{false}
use mathlib.Core.List.{List}
use Prim.Native.Nat.{ℕ, ◌+◌, ◌*◌, ◌^◌, ◌≤◌, ◌<◌}
use native.Mathlib.Omega.{arith}
use lib.IntN.{ℤ, nat_abs}
use lib.Pow.{pow-add}
use lib.Signed.{mag}
use Rattle.grid.specs.Grid.{Height, highest, largest, widest, side, in_quarters, is_void, Inside}
use Rattle.grid.specs.declared.points.Point.{Point}
use Rattle.grid.proofs.Places.{side_small}
use Rattle.survey.specs.Filled.{sample}
use Rattle.survey.proofs.Mean.{not_void_above, above_height}
use Rattle.mesh.specs.Triangles.{three, written}
use Rattle.aim.specs.Quotient.{format, Representable}
use Rattle.aim.specs.Walk.{Weighed}
use Rattle.aim.specs.Aimed.{weighted, eastward, northward}
use Rattle.aim.proofs.Planes.{weighted_most, tilt_most}
use Rattle.aim.proofs.Shares.{by_reading}
use Rattle.aim.proofs.Weights.{Weighs}

-- 4N is 2 to the m + 2
pub quarters_power : (m : ℕ) → in_quarters m ≡ 2 ^ (2 + m)
quarters_power m = sym (pow-add 2 2 m)

-- a sample of 16 bits that is not void is a height, from -32767 to 32767
pub is_height : (h : ℤ) → mag h < 32768 → is_void h ≡ false → Height h
is_height h small e = above_height h (not_void_above h small e)

-- a sample of the square, with a height
pub record Known (m : ℕ) (heights : List ℤ) (p : Point) : Type 0 where
  pub inside : Inside m p
  pub height : Height (sample m heights p)

pub record AllKnown (m : ℕ) (heights : List ℤ) (t : Weighed) : Type 0 where
  pub left : Known m heights t.l
  pub apex : Known m heights t.a
  pub right : Known m heights t.r

module _ {m k : ℕ} {q : Point} {t : Weighed} (heights : List ℤ) (small : m ≤ largest) (w : Weighs m k q t)
    (known : AllKnown m heights t) where
  -- the height times 4N
  pub whole_most : nat_abs (weighted m heights t) ≤ in_quarters m * highest
  unfolding weighted
  whole_most =
      rw w.sum at
      (weighted_most t.wl t.wa t.wr (sample m heights t.l) (sample m heights t.a) (sample m heights t.r) highest
      known.left.height known.apex.height known.right.height)

  pub whole_largest : nat_abs (weighted m heights t) ≤ in_quarters largest * highest
  whole_largest = omega (arith, whole_most, side_small small)

  pub height_fits : Representable format (weighted m heights t) (in_quarters m)
  height_fits = record { power = 2 + m; is = quarters_power m; few = omega arith; whole = omega (arith, whole_largest) }

  -- the slopes times the doubled area, of the corners in either order
  module _ (cuts : k ≤ 2 * m) where
    far : side m ≤ widest
    far = side_small small

    divides : (z : ℤ) → nat_abs z ≤ 3 * (highest * widest) → Representable format z (2 ^ k)
    divides z l = record { power = k; is = refl; few = omega arith; whole = omega arith }

    module _ (p s r : Point) (kp : Known m heights p) (ks : Known m heights s) (kr : Known m heights r) where
      east : Representable format (eastward m heights (three p s r)) (2 ^ k)
      unfolding eastward
      east =
          divides (eastward m heights (three p s r))
          (tilt_most (sample m heights p) (sample m heights s) (sample m heights r) p.y s.y r.y highest widest kp.height ks.height kr.height
          (omega (arith, far, kp.inside.north)) (omega (arith, far, ks.inside.north)) (omega (arith, far, kr.inside.north)))

      north : Representable format (northward m heights (three r s p)) (2 ^ k)
      unfolding northward
      north =
          divides (northward m heights (three r s p))
          (tilt_most (sample m heights p) (sample m heights s) (sample m heights r) p.x s.x r.x highest widest kp.height ks.height kr.height
          (omega (arith, far, kp.inside.east)) (omega (arith, far, ks.inside.east)) (omega (arith, far, kr.inside.east)))

    pub east_fits : Representable format (eastward m heights (written k t.l t.a t.r)) (2 ^ k)
    east_fits =
        by_reading (λ u. Representable format (eastward m heights u) (2 ^ k)) k t.l t.a t.r
        (λ e. east t.l t.a t.r known.left known.apex known.right)
        (λ o. east t.r t.a t.l known.right known.apex known.left)

    pub north_fits : Representable format (northward m heights (written k t.l t.a t.r)) (2 ^ k)
    north_fits =
        by_reading (λ u. Representable format (northward m heights u) (2 ^ k)) k t.l t.a t.r
        (λ e. north t.r t.a t.l known.right known.apex known.left)
        (λ o. north t.l t.a t.r known.left known.apex known.right)
