-- Places and points are inverse, a place is below the number of samples, and the place of a midpoint is half the sum of
-- the places: a place is linear in its point.
use mathlib.Core.Path.{◌≡◌, sym, ap, ◌∙◌}
use Prim.Native.Nat.{ℕ, ◌+◌, ◌*◌, ◌^◌, ◌/◌, ◌%◌, ◌≤◌, ◌<◌}
use native.Mathlib.Nat.{mul-add-div_right, mul-add-mod_self_right, div-eq_of_lt, mod-eq_of_lt, div-add-mod', mod-lt, div-lt_iff_lt-mul}
use native.Mathlib.Nat.{mul-le-mul, mul-le-mul_right, one-mul, mul_assoc, add-mul, add-zero}
use native.Mathlib.Omega.{arith}
use lib.Pow.{pow_mono, shl_exact}
use Rattle.grid.specs.Grid.{side, samples, at, place, point, midplace, Inside, largest, widest}
use Rattle.grid.specs.declared.points.Point.{Point}
use Rattle.grid.specs.declared.Grid.{Grid}

pub side_small : {m : ℕ} → m ≤ largest → side m ≤ widest
side_small h = pow_mono h

-- 2 to any number of cuts fits 32 bits, so nothing is shifted out
pub shifted : {k : ℕ} → k ≤ 2 * largest → 1 * 2 ^ k % 4294967296 ≡ 2 ^ k
shifted {k} few = shl_exact 1 k 32 (omega arith) (omega arith) ∙ one-mul (2 ^ k)

-- N, by the size that a grid was made of
pub sided : (g : Grid) {m : ℕ} → g.m ≡ m → g.side ≡ side m
sided g e = g.sound.sided ∙ ap side e

pub place_below : (m : ℕ) (p : Point) → Inside m p → place m p < samples m
unfolding place
place_below m p h =
    let rows : p.y * (side m + 1) ≤ side m * (side m + 1) = mul-le-mul_right (side m + 1) h.north in
    let last : samples m ≡ side m * (side m + 1) + (side m + 1) =
    add-mul (side m) 1 (side m + 1) ∙ ap (λ (n : ℕ). side m * (side m + 1) + n) (one-mul (side m + 1)) in
    omega (arith, h.east)

pub samples_small : {m : ℕ} → m ≤ largest → samples m ≤ samples largest
samples_small {m} h =
    let e : side m + 1 ≤ widest + 1 = omega (arith, side_small h) in
    mul-le-mul e e

pub point_place : (m : ℕ) (p : Point) → Inside m p → point m (place m p) ≡ p
unfolding place point
point_place m p h =
    let l : p.x < side m + 1 = omega (arith, h.east) in
    let pos : 0 < side m + 1 = omega arith in
    let ex : (p.y * (side m + 1) + p.x) % (side m + 1) ≡ p.x =
    mul-add-mod_self_right p.y (side m + 1) p.x ∙ mod-eq_of_lt l in
    let ey : (p.y * (side m + 1) + p.x) / (side m + 1) ≡ p.y =
    mul-add-div_right pos p.y p.x ∙ ap (λ (n : ℕ). p.y + n) (div-eq_of_lt l) ∙ add-zero p.y in
    λ i. at (ex i) (ey i)

pub place_point : (m i : ℕ) → place m (point m i) ≡ i
unfolding place point
place_point m i = div-add-mod' i (side m + 1)

pub point_inside : (m i : ℕ) → i < samples m → Inside m (point m i)
unfolding point
point_inside m i h =
    let pos : 0 < side m + 1 = omega arith in
    let ex : i % (side m + 1) < side m + 1 = mod-lt i pos in
    let ey : i / (side m + 1) < side m + 1 = (div-lt_iff_lt-mul pos).1 h in
    record { east = omega arith; north = omega arith }

-- where two points have a point halfway, its place is halfway between their places
pub midplace_place : (m : ℕ) (p q c : Point) → 2 * c.x ≡ p.x + q.x → 2 * c.y ≡ p.y + q.y →
    midplace (place m p) (place m q) ≡ place m c
unfolding place
midplace_place m p q c ex ey =
    let ez : 2 * (c.y * (side m + 1)) ≡ p.y * (side m + 1) + q.y * (side m + 1) =
    sym (mul_assoc 2 c.y (side m + 1)) ∙ ap (λ (n : ℕ). n * (side m + 1)) ey ∙ add-mul p.y q.y (side m + 1) in
    omega arith
