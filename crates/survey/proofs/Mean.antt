-- The floor of the mean is what halving the sum counted from the void mark gives: plain division, so no sign can slip.
-- And it is the floor: twice it is the sum, or one less.
use mathlib.Core.Path.{◌≡◌, refl, sym, ap, ◌∙◌}
use mathlib.Core.Bool.{Bool, true, false, cond}
use mathlib.Core.Logic.{◌⊎◌, inl, inr}
use Prim.Native.Nat.{ℕ, suc, ◌+◌, ◌-◌, ◌/◌, ◌%◌, ◌≤◌, ◌<◌}
use native.Mathlib.Decide.{ℕ_discrete}
use native.Mathlib.Omega.{arith}
use lib.Dec.{ltb}
use lib.IntN.{ℤ, pos, negsuc, suc_ℤ, ◌+ℤ◌, sub_ℕ}
use lib.Signed.{mag}
use borrow.Author.Tests.{le-ltb, lt-ltb, ltb-true, ltb-false, ne_eqb, eqb-false}
use Rattle.grid.specs.Grid.{Height, is_void, raise, lower}
use Rattle.grid.proofs.Heights.{lower_fits, raise_minus, raise_below}
use Rattle.survey.specs.Filled.{floor_half, floor_mean}

lower_high : (b : ℕ) → 32768 ≤ b → lower b ≡ pos (b - 32768)
lower_high b h = rw (le-ltb b 32768 h)

lower_low : (b : ℕ) → b < 32768 → lower b ≡ negsuc (32768 - suc b)
lower_low b h = rw (lt-ltb b 32768 h)

-- a number and a number below zero
mixed : (x y : ℕ) → y < 32768 → floor_half (sub_ℕ x (suc y)) ≡ lower ((x + 32768 + (32768 - suc y)) / 2)
mixed x y h = go (ltb x (suc y)) refl
  where
    go : (t : Bool) → ltb x (suc y) ≡ t →
        floor_half (cond t (negsuc (suc y - suc x)) (pos (x - suc y))) ≡ lower ((x + 32768 + (32768 - suc y)) / 2)
    go true e =
        let l : x < suc y = ltb-true x (suc y) e in
        let n : (suc y - suc x) / 2 ≡ 32768 - suc ((x + 32768 + (32768 - suc y)) / 2) = omega arith in
        ap negsuc n ∙ sym (lower_low ((x + 32768 + (32768 - suc y)) / 2) (omega arith))
    go false e =
        let l : suc y ≤ x = ltb-false x (suc y) e in
        let n : (x - suc y) / 2 ≡ (x + 32768 + (32768 - suc y)) / 2 - 32768 = omega arith in
        ap pos n ∙ sym (lower_high ((x + 32768 + (32768 - suc y)) / 2) (omega arith))

pub mean_raised : (a b : ℤ) → mag a < 32768 → mag b < 32768 → floor_mean a b ≡ lower ((raise a + raise b) / 2)
mean_raised (pos x) (pos y) h k =
    let n : (x + y) / 2 ≡ (x + 32768 + (y + 32768)) / 2 - 32768 = omega arith in
    ap pos n ∙ sym (lower_high ((x + 32768 + (y + 32768)) / 2) (omega arith))
mean_raised (pos x) (negsuc y) h k = rw (raise_minus y k) (mixed x y k)
mean_raised (negsuc x) (pos y) h k =
    let n : 32768 - suc x + (y + 32768) ≡ y + 32768 + (32768 - suc x) = omega arith in
    rw (raise_minus x h, n) (mixed y x h)
mean_raised (negsuc x) (negsuc y) h k =
    let s = (32768 - suc x + (32768 - suc y)) / 2 in
    let n : suc (x + y) / 2 ≡ 32768 - suc s = omega arith in
    rw (raise_minus x h, raise_minus y k) (ap negsuc n ∙ sym (lower_low s (omega arith)))

-- the mean of a height with itself
pub mean_itself : (z : ℤ) → floor_mean z z ≡ z
mean_itself (pos n) = let e : (n + n) / 2 ≡ n = omega arith in ap pos e
mean_itself (negsuc n) = let e : suc (n + n) / 2 ≡ n = omega arith in ap negsuc e

-- the floor: twice it is the number itself, or one below
pub floor_half_lem : (z : ℤ) → (z ≡ floor_half z +ℤ floor_half z) ⊎ (z ≡ suc_ℤ (floor_half z +ℤ floor_half z))
floor_half_lem (pos n) = go (ℕ_discrete (n % 2) 0)
  where
    go : Dec (n % 2 ≡ 0) → (pos n ≡ pos (n / 2 + n / 2)) ⊎ (pos n ≡ pos (suc (n / 2 + n / 2)))
    go (yes e) = inl (ap pos (omega arith))
    go (no e) = inr (ap pos (omega arith))
floor_half_lem (negsuc n) = go (ℕ_discrete (n % 2) 1)
  where
    go : Dec (n % 2 ≡ 1) → (negsuc n ≡ negsuc (suc (n / 2 + n / 2))) ⊎ (negsuc n ≡ negsuc (n / 2 + n / 2))
    go (yes e) = inl (ap negsuc (omega arith))
    go (no e) = inr (ap negsuc (omega arith))

-- a height of 16 bits, above the void mark
pub record Above (z : ℤ) : Type 0 where
  pub fits : mag z < 32768
  pub above : 0 < raise z

pub above_height : (z : ℤ) → Above z → Height z
above_height (pos n) h = omega (arith, h.fits)
above_height (negsuc n) h = let r = raise_minus n h.fits in omega (arith, h.fits, h.above)

pub height_not_void : (z : ℤ) → Height z → is_void z ≡ false
height_not_void (pos n) h = refl
height_not_void (negsuc n) h = ne_eqb n 32767 (λ e. omega arith)

pub not_void_above : (z : ℤ) → mag z < 32768 → is_void z ≡ false → Above z
not_void_above (pos n) f e = record { fits = f; above = omega arith }
not_void_above (negsuc n) f e =
    let d : n ≡ 32767 → ⊥ = eqb-false n 32767 e in
    record { fits = f; above = rw (raise_minus n f) (omega arith) }

raise_lower : (b : ℕ) → b < 65536 → raise (lower b) ≡ b
raise_lower b h = go (ltb b 32768) refl
  where
    go : (t : Bool) → ltb b 32768 ≡ t → raise (cond t (negsuc (32768 - suc b)) (pos (b - 32768))) ≡ b
    go true e =
        let l : b < 32768 = ltb-true b 32768 e in raise_minus (32768 - suc b) (omega arith) ∙ omega arith
    go false e = let l : 32768 ≤ b = ltb-false b 32768 e in omega arith

-- the mean of two heights above the void mark lies above it
pub mean_above : (a b : ℤ) → Above a → Above b → Above (floor_mean a b)
mean_above a b h k =
    let s = (raise a + raise b) / 2 in
    let l : s < 65536 = omega (arith, raise_below a h.fits, raise_below b k.fits) in
    let e : floor_mean a b ≡ lower s = mean_raised a b h.fits k.fits in
    let u : 0 < s = omega (arith, h.above, k.above) in
    rw e (record { fits = lower_fits s l; above = rw (raise_lower s l) u })
