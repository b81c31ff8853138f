-- What the code works out in 32 bits of small numbers is the whole number meant: a product of two, a sum of three, a count made signed.
use mathlib.Core.Path.{◌≡◌, refl}
use Prim.Native.Nat.{ℕ, suc, ◌+◌, ◌*◌, ◌≤◌, ◌<◌}
use native.Mathlib.Nat.{mul-le-mul}
use native.Mathlib.Omega.{arith}
use lib.IntN.{ℤ, pos, negsuc, nat_abs, ◌+ℤ◌, ◌*ℤ◌}
use lib.Signed.{mag}
use mir.Syntax.{w32}
use mir.Val.{SFits, to_z, of_z}
use mir.Facts.{to_z-of_z}
use Rattle.selection.proofs.Exact.{Exact, size_opposite, held, sum}

size_product : (y z : ℤ) → nat_abs (y *ℤ z) ≡ nat_abs y * nat_abs z
size_product (pos m) (pos n) = refl
size_product (pos m) (negsuc n) = size_opposite (pos (m * suc n))
size_product (negsuc m) (pos n) = size_opposite (pos (suc m * n))
size_product (negsuc m) (negsuc n) = refl

pub product : {v z w y : ℤ} {n k : ℕ} → Exact v z n → Exact w y k → Exact (v *ℤ w) (z *ℤ y) (n * k)
product {z = z} {y = y} e f = record {
  same = λ i. e.same i *ℤ f.same i;
  size = rw (size_product z y) (mul-le-mul e.size f.size);
}

-- a number that the code holds in 32 bits
abbrev pub in32 : ℤ → ℤ
in32 z = to_z w32 (of_z w32 z)

-- the sum of three numbers, and that of the first two on the way
module _ {u x v y : ℤ} {n : ℕ} (small : 3 * n < 2147483648) (e : Exact u x n) (f : Exact v y n) where
  pub first_two : Exact (in32 u +ℤ in32 v) (x +ℤ y) (n + n)
  first_two = sum (held e (omega arith)) (held f (omega arith))

  pub all_three : {w z : ℤ} → Exact w z n → Exact (in32 (in32 u +ℤ in32 v) +ℤ in32 w) (x +ℤ y +ℤ z) (n + n + n)
  all_three g = sum (held first_two (omega arith)) (held g (omega arith))

-- a count of at most k
pub counted : {n k : ℕ} → n ≤ k → k < 2147483648 → Exact (to_z w32 n) (pos n) k
counted l h = held (record { same = refl; size = l }) h

-- a signed number of 32 bits that is handed on arrives
pub arrives : (z : ℤ) → mag z < 2147483648 → in32 z ≡ z
arrives z l = let f : SFits w32 z = record { sfits = l } in to_z-of_z f
