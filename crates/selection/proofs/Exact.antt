-- What the code works out in 32 bits of numbers that are small enough is the whole number meant: sums, differences and products
-- by a constant are no larger than those of the sizes.
use Rattle.std.proofs.Common.{◌≡◌, ℕ, zero, suc, ◌+◌, ◌-◌, ◌*◌, ◌<◌, ◌≤◌, Bool, true, false, cond, ltb, ℤ, pos, negsuc, ◌+ℤ◌, ◌-ℤ◌, ◌*ℤ◌, neg_ℤ, nat_abs, refl, ap, ◌∙◌, mul-le-mul_left, arith, to_z-of_z, w16, w32, SFits, to_z, of_z, ltb-true}
use lib.IntN.{sub_ℕ}
use lib.Signed.{nat_abs-le}

size_less : (a b : ℕ) → nat_abs (sub_ℕ a b) ≤ a + b
size_less a b = go (ltb a b) refl
  where
    go : (t : Bool) → ltb a b ≡ t → nat_abs (cond t (negsuc (b - suc a)) (pos (a - b))) ≤ a + b
    go true l = omega (arith, ltb-true a b l)
    go false l = omega arith

size_sum : (y z : ℤ) → nat_abs (y +ℤ z) ≤ nat_abs y + nat_abs z
size_sum (pos m) (pos n) = omega arith
size_sum (pos m) (negsuc n) = size_less m (suc n)
size_sum (negsuc m) (pos n) = omega (arith, size_less n (suc m))
size_sum (negsuc m) (negsuc n) = omega arith

pub size_opposite : (z : ℤ) → nat_abs (neg_ℤ z) ≡ nat_abs z
size_opposite (pos zero) = refl
size_opposite (pos (suc n)) = refl
size_opposite (negsuc n) = refl

size_times : (k : ℕ) (z : ℤ) → nat_abs (pos k *ℤ z) ≡ k * nat_abs z
size_times k (pos n) = refl
size_times k (negsuc n) = size_opposite (pos (k * suc n))

-- v, which the code has, is z, and z's size is at most n
pub record Exact (v z : ℤ) (n : ℕ) : Type 0 where
  pub same : v ≡ z
  pub size : nat_abs z ≤ n

small : (z : ℤ) {n : ℕ} → nat_abs z ≤ n → n < 2147483648 → SFits w32 z
small (pos a) l h = record { sfits = omega arith }
small (negsuc a) l h = record { sfits = omega arith }

pub fits : {v z : ℤ} {n : ℕ} → Exact v z n → n < 2147483648 → SFits w32 v
fits {z = z} e l = rw e.same (small z e.size l)

-- a number itself
pub literal : (z : ℤ) → Exact z z (nat_abs z)
literal z = record { same = refl; size = omega arith }

-- a number that is handed over in 16 bits, and one that is held in 32
pub handed : {z : ℤ} → SFits w16 z → Exact (to_z w16 (of_z w16 z)) z 32768
handed {z} f = record { same = to_z-of_z f; size = nat_abs-le z f.sfits }

pub held : {v z : ℤ} {n : ℕ} → Exact v z n → n < 2147483648 → Exact (to_z w32 (of_z w32 v)) z n
held e l = record { same = to_z-of_z (fits e l) ∙ e.same; size = e.size }

pub sum : {v z w y : ℤ} {n k : ℕ} → Exact v z n → Exact w y k → Exact (v +ℤ w) (z +ℤ y) (n + k)
sum {z = z} {y = y} e f = record { same = λ i. e.same i +ℤ f.same i; size = omega (arith, size_sum z y) }

opposite : {v z : ℤ} {n : ℕ} → Exact v z n → Exact (neg_ℤ v) (neg_ℤ z) n
opposite {z = z} e = record { same = ap neg_ℤ e.same; size = omega (arith, size_opposite z) }

pub difference : {v z w y : ℤ} {n k : ℕ} → Exact v z n → Exact w y k → Exact (v -ℤ w) (z -ℤ y) (n + k)
difference e f = sum e (opposite f)

pub times : (k : ℕ) {v z : ℤ} {n : ℕ} → Exact v z n → Exact (pos k *ℤ v) (pos k *ℤ z) (k * n)
times k {z = z} e = record { same = λ i. pos k *ℤ e.same i; size = rw (size_times k z) (mul-le-mul_left k e.size) }
