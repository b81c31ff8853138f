-- Whole numbers as differences of two counts. A sum, an opposite and a product of differences is a difference, and two of them are the same
-- where the counts say so: so an equation of whole numbers comes down to one of counts, with no minus in it.
use mathlib.Core.Path.{◌≡◌, refl, ap}
use mathlib.Core.Bool.{Bool, true, false, cond}
use Prim.Native.Nat.{ℕ, zero, suc, ◌+◌, ◌-◌, ◌*◌, ◌≤◌}
use native.Mathlib.Omega.{arith}
use lib.Dec.{ltb}
use lib.IntN.{ℤ, pos, negsuc, nat_abs, neg_ℤ, sub_ℕ, ◌+ℤ◌, ◌-ℤ◌, ◌*ℤ◌}
use borrow.Author.Tests.{ltb-true, ltb-false}

-- a whole number's own two counts, one of them 0
abbrev pub over : ℤ → ℕ
over (pos n) = n
over (negsuc n) = 0

abbrev pub under : ℤ → ℕ
under (pos n) = 0
under (negsuc n) = suc n

-- a less b is z
pub record Difference (a b : ℕ) (z : ℤ) : Type 0 where
  pub same : a + under z ≡ over z + b

pub whole : (z : ℤ) → Difference (over z) (under z) z
whole z = record { same = refl }

pub count : (n : ℕ) → Difference n 0 (pos n)
count n = record { same = refl }

less : (a b : ℕ) → Difference a b (sub_ℕ a b)
less a b = go (ltb a b) refl
  where
    go : (t : Bool) → ltb a b ≡ t → Difference a b (cond t (negsuc (b - suc a)) (pos (a - b)))
    go true l = omega (arith, ltb-true a b l)
    go false l = omega (arith, ltb-false a b l)

pub sum : {a b c d : ℕ} {y z : ℤ} → Difference a b y → Difference c d z → Difference (a + c) (b + d) (y +ℤ z)
sum {y = pos m} {z = pos n} e f = omega arith
sum {y = pos m} {z = negsuc n} e f = omega (arith, less m (suc n))
sum {y = negsuc m} {z = pos n} e f = omega (arith, less n (suc m))
sum {y = negsuc m} {z = negsuc n} e f = omega arith

pub opposite : {a b : ℕ} {z : ℤ} → Difference a b z → Difference b a (neg_ℤ z)
opposite {z = pos zero} e = omega arith
opposite {z = pos (suc n)} e = omega arith
opposite {z = negsuc n} e = omega arith

pub difference : {a b c d : ℕ} {y z : ℤ} → Difference a b y → Difference c d z → Difference (a + d) (b + c) (y -ℤ z)
difference e f = sum e (opposite f)

-- a is m more than b, and c is n more than d: how far apart the two counts of their product stand
times : (a b c d m n : ℕ) → a ≡ b + m → c ≡ d + n → Difference (a * c + b * d) (a * d + b * c) (pos (m * n))
times a b c d m n e f =
    omega (arith, ap (λ (k : ℕ). k * c) e, ap (λ (k : ℕ). k * d) e, ap (λ (k : ℕ). m * k) f)

pub product : {a b c d : ℕ} {y z : ℤ} → Difference a b y → Difference c d z → Difference (a * c + b * d) (a * d + b * c) (y *ℤ z)
product {a} {b} {c} {d} {y = pos m} {z = pos n} e f = times a b c d m n (omega arith) (omega arith)
product {a} {b} {c} {d} {y = pos m} {z = negsuc n} e f = opposite (times a b d c m (suc n) (omega arith) (omega arith))
product {a} {b} {c} {d} {y = negsuc m} {z = pos n} e f =
    opposite {z = pos (suc m * n)} (omega (arith, times b a c d (suc m) n (omega arith) (omega arith)))
product {a} {b} {c} {d} {y = negsuc m} {z = negsuc n} e f =
    omega (arith, times b a d c (suc m) (suc n) (omega arith) (omega arith))

-- by a count, on either side
pub multiple : (k : ℕ) {a b : ℕ} {z : ℤ} → Difference a b z → Difference (k * a) (k * b) (pos k *ℤ z)
multiple k e = omega (arith, product (count k) e)

pub by : {a b : ℕ} {z : ℤ} → Difference a b z → (k : ℕ) → Difference (a * k) (b * k) (z *ℤ pos k)
by e k = omega (arith, product e (count k))

-- whole numbers whose counts stand as far apart are the same
pub equal : {a b c d : ℕ} {y z : ℤ} → Difference a b y → Difference c d z → a + d ≡ c + b → y ≡ z
equal {y = pos m} {z = pos n} e f s = ap pos (omega arith)
equal {y = pos m} {z = negsuc n} e f s = absurd (omega arith)
equal {y = negsuc m} {z = pos n} e f s = absurd (omega arith)
equal {y = negsuc m} {z = negsuc n} e f s = ap negsuc (omega arith)

-- and the counts of the same whole number stand as far apart
pub apart : {a b c d : ℕ} {y z : ℤ} → Difference a b y → Difference c d z → y ≡ z → a + d ≡ c + b
apart {y = y} {z = z} e f s = omega (arith, ap over s, ap under s)

-- a whole number is no larger than its counts stand apart
pub size : {a b : ℕ} {z : ℤ} {c : ℕ} → Difference a b z → a ≤ b + c → b ≤ a + c → nat_abs z ≤ c
size {z = pos n} e u v = omega arith
size {z = negsuc n} e u v = omega arith
