-- Parities of sums and of halves, and numbers at most one apart: the small arithmetic under points counted in units.
-- Each is stated alone, so that `omega` has little to read.
use mathlib.Core.Path.{◌≡◌, refl}
use mathlib.Core.Bool.{Bool, true, false}
use mathlib.Core.Logic.{◌⊎◌, inl, inr, ◌≢◌}
use Prim.Native.Nat.{ℕ, ◌+◌, ◌*◌, ◌/◌, ◌%◌, ◌≤◌, ◌<◌}
use native.Mathlib.Omega.{arith}

-- one of two, as a test decides
pub choose : {A B D : Type 0} → Dec D → (D → A) → ((D → ⊥) → B) → A ⊎ B
choose (yes d) f g = inl (f d)
choose (no d) f g = inr (g d)

pub false_by : (t : Bool) → (t ≡ true → ⊥) → t ≡ false
false_by true f = absurd (f refl)
false_by false f = refl

pub odd_by : (n k : ℕ) → n ≡ 2 * k + 1 → n % 2 ≡ 1
odd_by n k e = omega arith

pub one_odd : (u v : ℕ) → (u + v) % 2 ≡ 1 → u % 2 ≡ 1 → v % 2 ≡ 1 → ⊥
one_odd u v o ou ov = omega arith

pub even_odd : (u v : ℕ) → u % 2 ≡ 0 → v % 2 ≡ 1 → (u + v) % 2 ≡ 1
even_odd u v e o = omega arith

pub odd_left : (u v : ℕ) → (u + v) % 2 ≡ 1 → u % 2 ≡ 0 → v % 2 ≡ 1
odd_left u v o e = omega arith

pub double_sum : (u v r : ℕ) → (u + v) % 2 ≡ r → (2 * u + 2 * v) % 4 ≡ 2 * r
double_sum u v r e = by (2 * u + 2 * v) ((u + v) / 2) (2 * r) (omega arith) (omega arith)
  where
    by : (n k i : ℕ) → n ≡ 4 * k + i → i < 4 → n % 4 ≡ i
    by n k i f l = omega arith

pub double_alike : (u v : ℕ) → u % 2 ≡ v % 2 → (2 * u + 2 * v) % 4 ≡ 0
double_alike u v e = double_sum u v 0 (omega arith)

-- two even numbers by their sum, and two odd ones by whether their halves are alike
pub half_sum : (u v : ℕ) → u % 2 ≡ 0 → v % 2 ≡ 0 → (u + v) % 4 ≡ 2 → (u / 2 + v / 2) % 2 ≡ 1
half_sum u v eu ev t = odd_by (u / 2 + v / 2) ((u + v) / 4) (omega arith)

pub sum_alike : (a b : ℕ) → a % 2 ≡ 1 → b % 2 ≡ 1 → a / 2 % 2 ≡ b / 2 % 2 → (a + b) % 4 ≡ 2
sum_alike a b oa ob e =
    let f : (a / 2 + b / 2) % 2 ≡ 0 = omega arith in
    let g : a + b ≡ 4 * ((a / 2 + b / 2) / 2) + 2 = omega arith in
    omega arith

pub sum_unlike : (a b : ℕ) → a % 2 ≡ 1 → b % 2 ≡ 1 → a / 2 % 2 ≢ b / 2 % 2 → (a + b) % 4 ≡ 0
sum_unlike a b oa ob e =
    let f : (a / 2 + b / 2) % 2 ≡ 1 = omega arith in
    let g : a + b ≡ 4 * ((a / 2 + b / 2) / 2) + 4 = omega arith in
    omega arith

-- u is at most one from a
pub record Close (u a : ℕ) : Type 0 where
  pub most : u ≤ a + 1
  pub least : a ≤ u + 1

pub close_sym : {u a : ℕ} → Close u a → Close a u
close_sym c = omega arith

pub close_equal : {u a : ℕ} → Close u a → u % 2 ≡ a % 2 → u ≡ a
close_equal c e = omega arith

-- u and w are close to a: so is what lies halfway between them, in the same units
pub close_same : {a c u w : ℕ} → Close u a → Close w a → 2 * c ≡ u + w → Close u c × Close w c × Close a c
close_same f g e = omega arith

-- and in half of those units
pub close_half : {a u w : ℕ} → Close u a → Close w a → u % 2 ≡ 0 → w % 2 ≡ 1 →
    Close (2 * u) (u + w) × Close (2 * w) (u + w) × Close (2 * a) (u + w)
close_half f g e o = omega arith
