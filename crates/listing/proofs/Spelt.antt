-- A number's digits are those of its tenth part and then its last one, and a number below 10^k has at most k: so one of 32 bits has ten.
use mathlib.Core.Path.{◌≡◌, refl, ap}
use mathlib.Core.Bool.{Bool, true, false}
use mathlib.Core.List.{List, [], ◌∷◌, ◌++◌}
use Prim.Native.Nat.{ℕ, zero, suc, ◌/◌, ◌%◌, ◌^◌, ◌≤◌, ◌<◌}
use native.Mathlib.Nat.{pow-succ'}
use native.Mathlib.Omega.{arith}
use lib.Dec.{ltb}
use lib.ListN.{length, length-append}
use borrow.Author.Tests.{lt-ltb, le-ltb, ltb-false}
use Rattle.listing.specs.Text.{digit, digits_by, decimal_of}

-- below ten a number is its one digit
pub one_digit : (n : ℕ) → n < 10 → decimal_of n ≡ digit (n % 10) ∷ []
unfolding digits_by
one_digit n l = rw (lt-ltb n 10 l)

-- no bound on the number of digits changes them, as long as it is above the number
enough_digits : (a b n : ℕ) → n < a → n < b → digits_by a n ≡ digits_by b n
unfolding digits_by
enough_digits zero b n l k = absurd (omega arith)
enough_digits (suc a) zero n l k = absurd (omega arith)
enough_digits (suc a) (suc b) n l k = by (ltb n 10) refl (λ large. enough_digits a b (n / 10) (omega arith) (omega arith))
  where
    by : (t : Bool) → ltb n 10 ≡ t → (10 ≤ n → digits_by a (n / 10) ≡ digits_by b (n / 10)) → digits_by (suc a) n ≡ digits_by (suc b) n
    by true e tenth = rw e
    by false e tenth = rw e (ap (λ (l : List ℕ). l ++ digit (n % 10) ∷ []) (tenth (ltb-false n 10 e)))

pub more_digits : (n : ℕ) → 10 ≤ n → decimal_of n ≡ decimal_of (n / 10) ++ digit (n % 10) ∷ []
unfolding digits_by
more_digits n l =
    rw (le-ltb n 10 l) (ap (λ (l : List ℕ). l ++ digit (n % 10) ∷ []) (enough_digits n (suc (n / 10)) (n / 10) (omega arith) (omega arith)))

few_by : (most k n : ℕ) → n < 10 ^ suc k → length (digits_by most n) ≤ suc k
unfolding digits_by
few_by zero k n l = omega arith
few_by (suc most) zero n l = rw (lt-ltb n 10 (omega (arith, l))) (omega arith)
few_by (suc most) (suc k) n l = by (ltb n 10) refl (few_by most k (n / 10) (omega (arith, pow-succ' 10 (suc k))))
  where
    by : (t : Bool) → ltb n 10 ≡ t → length (digits_by most (n / 10)) ≤ suc k → length (digits_by (suc most) n) ≤ suc (suc k)
    by true e tenth = rw e (omega arith)
    by false e tenth = rw (e, length-append) (omega arith)

pub few : (k n : ℕ) → n < 10 ^ suc k → length (decimal_of n) ≤ suc k
few k n l = few_by (suc n) k n l
