-- Numbers that bytes hold, as document 01's sentences give them: the first byte counts most, and 16 bits are a signed number.
use mathlib.Core.Path.{◌≡◌, refl, sym, ap, ◌∙◌}
use mathlib.Core.Bool.{Bool, true, false, cond}
use mathlib.Core.List.{List}
use Prim.Native.Nat.{ℕ, ◌+◌, ◌-◌, ◌*◌, ◌≤◌, ◌<◌}
use native.Mathlib.Nat.{add-zero}
use native.Mathlib.Omega.{arith}
use lib.Dec.{ltb}
use lib.IntN.{ℤ, pos, ◌-ℤ◌, +ℤ_assoc, +ℤ-neg_ℤ_cancel, -ℤ-+ℤ_cancel}
use borrow.Author.Tests.{lt-ltb, le-ltb, ltb-true, ltb-false}
use Rattle.grid.specs.Grid.{void, lower}
use Rattle.frame.specs.Bytes.{byte_at, number_at, signed}
use Rattle.frame.specs.Rule.{TwoAt, FourAt, Signed, plus, minus}

module _ (input : List ℕ) (i : ℕ) where
  first : byte_at input (i + 0) ≡ byte_at input i
  first = ap (byte_at input) (add-zero i)

  pub two_is : TwoAt input i (number_at input i 2)
  two_is = omega (arith, first)

  pub four_is : FourAt input i (number_at input i 4)
  four_is = omega (arith, first)

-- two numbers of two bytes each make one of four
pub four_by : (input : List ℕ) (i : ℕ) → number_at input i 2 * 65536 + number_at input (i + 2) 2 ≡ number_at input i 4
four_by input i = let next : i + 2 + 1 ≡ i + 3 = omega arith in rw (add-zero i, add-zero (i + 2), next) (omega arith)

-- the signed number of 16 bits is one, and there is no other
pub signed_is : (n : ℕ) → Signed n (signed n)
signed_is n = by (ltb n 32768) refl
  where
    by : (t : Bool) → ltb n 32768 ≡ t → Signed n (cond t (pos n) (pos n -ℤ pos 65536))
    by true e = plus (ltb-true n 32768 e) refl
    by false e = minus (ltb-false n 32768 e) (-ℤ-+ℤ_cancel (pos n) (pos 65536))

pub signed_only : {n : ℕ} {z : ℤ} → Signed n z → z ≡ signed n
signed_only {n} (plus l e) = rw (lt-ltb n 32768 l) e
signed_only {n} {z} (minus l e) = rw (le-ltb n 32768 l) (sym (+ℤ-neg_ℤ_cancel z (pos 65536)) ∙ ap (λ (y : ℤ). y -ℤ pos 65536) e)

-- counted from the void mark, the lowest of them, those below zero come first
pub lower_plus : (n : ℕ) → n < 32768 → lower (n + 32768) ≡ signed n
lower_plus n l = signed_only (plus l (+ℤ-neg_ℤ_cancel (pos n) (pos 32768)))

pub lower_minus : (n : ℕ) → 32768 ≤ n → lower (n - 32768) ≡ signed n
lower_minus n l =
    let whole : n - 32768 + 32768 ≡ n = omega arith in
    signed_only (minus l (+ℤ_assoc (pos (n - 32768)) void (pos 65536) ∙ ap pos whole))
