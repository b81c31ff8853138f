-- A whole number divided by a power of two, as a float. Document 01, "Height at a point": the answer is that quotient exactly, over
-- the float's bits. Stated over any format. Definitions only.
use Rattle.std.specs.Prelude.{◌≡◌, Bool, true, false, ℕ, ◌^◌, ◌<◌, T, ℤ, pos, negsuc, nat_abs, Float}
use Rattle.std.specs.Float.{Format, binary32, fin}
use Rattle.std.specs.Float.Ieee.{prec, round, fits, to_bits, of_bits, nan_bits}
use Rattle.std.specs.Float.Ieee.Exact.{HasValue}

-- the format of an answer: f32
abbrev pub format : Format
format = binary32

-- plus zero
abbrev pub plus_zero : Float
plus_zero = fin false 0 (pos 0)

-- whether a whole number is below zero (`negsuc n` is -(n + 1))
abbrev pub negative : ℤ → Bool
negative (pos n) = false
negative (negsuc n) = true

-- the float nearest to z / d, with the sign of z; for z zero it is plus zero
unfoldable pub quotient : Format → ℤ → ℕ → Float
quotient f z d = round f (negative z) (nat_abs z) d

-- enough for z / d to be a float of the format: d is a power of two that is small enough, and z has no more digits than the format keeps
pub record Representable (f : Format) (z : ℤ) (d : ℕ) : Type 0 where
  pub power : ℕ
  pub is : d ≡ 2 ^ power
  pub few : power < prec f
  pub whole : nat_abs z < 2 ^ prec f

-- A float of the format is z / d exactly. Its bits are no NaN's; read, they have the sign of z, none where z is zero, and the size |z| / d; and
-- where z is zero every bit is 0, which is plus zero.
pub record Exactly (f : Format) (z : ℤ) (d : ℕ) (x : Float) : Type 0 where
  pub holds : T (fits f x)
  pub number : nan_bits f (to_bits f x) ≡ false
  pub value : HasValue (of_bits f (to_bits f x)) (negative z) (nat_abs z) d
  pub zero : z ≡ pos 0 → to_bits f x ≡ 0
