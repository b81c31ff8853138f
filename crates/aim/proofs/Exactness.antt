-- A whole number divided by a power of two is exact where the format keeps all its digits, only one float is that quotient, and dividing
-- the two as floats gives it. Bits depend on sign and size alone, so two floats of the format with the same sign and the same size are the same.
use mathlib.Core.Path.{◌≡◌, refl, sym, ap, ◌∙◌}
use mathlib.Core.Bool.{Bool, true, false, cond}
use Prim.Native.Nat.{ℕ, suc, ◌+◌, ◌-◌, ◌*◌, ◌/◌, ◌^◌, ◌≤◌, ◌<◌}
use native.Mathlib.Nat.{mul-one, mul-pos, mul_comm, mul_assoc, mul_left_comm, mul_right_comm, zero-mul, lt_of_lt_of_le, le_of_lt, eq_of_mul-eq-mul_right}
use native.Mathlib.Omega.{arith}
use lib.Dec.{T, eqb, le→leb, lt→ltb, lit≤}
use lib.IntN.{ℤ, pos, negsuc, nat_abs}
use lib.Pow.{pow-add, pow_pos, pow_mono, shl_lt}
use lib.Ieee.{Float, fin, nan, inf, Format, binary32, binary64, prec, emax, low, hid, top, unlike, up, down, size, round, div, of_int, in_float, fits, is_nan, to_bits, of_bits}
use lib.Ieee.Digits.{back}
use lib.Ieee.Fits.{reach, down_pos, round-fits}
use lib.Ieee.Bits.{of_bits-to_bits, nan_bits_is}
use lib.Ieee.Exact.{HasValue, round_exact}
use lib.Ieee.Back.{round_whole}
use lib.Ieee.Nearest.{div_same}
use lib.Ieee.Scale.{round_same}
use lib.Ieee.Positive.{first_pos}
use borrow.Author.Tests.{ne_eqb}
use Rattle.aim.specs.Quotient.{plus_zero, negative, quotient, Representable, Exactly}

-- ---- one float a value

-- two fractions x / v and y / w of the size a / c
crossed : (x y v w a c : ℕ) → 0 < c → x * c ≡ a * v → y * c ≡ a * w → x * w ≡ y * v
crossed x y v w a c C p q = eq_of_mul-eq-mul_right c C (x * w) (y * v)
    (mul_right_comm x w c ∙ ap (λ (k : ℕ). k * w) p ∙ mul_right_comm a v w ∙ ap (λ (k : ℕ). k * v) (sym q) ∙ mul_right_comm y c v)

same_bits : (f : Format) (x y : Float) (s : Bool) (a c : ℕ) → 0 < c → HasValue x s a c → HasValue y s a c → to_bits f x ≡ to_bits f y
unfolding to_bits
same_bits f (fin t m e) (fin u n g) s a c C p q =
    let l = 2 ^ low f in
    let across : m * up e * l * down g ≡ n * up g * l * down e =
    mul_right_comm (m * up e) l (down g)
    ∙ ap (λ (k : ℕ). k * l) (crossed (m * up e) (n * up g) (down e) (down g) a c C p.1 q.1)
    ∙ mul_right_comm (n * up g) (down e) l in
    let units : m * up e * l / down e ≡ n * up g * l / down g =
    div_same (m * up e * l) (down e) (n * up g * l) (down g) (down_pos e) (down_pos g) across in
    λ i. cond ((p.0 ∙ sym q.0) i) (top f) 0 + (size (units i) - prec f) * hid f + units i / 2 ^ (size (units i) - prec f)
same_bits f nan y s a c C p q = elim p [ ]
same_bits f (inf _) y s a c C p q = elim p [ ]
same_bits f (fin t m e) nan s a c C p q = elim q [ ]
same_bits f (fin t m e) (inf _) s a c C p q = elim q [ ]

value_only : (f : Format) (x y : Float) (s : Bool) (a c : ℕ) → 0 < c → T (fits f x) → T (fits f y)
    → HasValue x s a c → HasValue y s a c → x ≡ y
value_only f x y s a c C h k p q = sym (of_bits-to_bits f x h) ∙ ap (of_bits f) (same_bits f x y s a c C p q) ∙ of_bits-to_bits f y k

pub exactly_only : (f : Format) (z : ℤ) (d : ℕ) → 0 < d → (x y : Float) → Exactly f z d x → Exactly f z d y → x ≡ y
exactly_only f z d D x y p q = value_only f x y (negative z) (nat_abs z) d D p.holds q.holds (own x p) (own y q)
  where
    own : (x : Float) → Exactly f z d x → HasValue x (negative z) (nat_abs z) d
    own x p = rw (of_bits-to_bits f x p.holds) at p.value

-- ---- zero

plus_zero_fits : (f : Format) → T (fits f plus_zero)
unfolding fits
plus_zero_fits f = tt

plus_zero_bits : (f : Format) → to_bits f plus_zero ≡ 0
unfolding to_bits size
plus_zero_bits binary32 = refl
plus_zero_bits binary64 = refl

pub zero_quotient : (f : Format) (d : ℕ) → 0 < d → quotient f (pos 0) d ≡ plus_zero
unfolding quotient
zero_quotient f d D = value_only f (round f false 0 d) plus_zero false 0 d D (round-fits f false 0 d) (plus_zero_fits f)
    (round_exact f false 0 d 0 0 D (pow_pos (prec f)) (pow_pos (low f + suc (emax f))) simp zero-mul)
    (refl, zero-mul d)

-- ---- the quotient is exact

positive : {f : Format} {z : ℤ} {d : ℕ} → Representable f z d → 0 < d
positive h = rw h.is (pow_pos h.power)

within : {f : Format} {z : ℤ} {d : ℕ} → Representable f z d → d ≤ 2 ^ prec f
within h = rw h.is (pow_mono (le_of_lt h.few))

-- the smallest value is small enough to count z / d in
deep : (f : Format) → prec f ≤ low f
deep binary32 = lit≤ tt
deep binary64 = lit≤ tt

quotient_value : (f : Format) (z : ℤ) (d : ℕ) → Representable f z d → HasValue (quotient f z d) (negative z) (nat_abs z) d
unfolding quotient
quotient_value f z d h =
    let n = nat_abs z in
    let l = low f in
    let k = h.power in
    let shallow : k ≤ l = omega (arith, h.few, deep f) in
    let room : prec f + (l - k) ≤ l + suc (emax f) = omega (arith, reach f) in
    let split : 2 ^ l ≡ 2 ^ (l - k) * d = rw h.is (ap (λ (x : ℕ). 2 ^ x) (sym (back l k shallow)) ∙ pow-add 2 (l - k) k) in
    round_exact f (negative z) n d n (l - k) (positive h) h.whole (lt_of_lt_of_le (shl_lt (prec f) (l - k) h.whole) (pow_mono room))
    (ap (λ (x : ℕ). n * x) split ∙ sym (mul_assoc n (2 ^ (l - k)) d))

number_of_lem : (x : Float) (s : Bool) (a c : ℕ) → HasValue x s a c → is_nan x ≡ false
unfolding is_nan
number_of_lem (fin t m e) s a c p = refl
number_of_lem nan s a c p = elim p [ ]
number_of_lem (inf _) s a c p = elim p [ ]

pub exactly : (f : Format) (z : ℤ) (d : ℕ) → Representable f z d → Exactly f z d (quotient f z d)
exactly f z d h =
    let x = quotient f z d in
    let held : T (fits f x) = unfold quotient in round-fits f (negative z) (nat_abs z) d in
    let same : of_bits f (to_bits f x) ≡ x = of_bits-to_bits f x held in
    let size : HasValue x (negative z) (nat_abs z) d = quotient_value f z d h in
    let none : to_bits f (quotient f (pos 0) d) ≡ 0 = ap (to_bits f) (zero_quotient f d (positive h)) ∙ plus_zero_bits f in
    record {
      holds = held;
      number = nan_bits_is f (to_bits f x) ∙ ap is_nan same ∙ number_of_lem x (negative z) (nat_abs z) d size;
      value = rw same size;
      zero = λ (e : z ≡ pos 0). rw e none;
    }

-- ---- the code's operation: both cast to floats, then divided

pub casts : (f : Format) (z : ℤ) (d : ℕ) → Representable f z d → T (in_float f z) × T (in_float f (pos d))
unfolding in_float
casts f z d h = (number z h.whole, le→leb d (2 ^ prec f) (within h))
  where
    number : (z : ℤ) → nat_abs z < 2 ^ prec f → T (in_float f z)
    number (pos n) l = le→leb n (2 ^ prec f) (le_of_lt l)
    number (negsuc n) l = lt→ltb n (2 ^ prec f) (le_of_lt l)

whole_value : (f : Format) (z : ℤ) → nat_abs z ≤ 2 ^ prec f → HasValue (of_int f z) (negative z) (nat_abs z) 1
unfolding of_int
whole_value f (pos n) l = round_whole f false n l
whole_value f (negsuc n) l = round_whole f true (suc n) l

-- a whole number is its own float, with its own sign
pub undivided : (f : Format) (z : ℤ) → quotient f z 1 ≡ of_int f z
unfolding quotient of_int
undivided f (pos n) = refl
undivided f (negsuc n) = refl

-- the fraction that dividing rounds, from what its numerator and its denominator are
fraction : (x y v w a d : ℕ) → x * 1 ≡ a * v → y * 1 ≡ d * w → x * w * d ≡ a * (y * v)
fraction x y v w a d p q = rw (sym (mul-one x) ∙ p, sym (mul-one y) ∙ q) (simp (mul_assoc, mul_comm, mul_left_comm))

div_whole : (f : Format) (x y : Float) (s t : Bool) (a d : ℕ) → 0 < d → HasValue x s a 1 → HasValue y t d 1
    → div f x y ≡ round f (unlike s t) a d
unfolding div
div_whole f (fin s' m e) (fin t' n g) s t a d D p q =
    let some : 0 < n * up g = rw (sym (mul-one (n * up g)) ∙ q.1) (mul-pos D (down_pos g)) in
    let none : eqb n 0 ≡ false = ne_eqb n 0 (omega (arith, first_pos n (up g) some)) in
    rw none
    ((λ i. round f (unlike (p.0 i) (q.0 i)) (m * up e * down g) (n * up g * down e))
    ∙ round_same f (unlike s t) (m * up e * down g) (n * up g * down e) a d (mul-pos some (down_pos e)) D
    (fraction (m * up e) (n * up g) (down e) (down g) a d p.1 q.1))
div_whole f nan y s t a d D p q = elim p [ ]
div_whole f (inf _) y s t a d D p q = elim p [ ]
div_whole f (fin s' m e) nan s t a d D p q = elim q [ ]
div_whole f (fin s' m e) (inf _) s t a d D p q = elim q [ ]

pub divided : (f : Format) (z : ℤ) (d : ℕ) → Representable f z d → div f (of_int f z) (of_int f (pos d)) ≡ quotient f z d
unfolding quotient
divided f z d h =
    div_whole f (of_int f z) (of_int f (pos d)) (negative z) false (nat_abs z) d (positive h)
    (whole_value f z (le_of_lt h.whole)) (whole_value f (pos d) (within h))
    ∙ ap (λ (s : Bool). round f s (nat_abs z) d) (sign (negative z))
  where
    sign : (s : Bool) → unlike s false ≡ s
    sign true = refl
    sign false = refl
