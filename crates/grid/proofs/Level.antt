-- The level of a point rises by one when both coordinates double, and is 0 where one is odd.
-- So a point (2^j·a, 2^j·b) with a or b odd has level j, and it is the largest j for which 2^j divides both.
use mathlib.Core.Path.{◌≡◌, refl, sym, ap, ◌∙◌, subst}
use mathlib.Core.Bool.{Bool, true, false, cond, ◌&&◌, true≢false}
use mathlib.Core.Logic.{◌⊎◌, inl, inr}
use Prim.Native.Nat.{ℕ, zero, suc, ◌+◌, ◌*◌, ◌^◌, ◌/◌, ◌%◌, ◌≤◌, ◌<◌}
use native.Mathlib.Nat.{pow-suc, mod-one, mod-lt, div-add-mod, add-mul-mod_self_left, mod-eq_of_lt, mul_assoc, mul_comm}
use native.Mathlib.Nat.{mod-mod_of_dvd, dvd-mul_left, one-mul}
use native.Mathlib.Omega.{arith}
use native.Mathlib.Decide.{ℕ_discrete}
use lib.Dec.{T, eqb, eqb→eq}
use lib.Pow.{pow_pos}
use borrow.Author.Tests.{eq-eqb, ne_eqb}
use Rattle.grid.specs.Points.{level, divides_both}
use Rattle.grid.proofs.Table.{both}

mod_double : (a d : ℕ) → 0 < d → 2 * a % (2 * d) ≡ 2 * (a % d)
mod_double a d h =
    let e : 2 * a ≡ 2 * (a % d) + 2 * d * (a / d) =
    let q : 2 * d * (a / d) ≡ 2 * (d * (a / d)) = mul_assoc 2 d (a / d) in omega (arith, div-add-mod a d) in
    let l : 2 * (a % d) < 2 * d = omega (arith, mod-lt a h) in
    ap (λ (n : ℕ). n % (2 * d)) e ∙ add-mul-mod_self_left (2 * (a % d)) (2 * d) (a / d) ∙ mod-eq_of_lt l

eqb_double : (n : ℕ) → eqb (2 * n) 0 ≡ eqb n 0
eqb_double zero = refl
eqb_double (suc n) = ne_eqb (2 * suc n) 0 (λ e. omega arith) ∙ sym (ne_eqb (suc n) 0 (λ e. omega arith))

divides_double : (j a b : ℕ) → divides_both (2 ^ suc j) (2 * a) (2 * b) ≡ divides_both (2 ^ j) a b
divides_double j a b =
    let e : 2 ^ suc j ≡ 2 * 2 ^ j = pow-suc 2 j ∙ mul_comm (2 ^ j) 2 in
    rw (e, mod_double a (2 ^ j) (pow_pos j), mod_double b (2 ^ j) (pow_pos j), eqb_double (a % 2 ^ j), eqb_double (b % 2 ^ j))

suc_cond : (t : Bool) (n r : ℕ) → cond t (suc n) (suc r) ≡ suc (cond t n r)
suc_cond true n r = refl
suc_cond false n r = refl

pub level_double : (m a b : ℕ) → level (suc m) (2 * a) (2 * b) ≡ suc (level m a b)
unfolding level
level_double zero a b = rw (divides_double 0 a b, mod-one a, mod-one b)
level_double (suc m) a b =
    rw (divides_double (suc m) a b, level_double m a b) (suc_cond (divides_both (2 ^ suc m) a b) (suc m) (level m a b))

not_divides : (m x : ℕ) → x % 2 ≡ 1 → eqb (x % 2 ^ suc m) 0 ≡ false
not_divides m x o =
    ne_eqb (x % 2 ^ suc m) 0
    (λ e.
    let d : x % 2 ^ suc m % 2 ≡ x % 2 = rw (pow-suc 2 m) (mod-mod_of_dvd 2 x (dvd-mul_left 2 (2 ^ m))) in
    let z : x % 2 ^ suc m % 2 ≡ 0 = ap (λ (n : ℕ). n % 2) e in
    omega arith)

and-false : (t : Bool) → (t && false) ≡ false
and-false true = refl
and-false false = refl

divides_odd : (m x y : ℕ) → (x % 2 ≡ 1) ⊎ (y % 2 ≡ 1) → divides_both (2 ^ suc m) x y ≡ false
divides_odd m x y (inl o) = rw (not_divides m x o)
divides_odd m x y (inr o) = rw (not_divides m y o) (and-false (eqb (x % 2 ^ suc m) 0))

pub level_odd : (m x y : ℕ) → (x % 2 ≡ 1) ⊎ (y % 2 ≡ 1) → level m x y ≡ 0
unfolding level
level_odd zero x y o = refl
level_odd (suc m) x y o = rw (divides_odd m x y o) (level_odd m x y o)

pub level_even : (m x y : ℕ) → x % 2 ≡ 0 → y % 2 ≡ 0 → level (suc m) x y ≡ suc (level m (x / 2) (y / 2))
level_even m x y ex ey =
    let dx : x ≡ 2 * (x / 2) = omega arith in
    let dy : y ≡ 2 * (y / 2) = omega arith in
    ap (λ (n : ℕ). level (suc m) n y) dx ∙ ap (λ (n : ℕ). level (suc m) (2 * (x / 2)) n) dy ∙ level_double m (x / 2) (y / 2)

-- twice a multiple of 2^j
pub twice : (j a : ℕ) → 2 ^ suc j * a ≡ 2 * (2 ^ j * a)
twice j a = ap (λ (n : ℕ). n * a) (pow-suc 2 j ∙ mul_comm (2 ^ j) 2) ∙ mul_assoc 2 (2 ^ j) a

pub level_units : (j k a b : ℕ) → (a % 2 ≡ 1) ⊎ (b % 2 ≡ 1) → level (j + k) (2 ^ j * a) (2 ^ j * b) ≡ j
level_units zero k a b o =
    let e : 0 + k ≡ k = omega arith in
    rw (e, one-mul a, one-mul b) (level_odd k a b o)
level_units (suc j) k a b o =
    let e : suc j + k ≡ suc (j + k) = omega arith in
    rw (e, twice j a, twice j b) (level_double (j + k) (2 ^ j * a) (2 ^ j * b) ∙ ap suc (level_units j k a b o))

-- what `level` names: 2^level divides both, and no larger power up to 2^m does
pub record Divides (d x y : ℕ) : Type 0 where
  pub east : x % d ≡ 0
  pub north : y % d ≡ 0

divided : (d x y : ℕ) → divides_both d x y ≡ true → Divides d x y
divided d x y e =
    let t = both (eqb (x % d) 0) (eqb (y % d) 0) (subst T (sym e) tt) in
    record { east = eqb→eq (x % d) 0 t.0; north = eqb→eq (y % d) 0 t.1 }

divides : (d x y : ℕ) → Divides d x y → divides_both d x y ≡ true
divides d x y h = rw (eq-eqb (x % d) 0 h.east, eq-eqb (y % d) 0 h.north)

divides_cond : (m x y r : ℕ) (t : Bool) → divides_both (2 ^ suc m) x y ≡ t → Divides (2 ^ r) x y → Divides (2 ^ cond t (suc m) r) x y
divides_cond m x y r true e h = divided (2 ^ suc m) x y e
divides_cond m x y r false e h = h

pub level_divides : (m x y : ℕ) → Divides (2 ^ level m x y) x y
unfolding level
level_divides zero x y = record { east = mod-one x; north = mod-one y }
level_divides (suc m) x y = divides_cond m x y (level m x y) (divides_both (2 ^ suc m) x y) refl (level_divides m x y)

most_cond : (m r : ℕ) (t : Bool) → r ≤ m → cond t (suc m) r ≤ suc m
most_cond m r true h = omega arith
most_cond m r false h = omega arith

pub level_most : (m x y : ℕ) → level m x y ≤ m
unfolding level
level_most zero x y = omega arith
level_most (suc m) x y = most_cond m (level m x y) (divides_both (2 ^ suc m) x y) (level_most m x y)

largest_cond : (m k x y r : ℕ) (t : Bool) → divides_both (2 ^ suc m) x y ≡ t → k ≤ suc m → Divides (2 ^ k) x y → Dec (k ≡ suc m) →
    (k ≤ m → k ≤ r) → k ≤ cond t (suc m) r
largest_cond m k x y r true e l h d below = l
largest_cond m k x y r false e l h (no d) below = below (omega arith)
largest_cond m k x y r false e l h (yes d) below =
    absurd (true≢false (sym (divides (2 ^ suc m) x y (subst (λ (n : ℕ). Divides (2 ^ n) x y) d h)) ∙ e))

pub level_largest : (m k x y : ℕ) → k ≤ m → Divides (2 ^ k) x y → k ≤ level m x y
unfolding level
level_largest zero k x y l h = l
level_largest (suc m) k x y l h =
    largest_cond m k x y (level m x y) (divides_both (2 ^ suc m) x y) refl l h (ℕ_discrete k (suc m)) (λ b. level_largest m k x y b h)
