-- A point that is no grid corner is 2^j times (a, b), a or b odd, with j below m: its level is j, its spacing 2^j, its
-- units a and b. So what holds at spacing 1 is carried to every spacing.
use mathlib.Core.Path.{◌≡◌, refl, sym, ap, ◌∙◌, subst, subst₂}
use mathlib.Core.Bool.{Bool, true, false, ◌&&◌, ◌||◌, or-true, true≢false}
use mathlib.Core.Logic.{◌⊎◌, inl, inr, ⊎_elim}
use Prim.Native.Nat.{ℕ, zero, suc, ◌+◌, ◌-◌, ◌*◌, ◌^◌, ◌/◌, ◌%◌, ◌≤◌, ◌<◌}
use native.Mathlib.Nat.{div-add-mod, mul-div_cancel_left, mul_comm, mul_assoc, pow-suc, le_of_mul-le-mul_left, add-zero, mul-zero, mul-suc, mul-add, mul-one, mul-mod_right, lt_irrefl, zero-mod, mod_self, le_antisymm, le_refl}
use native.Mathlib.Decide.{ℕ_discrete}
use native.Mathlib.Omega.{arith}
use lib.Dec.{T, eqb}
use lib.Pow.{pow_pos, pow-add}
use borrow.Author.Tests.{eq-eqb, ne_eqb}
use Rattle.grid.specs.Grid.{side, Inside}
use Rattle.grid.specs.Points.{level, spacing, units, is_corner, outermost}
use Rattle.grid.specs.declared.points.Point.{Point}
use Rattle.grid.proofs.Table.{both}
use Rattle.grid.proofs.Level.{Divides, level_divides, level_most, level_largest}

exactly : (d x : ℕ) → x % d ≡ 0 → x ≡ d * (x / d)
exactly d x e = sym (sym (ap (λ (n : ℕ). d * (x / d) + n) e ∙ add-zero (d * (x / d))) ∙ div-add-mod x d)

-- a point is its spacing times its units
pub east_units : (m : ℕ) (p : Point) → p.x ≡ spacing m p * (units m p).across
unfolding units spacing
east_units m p = exactly (2 ^ level m p.x p.y) p.x (level_divides m p.x p.y).east

pub north_units : (m : ℕ) (p : Point) → p.y ≡ spacing m p * (units m p).up
unfolding units spacing
north_units m p = exactly (2 ^ level m p.x p.y) p.y (level_divides m p.x p.y).north

pub spacing_positive : (m : ℕ) (p : Point) → 0 < spacing m p
unfolding spacing
spacing_positive m p = pow_pos (level m p.x p.y)

-- an odd number of s, in units of 2s
pub odd_times : (s a : ℕ) → a % 2 ≡ 1 → s * a ≡ 2 * s * (a / 2) + s
odd_times s a o =
    let d : a ≡ 2 * (a / 2) + 1 = omega arith in
    let f : s * (2 * (a / 2)) ≡ 2 * s * (a / 2) = sym (mul_assoc s 2 (a / 2)) ∙ ap (λ (n : ℕ). n * (a / 2)) (mul_comm s 2) in
    ap (λ (n : ℕ). s * n) d ∙ mul-add s (2 * (a / 2)) 1 ∙ omega (arith, mul-one s)

-- counted in units of 2s, the coordinate before an odd number of s is the half of that number
pub before : (s a : ℕ) → 0 < s → a % 2 ≡ 1 → (s * a - s) / (2 * s) ≡ a / 2
before s a h o =
    let g : s * a - s ≡ 2 * s * (a / 2) = omega (arith, odd_times s a o) in
    ap (λ (n : ℕ). n / (2 * s)) g ∙ mul-div_cancel_left (a / 2) (omega arith)

-- x at a multiple of N, and at most N, is at an end
at_end : (m a x : ℕ) → x ≡ side m * a → x ≤ side m → outermost m x ≡ true
at_end m zero x e l =
    let z : x ≡ 0 = e ∙ mul-zero (side m) in rw z
at_end m (suc a) x e l =
    let step : side m * suc a ≡ side m * a + side m = mul-suc (side m) a in
    let z : x ≡ side m = omega arith in
    rw (z, eq-eqb (side m) (side m) refl) (or-true (eqb (side m) 0))

-- a point of the square that is no grid corner has a level below m
pub level_below : (m : ℕ) (p : Point) → Inside m p → is_corner m p ≡ false → level m p.x p.y < m
unfolding is_corner spacing
level_below m p h inner = by (ℕ_discrete (level m p.x p.y) m)
  where
    by : Dec (level m p.x p.y ≡ m) → level m p.x p.y < m
    by (no d) = omega (arith, level_most m p.x p.y)
    by (yes e) =
        let ex : p.x ≡ side m * (units m p).across = subst (λ (k : ℕ). p.x ≡ 2 ^ k * (units m p).across) e (east_units m p) in
        let ey : p.y ≡ side m * (units m p).up = subst (λ (k : ℕ). p.y ≡ 2 ^ k * (units m p).up) e (north_units m p) in
        let c : (outermost m p.x && outermost m p.y) ≡ true =
        rw (at_end m (units m p).across p.x ex h.east, at_end m (units m p).up p.y ey h.north) in
        absurd (true≢false (sym c ∙ inner))

-- a point that is no grid corner, in units of its spacing: the square is 2·half units wide, and a unit coordinate is odd
pub record View (m : ℕ) (p : Point) : Type 0 where
  pub half : ℕ
  pub wide : side m ≡ spacing m p * (2 * half)
  pub east : (units m p).across ≤ 2 * half
  pub north : (units m p).up ≤ 2 * half
  pub odd : ((units m p).across % 2 ≡ 1) ⊎ ((units m p).up % 2 ≡ 1)

pub twice_units : (j x a : ℕ) → x ≡ 2 ^ j * a → a % 2 ≡ 0 → x % 2 ^ suc j ≡ 0
twice_units j x a e z =
    let d : a ≡ 2 * (a / 2) = omega arith in
    let f : x ≡ 2 ^ suc j * (a / 2) =
    e ∙ ap (λ (n : ℕ). 2 ^ j * n) d ∙ sym (mul_assoc (2 ^ j) 2 (a / 2)) ∙ ap (λ (n : ℕ). n * (a / 2)) (sym (pow-suc 2 j)) in
    rw f (mul-mod_right (2 ^ suc j) (a / 2))

pub view : (m : ℕ) (p : Point) → Inside m p → is_corner m p ≡ false → View m p
unfolding spacing
view m p h inner =
    let j = level m p.x p.y in
    let a = (units m p).across in
    let b = (units m p).up in
    let ex : p.x ≡ 2 ^ j * a = east_units m p in
    let ey : p.y ≡ 2 ^ j * b = north_units m p in
    let l : j < m = level_below m p h inner in
    let r : m ≡ j + suc (m - suc j) = omega arith in
    let w : side m ≡ 2 ^ j * (2 * 2 ^ (m - suc j)) =
    ap (λ (k : ℕ). 2 ^ k) r ∙ pow-add 2 j (suc (m - suc j)) ∙ ap (λ (n : ℕ). 2 ^ j * n) (pow-suc 2 (m - suc j) ∙ mul_comm (2 ^ (m - suc j)) 2) in
    record {
      half = 2 ^ (m - suc j);
      wide = w;
      east = le_of_mul-le-mul_left (subst₂ (λ (u v : ℕ). u ≤ v) ex w h.east) (pow_pos j);
      north = le_of_mul-le-mul_left (subst₂ (λ (u v : ℕ). u ≤ v) ey w h.north) (pow_pos j);
      odd = go j a b ex ey l (ℕ_discrete (a % 2) 1) (ℕ_discrete (b % 2) 1) (level_largest m (suc j) p.x p.y l);
    }
  where
    go : (j a b : ℕ) → p.x ≡ 2 ^ j * a → p.y ≡ 2 ^ j * b → j < m → Dec (a % 2 ≡ 1) → Dec (b % 2 ≡ 1) →
        (Divides (2 ^ suc j) p.x p.y → suc j ≤ j) → (a % 2 ≡ 1) ⊎ (b % 2 ≡ 1)
    go j a b ex ey l (yes o) d no_larger = inl o
    go j a b ex ey l (no e) (yes o) no_larger = inr o
    go j a b ex ey l (no e) (no f) no_larger =
        let c : suc j ≤ j = no_larger (record { east = twice_units j p.x a ex (omega arith); north = twice_units j p.y b ey (omega arith) }) in
        absurd (lt_irrefl j c)

-- a coordinate at an end is 0 or N
end_is : (m x : ℕ) → outermost m x ≡ true → (x ≡ 0) ⊎ (x ≡ side m)
end_is m x e = go (ℕ_discrete x 0) (ℕ_discrete x (side m))
  where
    go : Dec (x ≡ 0) → Dec (x ≡ side m) → (x ≡ 0) ⊎ (x ≡ side m)
    go (yes z) d = inl z
    go (no n) (yes z) = inr z
    go (no n) (no k) = absurd (true≢false (sym e ∙ (λ i. ne_eqb x 0 n i || ne_eqb x (side m) k i)))

end_divided : (m x : ℕ) → outermost m x ≡ true → x % side m ≡ 0
end_divided m x e = ⊎_elim (λ z. rw z (zero-mod (side m))) (λ z. rw z (mod_self (side m))) (end_is m x e)

end_inside : (m x : ℕ) → outermost m x ≡ true → x ≤ side m
end_inside m x e = ⊎_elim (λ z. omega arith) (λ z. omega arith) (end_is m x e)

holds : (t : Bool) → T t → t ≡ true
holds true h = refl
holds false h = absurd h

-- both coordinates of a grid corner are at an end
corner_ends : (m : ℕ) (p : Point) → is_corner m p ≡ true → (outermost m p.x ≡ true) × (outermost m p.y ≡ true)
unfolding is_corner
corner_ends m p e =
    let t = both (outermost m p.x) (outermost m p.y) (subst T (sym e) tt) in
    (holds (outermost m p.x) t.0, holds (outermost m p.y) t.1)

-- and so is 0 or N
pub corner_at : (m : ℕ) (p : Point) → is_corner m p ≡ true → ((p.x ≡ 0) ⊎ (p.x ≡ side m)) × ((p.y ≡ 0) ⊎ (p.y ≡ side m))
corner_at m p e = let c = corner_ends m p e in (end_is m p.x c.0, end_is m p.y c.1)

pub corner_inside : (m : ℕ) (p : Point) → is_corner m p ≡ true → Inside m p
corner_inside m p e =
    let c = corner_ends m p e in
    record { east = end_inside m p.x c.0; north = end_inside m p.y c.1 }

-- a grid corner has level m
pub corner_level : (m : ℕ) (p : Point) → is_corner m p ≡ true → level m p.x p.y ≡ m
corner_level m p e =
    let c = corner_ends m p e in
    le_antisymm (level_most m p.x p.y)
    (level_largest m m p.x p.y (le_refl m)
    (record { east = end_divided m p.x c.0; north = end_divided m p.y c.1 }))
