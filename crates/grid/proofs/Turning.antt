-- A triangle of the hierarchy with k cuts left has the doubled area 2^k, and turns counter-clockwise, read l, a, r, where k is
-- even, and read r, a, l, where k is odd: each half has half the doubled area and turns the other way. At its apex two equal sides
-- stand at a right angle, so the side l to r is the longest.
use mathlib.Core.Path.{◌≡◌, sym, ap, ◌∙◌}
use Prim.Native.Nat.{ℕ, suc, ◌+◌, ◌*◌, ◌^◌, ◌%◌}
use native.Mathlib.Nat.{pow-suc, mul_assoc, add-mul, mul_comm, mul-zero, zero-mul}
use native.Mathlib.Omega.{arith}
use lib.Pow.{pow-add, pow_pos}
use Rattle.grid.specs.Grid.{side, midpoint}
use Rattle.grid.specs.Turn.{onward, backward, CounterClockwise}
use Rattle.grid.specs.Hierarchy.{Triangle, first, second, first_half, second_half, Apex}
use Rattle.grid.specs.declared.points.Point.{Point}
use Rattle.grid.proofs.Cutting.{Halfway, Cut, cut}

-- twice a product with a midpoint's coordinate
left_sum : (c u v w : ℕ) → 2 * c ≡ u + v → 2 * (c * w) ≡ u * w + v * w
left_sum c u v w e = sym (mul_assoc 2 c w) ∙ ap (λ (n : ℕ). n * w) e ∙ add-mul u v w

pub right_sum : (c u v w : ℕ) → 2 * c ≡ u + v → 2 * (w * c) ≡ w * u + w * v
right_sum c u v w e = ap (λ (n : ℕ). 2 * n) (mul_comm w c) ∙ left_sum c u v w e ∙ (λ i. mul_comm u w i + mul_comm v w i)

-- read backwards, a triangle turns the other way
pub mirror : (p q w : Point) → (onward w q p ≡ backward p q w) × (backward w q p ≡ onward p q w)
mirror p q w =
    omega (
      arith,
      mul_comm q.x p.y,
      mul_comm p.x w.y,
      mul_comm q.y w.x,
      mul_comm q.x w.y,
      mul_comm p.x q.y,
      mul_comm p.y w.x,
    )

-- a half turns the other way, with half the doubled area
pub first_half_lem : (l a r c : Point) → Halfway c l r → 2 * onward l c a + onward l a r ≡ 2 * backward l c a + backward l a r
first_half_lem l a r c h =
    omega (
      arith,
      left_sum c.x l.x r.x a.y h.east,
      left_sum c.x l.x r.x l.y h.east,
      right_sum c.y l.y r.y l.x h.north,
      left_sum c.y l.y r.y a.x h.north,
      mul_comm a.y r.x,
      mul_comm l.y a.x,
      mul_comm r.y a.x,
      mul_comm l.y r.x,
      mul_comm l.x l.y,
    )

-- the second half is the first half of the triangle read backwards
second_half_lem : (l a r c : Point) → Halfway c l r → 2 * onward a c r + onward l a r ≡ 2 * backward a c r + backward l a r
second_half_lem l a r c h = omega (arith, first_half_lem r a l c (omega arith), mirror a c r, mirror l a r)

-- (l, a, r) has the doubled area 2^k: onward where k is even, backward where it is odd
pub record Turns (k : ℕ) (l a r : Point) : Type 0 where
  pub even : k % 2 ≡ 0 → onward l a r ≡ backward l a r + 2 ^ k
  pub odd : k % 2 ≡ 1 → backward l a r ≡ onward l a r + 2 ^ k

half_turns : (k : ℕ) {l a r l' a' r' : Point} → Turns (suc k) l a r →
    2 * onward l' a' r' + onward l a r ≡ 2 * backward l' a' r' + backward l a r → Turns k l' a' r'
half_turns k t e =
    let d = pow-suc 2 k in
    record {
      even = λ z. let o = t.odd (omega arith) in omega arith;
      odd = λ z. let o = t.even (omega arith) in omega arith;
    }

pub square_side : (m : ℕ) → 2 ^ (2 * m) ≡ side m * side m
square_side m = let d : 2 * m ≡ m + m = omega arith in ap (λ (k : ℕ). 2 ^ k) d ∙ pow-add 2 m m

-- the square's two triangles have the doubled area N²
whole_turns : (m : ℕ) {l a r : Point} → onward l a r ≡ side m * side m → backward l a r ≡ 0 → Turns (2 * m) l a r
whole_turns m e f =
    let n = square_side m in
    record { even = λ z. omega arith; odd = λ z. omega arith }

pub halfway : {m k : ℕ} {l a r : Point} → Cut m k l a r → Halfway (midpoint l r) l r
halfway c = record { east = c.east; north = c.north }

pub turns : {m k : ℕ} {l a r : Point} → Triangle m k l a r → Turns k l a r
turns {m} first =
    whole_turns m (omega (arith, mul-zero (side m), zero-mul (side m), zero-mul 0)) (omega (arith, mul-zero (side m), zero-mul (side m)))
turns {m} second =
    whole_turns m (omega (arith, mul-zero (side m), zero-mul (side m), zero-mul 0)) (omega (arith, mul-zero (side m), zero-mul (side m)))
turns (first_half {k = k} {l = l} {a = a} {r = r} t) = half_turns k (turns t) (first_half_lem l a r (midpoint l r) (halfway (cut t)))
turns (second_half {k = k} {l = l} {a = a} {r = r} t) = half_turns k (turns t) (second_half_lem l a r (midpoint l r) (halfway (cut t)))

-- as they are written, l, a, r after an even number of cuts and r, a, l after an odd number, all turn counter-clockwise
-- (2m in all, so the cuts made are even just where the cuts left are)
pub counter_clockwise : {m k : ℕ} {l a r : Point} → Triangle m k l a r →
    (k % 2 ≡ 0 → CounterClockwise l a r) × (k % 2 ≡ 1 → CounterClockwise r a l)
counter_clockwise {k = k} {l = l} {a = a} {r = r} t = (
  λ e. omega (arith, (turns t).even e, pow_pos k),
  λ o. omega (arith, (turns t).odd o, pow_pos k, mirror l a r),
)

-- the apex stands at equal sides and a right angle
pub apex : {m k : ℕ} {l a r : Point} → Triangle m k l a r → Apex k l a r
apex {m} first = record { even = λ e. omega arith; odd = λ o. absurd (omega arith) }
apex {m} second = record { even = λ e. omega arith; odd = λ o. absurd (omega arith) }
apex (first_half {k = k} {l = l} {a = a} {r = r} t) =
    let c = halfway (cut t) in
    let p = apex t in
    record { even = λ e. let o = p.odd (omega arith) in omega arith; odd = λ o. let e = p.even (omega arith) in omega arith }
apex (second_half {k = k} {l = l} {a = a} {r = r} t) =
    let c = halfway (cut t) in
    let p = apex t in
    record { even = λ e. let o = p.odd (omega arith) in omega arith; odd = λ o. let e = p.even (omega arith) in omega arith }
