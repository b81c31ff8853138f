-- A point that is the mean of three corners by whole weights turns, about two of them, by the triangle's turn times the third's weight: both
-- parts of a turn are linear in the point, and a corner's own turn about a line through it is none.
use mathlib.Core.Path.{◌≡◌, ap}
use mathlib.Core.Logic.{◌↔◌}
use Prim.Native.Nat.{ℕ, ◌+◌, ◌*◌, ◌%◌, ◌≤◌, ◌<◌}
use native.Mathlib.Nat.{mul_assoc, mul-add, add-mul, mul_comm, mul_left_comm, mul-zero, le_of_mul-le-mul_left, eq_of_mul-eq-mul_left}
use native.Mathlib.Decide.{ℕ_discrete}
use native.Mathlib.Omega.{arith}
use lib.Pow.{pow_pos}
use Rattle.grid.specs.Grid.{side, quarters, in_quarters}
use Rattle.grid.specs.Turn.{onward, backward}
use Rattle.grid.specs.declared.points.Point.{Point}
use Rattle.grid.proofs.Parity.{even_false, odd_true}
use Rattle.mesh.specs.Triangles.{Three, three, written}
use Rattle.mesh.proofs.Proper.{flat_second, flat_third}
use Rattle.aim.specs.Geometry.{quartered, OnLeft, OnLine, Contains, Share, Barycentric, area}

-- by the weights u, v and w the numbers f, s and t add up to n times q
record Averages (n u v w f s t q : ℕ) : Type 0 where
  is : u * f + v * s + w * t ≡ n * q

-- that goes with multiples and with sums; with a number alone where the weights add up to 4n
module _ {n u v w : ℕ} where
  times : (a : ℕ) {f s t q : ℕ} → Averages n u v w f s t q → Averages n u v w (a * f) (a * s) (a * t) (a * q)
  times a {f} {s} {t} {q} e =
      omega (
        arith,
        ap (λ (z : ℕ). a * z) e.is,
        mul-add a (u * f + v * s) (w * t),
        mul-add a (u * f) (v * s),
        mul_left_comm a u f,
        mul_left_comm a v s,
        mul_left_comm a w t,
        mul_left_comm a n q,
      )

  plus : {f s t q f' s' t' q' : ℕ} → Averages n u v w f s t q → Averages n u v w f' s' t' q' →
      Averages n u v w (f + f') (s + s') (t + t') (q + q')
  plus {f} {s} {t} {q} {f'} {s'} {t'} {q'} e e' = omega (arith, mul-add u f f', mul-add v s s', mul-add w t t', mul-add n q q')

  alone : (c : ℕ) → u + v + w ≡ quarters * n → Averages n u v w c c c (quarters * c)
  alone c e =
      omega (arith, add-mul u v c, add-mul (u + v) w c, ap (λ (z : ℕ). z * c) e, mul_assoc quarters n c, mul_left_comm n quarters c)

-- q, given in quarter cells, is the mean of three points by whole weights that add up to 4N
pub record Mean (m : ℕ) (p s w q : Point) (first second third : ℕ) : Type 0 where
  pub sum : first + second + third ≡ in_quarters m
  pub east : first * p.x + second * s.x + third * w.x ≡ side m * q.x
  pub north : first * p.y + second * s.y + third * w.y ≡ side m * q.y

-- the two parts of q's turn about p and s, by 4
abbrev on : Point → Point → Point → ℕ
on p s q = s.x * q.y + quarters * (p.x * s.y) + p.y * q.x

abbrev back : Point → Point → Point → ℕ
back p s q = quarters * (s.x * p.y) + p.x * q.y + s.y * q.x

on_is : (p s q : Point) → onward (quartered p) (quartered s) q ≡ quarters * on p s q
on_is p s q =
    omega (
      arith,
      mul_assoc quarters s.x q.y,
      mul_assoc quarters p.x (quarters * s.y),
      mul_left_comm p.x quarters s.y,
      mul_assoc quarters p.y q.x,
    )

back_is : (p s q : Point) → backward (quartered p) (quartered s) q ≡ quarters * back p s q
back_is p s q =
    omega (
      arith,
      mul_assoc quarters s.x (quarters * p.y),
      mul_left_comm s.x quarters p.y,
      mul_assoc quarters p.x q.y,
      mul_assoc quarters s.y q.x,
    )

-- a turn goes with its corners' rotation
rotated : (p s w : Point) (d : ℕ) → onward p s w ≡ backward p s w + d → onward s w p ≡ backward s w p + d
rotated p s w d t =
    omega (
      arith,
      mul_comm p.x s.y,
      mul_comm p.y w.x,
      mul_comm s.x p.y,
      mul_comm p.x w.y,
      mul_comm s.y w.x,
    )

module _ {m : ℕ} {p s w q : Point} {u v z : ℕ} (e : Mean m p s w q u v z) where
  east : Averages (side m) u v z p.x s.x w.x q.x
  east = record { is = e.east }

  north : Averages (side m) u v z p.y s.y w.y q.y
  north = record { is = e.north }

  on_mean : (b c : Point) → Averages (side m) u v z (onward b c p) (onward b c s) (onward b c w) (on b c q)
  on_mean b c = plus (plus (times c.x north) (alone (b.x * c.y) e.sum)) (times b.y east)

  back_mean : (b c : Point) → Averages (side m) u v z (backward b c p) (backward b c s) (backward b c w) (back b c q)
  back_mean b c = plus (plus (alone (c.x * b.y) e.sum) (times b.x north)) (times c.y east)

  -- about s and w, the mean has p's turn, by p's weight
  signed : side m * onward (quartered s) (quartered w) q + quarters * (u * backward s w p)
      ≡ side m * backward (quartered s) (quartered w) q + quarters * (u * onward s w p)
  signed =
      omega (
        arith,
        (on_mean s w).is,
        (back_mean s w).is,
        ap (λ (n : ℕ). v * n) (flat_third s w),
        ap (λ (n : ℕ). z * n) (flat_second s w),
        ap (λ (n : ℕ). side m * n) (on_is s w q),
        ap (λ (n : ℕ). side m * n) (back_is s w q),
        mul_left_comm (side m) quarters (on s w q),
        mul_left_comm (side m) quarters (back s w q),
      )

  -- which is the triangle's, d
  by_area : (d : ℕ) → onward p s w ≡ backward p s w + d →
      side m * onward (quartered s) (quartered w) q ≡ side m * backward (quartered s) (quartered w) q + quarters * (d * u)
  by_area d t =
      let turned : onward s w p ≡ backward s w p + d = rotated p s w d t in
      omega (arith, signed, ap (λ (n : ℕ). u * n) turned, mul-add u (backward s w p) d, mul_comm u d)

  rotate : Mean m s w p q v z u
  rotate = record { sum = omega (arith, e.sum); east = omega (arith, e.east); north = omega (arith, e.north) }

-- so whole weights by which a point is the mean of a triangle's corners are barycentric
pub barycentric : {m : ℕ} {p s w q : Point} {u v z : ℕ} → Mean m p s w q u v z → backward p s w ≤ onward p s w →
    Barycentric m (three p s w) q u v z
barycentric {p = p} {s = s} {w = w} e h =
    let d = area (three p s w) in
    let t : onward p s w ≡ backward p s w + d = omega arith in
    let t' = rotated p s w d t in
    record {
      sum = e.sum;
      east = e.east;
      north = e.north;
      first_turn = by_area e d t;
      second_turn = by_area (rotate e) d t';
      third_turn = by_area (rotate (rotate e)) d (rotated s w p d t');
    }

-- so the point lies to the left, and on the line just where the third corner weighs nothing
module _ (m : ℕ) (t : Three) (q p s : Point) (w : ℕ) (share : Share m t q p s w) where
  share_left : OnLeft p s q
  share_left = le_of_mul-le-mul_left (omega arith) (pow_pos m)

  pub share_line : 0 < area t → OnLine p s q ↔ (w ≡ 0)
  share_line h = (to, from)
    where
      to : OnLine p s q → w ≡ 0
      to l = eq_of_mul-eq-mul_left (area t) h w 0 (omega (arith, ap (λ (n : ℕ). side m * n) l, mul-zero (area t)))

      from : w ≡ 0 → OnLine p s q
      from e = eq_of_mul-eq-mul_left (side m) (pow_pos m) _ _ (omega (arith, ap (λ (n : ℕ). area t * n) e, mul-zero (area t)))

  -- with a weight above zero it does not lie to the right or on the line
  pub share_strict : 0 < area t → 0 < w → ¬ (OnLeft s p q)
  share_strict h h' l = let e : w ≡ 0 = (share_line h).0 (omega (arith, share_left)) in omega arith

pub share_contains : {m : ℕ} {t : Three} {q : Point} {u v z : ℕ} → Barycentric m t q u v z → Contains t q
share_contains {m} {t} {q} {u} {v} {z} b = record {
  first = share_left m t q t.first t.second z b.third_turn;
  second = share_left m t q t.second t.third u b.first_turn;
  third = share_left m t q t.third t.first v b.second_turn;
}

-- a triangle as it is written is read l, a, r, or r, a, l
pub by_reading : (P : Three → Type 0) (k : ℕ) (l a r : Point) → (k % 2 ≡ 0 → P (three l a r)) → (k % 2 ≡ 1 → P (three r a l)) →
    P (written k l a r)
by_reading P k l a r even odd = by (ℕ_discrete (k % 2) 0)
  where
    by : Dec (k % 2 ≡ 0) → P (written k l a r)
    by (yes e) = rw (even_false k e) (even e)
    by (no n) = let o : k % 2 ≡ 1 = omega arith in rw (odd_true k o) (odd o)
