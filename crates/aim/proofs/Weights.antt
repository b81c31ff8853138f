-- The weights of the walk: at the start and after each cut they add up to 4N, and by them the point is the mean of the corners. So they are
-- the point's barycentric weights, and the half in which none would fall below zero is the one that contains it.
use mathlib.Core.Path.{◌≡◌, sym, ap, ◌∙◌}
use mathlib.Core.Bool.{Bool, true, false, cond}
use mathlib.Core.Logic.{◌↔◌}
use Prim.Native.Nat.{ℕ, zero, suc, ◌+◌, ◌-◌, ◌*◌, ◌^◌, ◌%◌, ◌≤◌, ◌<◌}
use native.Mathlib.Nat.{mul_assoc, add-mul, mul_comm, mul-zero, le_of_mul-le-mul_left}
use native.Mathlib.Decide.{dec_le}
use native.Mathlib.Omega.{arith}
use lib.Pow.{pow_pos}
use borrow.Author.Tests.{le-leb, lt-leb}
use Rattle.grid.specs.Grid.{side, in_quarters, at}
use Rattle.grid.specs.Hierarchy.{Triangle, first, second, first_half, second_half}
use Rattle.grid.specs.declared.points.Point.{Point}
use Rattle.grid.proofs.Cutting.{Halfway, cut}
use Rattle.grid.proofs.Turning.{right_sum, halfway, turns, mirror}
use Rattle.grid.proofs.Parity.{even_false}
use Rattle.mesh.specs.Triangles.{three, written}
use Rattle.aim.specs.Geometry.{OnLine, Contains, Share, Barycentric, area}
use Rattle.aim.proofs.Shares.{by_reading, barycentric, share_line, share_strict, share_contains}
use Rattle.aim.specs.Walk.{Weighed, start, cut_of, half, under, walk}

-- (l, a, r) has k cuts left, and these are the weights of the point q, given in quarter cells, at its corners
pub record Weighs (m k : ℕ) (q : Point) (t : Weighed) : Type 0 where
  pub triangle : Triangle m k t.l t.a t.r
  pub sum : t.wl + t.wa + t.wr ≡ in_quarters m
  pub east : t.wl * t.l.x + t.wa * t.a.x + t.wr * t.r.x ≡ side m * q.x
  pub north : t.wl * t.l.y + t.wa * t.a.y + t.wr * t.r.y ≡ side m * q.y

-- a weight parted in two
parted : (u v n : ℕ) → v ≤ u → (u - v) * n + v * n ≡ n * u
parted u v n h = let e : u - v + v ≡ u = omega arith in sym (add-mul (u - v) v n) ∙ ap (λ (w : ℕ). w * n) e ∙ mul_comm u n

-- in the first starting triangle, where the point lies on the diagonal or south-east of it, and in the second
abbrev pub in_first : ℕ → Point → Weighed
in_first m q =
    record { l = at 0 0; a = at (side m) 0; r = at (side m) (side m); wl = in_quarters m - q.x; wa = q.x - q.y; wr = q.y }

abbrev pub in_second : ℕ → Point → Weighed
in_second m q =
    record { l = at (side m) (side m); a = at 0 (side m); r = at 0 0; wl = q.x; wa = q.y - q.x; wr = in_quarters m - q.y }

module _ (m : ℕ) (q : Point) (e : q.x ≤ in_quarters m) (n : q.y ≤ in_quarters m) where
  pub started_first : q.y ≤ q.x → Weighs m (2 * m) q (in_first m q)
  started_first h = record {
    triangle = first;
    sum = omega arith;
    east = omega (arith, parted q.x q.y (side m) h, mul-zero (in_quarters m - q.x));
    north = omega (arith, mul-zero (in_quarters m - q.x), mul-zero (q.x - q.y), mul_comm q.y (side m));
  }

  pub started_second : q.x ≤ q.y → Weighs m (2 * m) q (in_second m q)
  started_second h = record {
    triangle = second;
    sum = omega arith;
    east = omega (arith, mul-zero (in_quarters m - q.y), mul-zero (q.y - q.x), mul_comm q.x (side m));
    north = omega (arith, parted q.y q.x (side m) h, mul-zero (in_quarters m - q.y));
  }

pub start_first : (m : ℕ) (q : Point) → q.y ≤ q.x → start m q ≡ in_first m q
unfolding start
start_first m q h = rw (le-leb q.y q.x h)

pub start_second : (m : ℕ) (q : Point) → q.x < q.y → start m q ≡ in_second m q
unfolding start
start_second m q h = rw (lt-leb q.y q.x h)

pub started : (m : ℕ) (q : Point) → q.x ≤ in_quarters m → q.y ≤ in_quarters m → Weighs m (2 * m) q (start m q)
started m q e n = by (dec_le q.y q.x)
  where
    by : Dec (q.y ≤ q.x) → Weighs m (2 * m) q (start m q)
    by (yes h) = rw (start_first m q h) (started_first m q e n h)
    by (no h) = let l : q.x < q.y = omega arith in rw (start_second m q l) (started_second m q e n (omega arith))

-- along one axis: what v weighs, and as much of u's weight, goes to their midpoint c
moved : (c u v b wu wv wb : ℕ) → 2 * c ≡ u + v → wv ≤ wu → (wu - wv) * u + 2 * wv * c + wb * b ≡ wu * u + wb * b + wv * v
moved c u v b wu wv wb e h =
    omega (arith, parted wu wv u h, mul_comm wu u, mul_assoc 2 wv c, right_sum c u v wv e)

-- the first half, and the second
abbrev pub first_of : Weighed → Weighed
first_of t = record { l = t.l; a = cut_of t; r = t.a; wl = t.wl - t.wr; wa = 2 * t.wr; wr = t.wa }

abbrev pub second_of : Weighed → Weighed
second_of t = record { l = t.a; a = cut_of t; r = t.r; wl = t.wa; wa = 2 * t.wl; wr = t.wr - t.wl }

pub half_first : (t : Weighed) → t.wr ≤ t.wl → half t ≡ first_of t
unfolding half
half_first t h = rw (le-leb t.wr t.wl h)

pub half_second : (t : Weighed) → t.wl < t.wr → half t ≡ second_of t
unfolding half
half_second t h = rw (lt-leb t.wr t.wl h)

module _ {m k : ℕ} {q : Point} {t : Weighed} (w : Weighs m (suc k) q t) where
  middle : Halfway (cut_of t) t.l t.r
  middle = halfway (cut w.triangle)

  pub halved_first : t.wr ≤ t.wl → Weighs m k q (first_of t)
  halved_first h = record {
    triangle = first_half w.triangle;
    sum = omega (arith, w.sum);
    east = moved (cut_of t).x t.l.x t.r.x t.a.x t.wl t.wr t.wa middle.east h ∙ w.east;
    north = moved (cut_of t).y t.l.y t.r.y t.a.y t.wl t.wr t.wa middle.north h ∙ w.north;
  }

  pub halved_second : t.wl ≤ t.wr → Weighs m k q (second_of t)
  halved_second h =
      let c = middle in
      record {
        triangle = second_half w.triangle;
        sum = omega (arith, w.sum);
        east =
            omega (
              arith,
              moved (cut_of t).x t.r.x t.l.x t.a.x t.wr t.wl t.wa (omega arith) (omega arith),
              w.east,
            );
        north =
            omega (
              arith,
              moved (cut_of t).y t.r.y t.l.y t.a.y t.wr t.wl t.wa (omega arith) (omega arith),
              w.north,
            );
      }

  pub halved : Weighs m k q (half t)
  halved = by (dec_le t.wr t.wl)
    where
      by : Dec (t.wr ≤ t.wl) → Weighs m k q (half t)
      by (yes h) = rw (half_first t h) (halved_first h)
      by (no h) = rw (half_second t (omega arith)) (halved_second (omega arith))

-- so they are wherever the walk comes
pub walked : (kept : Point → Bool) {m : ℕ} (k : ℕ) {q : Point} (t : Weighed) → Weighs m k q t →
    Weighs m (walk kept k t).left q (walk kept k t).triangle
unfolding walk
walked kept zero t w = w
walked kept {m} (suc k) {q} t w = by (kept (cut_of t)) (walked kept k (half t) (halved w))
  where
    by : (b : Bool) → Weighs m (walk kept k (half t)).left q (walk kept k (half t)).triangle →
        Weighs m (cond b (walk kept k (half t)) (under t (suc k))).left q (cond b (walk kept k (half t)) (under t (suc k))).triangle
    by true h = h
    by false h = w

-- and it has no more cuts left than it started with
pub walked_left : (kept : Point → Bool) (k : ℕ) (t : Weighed) → (walk kept k t).left ≤ k
unfolding walk
walked_left kept zero t = omega arith
walked_left kept (suc k) t = by (kept (cut_of t)) (walked_left kept k (half t))
  where
    by : (b : Bool) → (walk kept k (half t)).left ≤ k → (cond b (walk kept k (half t)) (under t (suc k))).left ≤ suc k
    by true h = omega arith
    by false h = omega arith

-- the doubled area of a triangle with k cuts left is 2^k
pub area_power : {m k : ℕ} {l a r : Point} → Triangle m k l a r → area (written k l a r) ≡ 2 ^ k
area_power {m} {k} {l} {a} {r} t =
    by_reading (λ u. area u ≡ 2 ^ k) k l a r
    (λ e. omega (arith, (turns t).even e))
    (λ o. omega (arith, (turns t).odd o, mirror l a r))

module _ {m k : ℕ} {q : Point} {t : Weighed} (w : Weighs m k q t) where
  pub barycentric_even : k % 2 ≡ 0 → Barycentric m (three t.l t.a t.r) q t.wl t.wa t.wr
  barycentric_even e =
      barycentric (record { sum = w.sum; east = w.east; north = w.north }) (omega (arith, (turns w.triangle).even e))

  pub barycentric_odd : k % 2 ≡ 1 → Barycentric m (three t.r t.a t.l) q t.wr t.wa t.wl
  barycentric_odd o =
      barycentric
      (record { sum = omega (arith, w.sum); east = omega (arith, w.east); north = omega (arith, w.north) })
      (omega (arith, (turns w.triangle).odd o, mirror t.l t.a t.r))

  pub contained : Contains (written k t.l t.a t.r) q
  contained =
      by_reading (λ u. Contains u q) k t.l t.a t.r
      (λ e. share_contains (barycentric_even e))
      (λ o. share_contains (barycentric_odd o))

  even_area : k % 2 ≡ 0 → 0 < area (three t.l t.a t.r)
  even_area e = omega (arith, (turns w.triangle).even e, pow_pos k)

  odd_area : k % 2 ≡ 1 → 0 < area (three t.r t.a t.l)
  odd_area o = omega (arith, (turns w.triangle).odd o, mirror t.l t.a t.r, pow_pos k)

  -- a corner weighs nothing exactly where the point is on the line through the other two
  on_line : (p s : Point) (n : ℕ) → (k % 2 ≡ 0 → Share m (three t.l t.a t.r) q p s n) →
      (k % 2 ≡ 1 → Share m (three t.r t.a t.l) q s p n) → OnLine p s q ↔ (n ≡ 0)
  on_line p s n even odd =
      by_reading (λ u. OnLine p s q ↔ (n ≡ 0)) k t.l t.a t.r
      (λ e. share_line m (three t.l t.a t.r) q p s n (even e) (even_area e))
      (λ o.
      let line = share_line m (three t.r t.a t.l) q s p n (odd o) (odd_area o) in
      (λ h. line.0 (omega arith), λ h. let h' = line.1 h in omega arith))

  pub weighs_l : OnLine t.a t.r q ↔ (t.wl ≡ 0)
  weighs_l = on_line t.a t.r t.wl (λ e. (barycentric_even e).first_turn) (λ o. (barycentric_odd o).third_turn)

  pub weighs_a : OnLine t.r t.l q ↔ (t.wa ≡ 0)
  weighs_a = on_line t.r t.l t.wa (λ e. (barycentric_even e).second_turn) (λ o. (barycentric_odd o).second_turn)

  pub weighs_r : OnLine t.l t.a q ↔ (t.wr ≡ 0)
  weighs_r = on_line t.l t.a t.wr (λ e. (barycentric_even e).third_turn) (λ o. (barycentric_odd o).first_turn)

-- where r weighs more, the point is in the second half, beyond the line from the cut to the apex: not in the first
beyond_first : {m k : ℕ} {q : Point} {t : Weighed} → Weighs m (suc k) q t → t.wl < t.wr → ¬ (Contains (written k t.l (cut_of t) t.a) q)
beyond_first {m} {k} {q} {t} w h =
    let c = cut_of t in
    let u = halved_second w (omega arith) in
    by_reading (λ v. ¬ (Contains v q)) k t.l c t.a
    (λ e i.
    share_strict m (three t.a c t.r) q t.a c (t.wr - t.wl) (barycentric_even u e).third_turn (even_area u e) (omega arith)
    i.second)
    (λ o i.
    share_strict m (three t.r c t.a) q c t.a (t.wr - t.wl) (barycentric_odd u o).first_turn (odd_area u o) (omega arith)
    i.first)

-- the first half contains the point exactly where l weighs no less than r
pub first_contains : {m k : ℕ} {q : Point} {t : Weighed} → Weighs m (suc k) q t →
    Contains (written k t.l (cut_of t) t.a) q ↔ (t.wr ≤ t.wl)
first_contains {m} {k} {q} {t} w = (by (dec_le t.wr t.wl), λ h. contained (halved_first w h))
  where
    by : Dec (t.wr ≤ t.wl) → Contains (written k t.l (cut_of t) t.a) q → t.wr ≤ t.wl
    by (yes h) i = h
    by (no h) i = absurd (beyond_first w (omega arith) i)

-- and the second exactly where it weighs no more
beyond_second : {m k : ℕ} {q : Point} {t : Weighed} → Weighs m (suc k) q t → t.wr < t.wl → ¬ (Contains (written k t.a (cut_of t) t.r) q)
beyond_second {m} {k} {q} {t} w h =
    let c = cut_of t in
    let u = halved_first w (omega arith) in
    by_reading (λ v. ¬ (Contains v q)) k t.a c t.r
    (λ e i.
    share_strict m (three t.l c t.a) q c t.a (t.wl - t.wr) (barycentric_even u e).first_turn (even_area u e) (omega arith)
    i.first)
    (λ o i.
    share_strict m (three t.a c t.l) q t.a c (t.wl - t.wr) (barycentric_odd u o).third_turn (odd_area u o) (omega arith)
    i.second)

pub second_contains : {m k : ℕ} {q : Point} {t : Weighed} → Weighs m (suc k) q t →
    Contains (written k t.a (cut_of t) t.r) q ↔ (t.wl ≤ t.wr)
second_contains {m} {k} {q} {t} w = (by (dec_le t.wl t.wr), λ h. contained (halved_second w h))
  where
    by : Dec (t.wl ≤ t.wr) → Contains (written k t.a (cut_of t) t.r) q → t.wl ≤ t.wr
    by (yes h) i = h
    by (no h) i = absurd (beyond_second w (omega arith) i)

-- and the first starting triangle on the diagonal and south-east of it
pub start_contains : (m : ℕ) (q : Point) → q.x ≤ in_quarters m → q.y ≤ in_quarters m →
    Contains (written 0 (at 0 0) (at (side m) 0) (at (side m) (side m))) q ↔ (q.y ≤ q.x)
unfolding start
start_contains m q e n = (to, from)
  where
    to : Contains (written 0 (at 0 0) (at (side m) 0) (at (side m) (side m))) q → q.y ≤ q.x
    to i = le_of_mul-le-mul_left {k = in_quarters m} (omega (arith, i.third)) (omega (arith, pow_pos m))

    from : q.y ≤ q.x → Contains (written 0 (at 0 0) (at (side m) 0) (at (side m) (side m))) q
    from h = rw (le-leb q.y q.x h, even_false (2 * m) (omega arith)) at (contained (started m q e n))

-- the point is on the cutting line just where l and r weigh the same
pub on_the_line : {m k : ℕ} {q : Point} {t : Weighed} → Weighs m (suc k) q t → OnLine (cut_of t) t.a q ↔ (t.wl ≡ t.wr)
on_the_line {q = q} {t = t} w = by (dec_le t.wr t.wl)
  where
    by : Dec (t.wr ≤ t.wl) → OnLine (cut_of t) t.a q ↔ (t.wl ≡ t.wr)
    by (yes le) =
        let line : OnLine (cut_of t) t.a q ↔ (t.wl - t.wr ≡ 0) = rw (half_first t le) at (weighs_l (halved w)) in
        (λ on. omega (arith, line.0 on), λ same. line.1 (omega arith))
    by (no gt) =
        let l : t.wl < t.wr = omega arith in
        let line : OnLine t.a (cut_of t) q ↔ (t.wr - t.wl ≡ 0) = rw (half_second t l) at (weighs_r (halved w)) in
        (λ on. absurd (omega (arith, line.0 (omega (arith, on)))), λ same. absurd (omega arith))
