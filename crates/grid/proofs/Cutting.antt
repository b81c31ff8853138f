-- A triangle with cuts left is cut at a point of the rank that its cuts name, whose ends are the triangle's longest side
-- and which depends on the apex. By induction: a half of a triangle lies around its own cut as its ends and apex should.
use mathlib.Core.Path.{◌≡◌, refl, sym, ap, ◌∙◌}
use mathlib.Core.Bool.{false}
use mathlib.Core.List.Memᴰ
use mathlib.Core.List.{Memᴰ}
use mathlib.Core.Logic.{◌⊎◌, inl, inr, ⊎_elim}
use Prim.Native.Nat.{ℕ, zero, suc, ◌+◌, ◌*◌, ◌^◌, ◌/◌, ◌%◌, ◌<◌}
use native.Mathlib.Nat.{mul-add, mul_left_comm, mul-zero, pow-suc}
use native.Mathlib.Omega.{arith}
use Rattle.grid.specs.Grid.{side, at, Inside, midpoint}
use Rattle.grid.specs.Points.{is_corner, kind, spacing, both, ends, ends_by, pair, depends_on, rank}
use Rattle.grid.specs.Hierarchy.{Triangle, first, second, first_half, second_half, Stage}
use Rattle.grid.specs.declared.points.Point.{Point}
use Rattle.grid.specs.declared.points.Kind.{Kind}
use Rattle.grid.specs.declared.points.Kind.TheVariants.{Corner, EastWest, NorthSouth, Rising, Falling}
use Rattle.grid.proofs.Room.{room, Back, behind}
use Rattle.grid.proofs.Sums.{odd_by, even_odd, double_sum, double_alike, close_same, close_half}
use Rattle.grid.proofs.Units.{Times, Measured, Odd, Form, edge, centre, form, edge_odd, rank_edge, rank_centre}
use Rattle.grid.proofs.Around.{Ended, Depended, twice_diagonal, Stands, edge_ended, edge_depended, centre_ended, centre_depended, same_point}
use Rattle.grid.proofs.Placed.{doubled, Placed, placed, measured, inner, ends_are, depends_are}

-- c lies halfway between p and q
pub record Halfway (c p q : Point) : Type 0 where
  pub east : 2 * c.x ≡ p.x + q.x
  pub north : 2 * c.y ≡ p.y + q.y

-- the corners of a triangle lie inside the square
pub record Corners (m : ℕ) (l a r : Point) : Type 0 where
  pub left : Inside m l
  pub top : Inside m a
  pub right : Inside m r

-- a triangle (l, a, r) with k + 1 cuts left, and the midpoint of its longest side, where it is cut
pub record Cut (m k : ℕ) (l a r : Point) : Type 0 where
  pub corners : Corners m l a r
  pub east : 2 * (midpoint l r).x ≡ l.x + r.x
  pub north : 2 * (midpoint l r).y ≡ l.y + r.y
  pub inside : Inside m (midpoint l r)
  pub inner : is_corner m (midpoint l r) ≡ false
  pub rank : rank m (midpoint l r) ≡ k
  pub ends : (ends m (midpoint l r) ≡ pair l r) ⊎ (ends m (midpoint l r) ≡ pair r l)
  pub apex : Memᴰ a (depends_on m (midpoint l r))

-- a point is halfway between its ends
opposite : (k : Kind) (s x y : ℕ) → Back k s x y → Halfway (at x y) (ends_by k s x y).first (ends_by k s x y).second
opposite Corner s x y b = omega arith
opposite EastWest s x y b = omega arith
opposite NorthSouth s x y b = omega arith
opposite Rising s x y b = omega arith
opposite Falling s x y b = omega arith

pub ends_halfway : (m : ℕ) (p : Point) → Inside m p → Halfway p (ends m p).first (ends m p).second
unfolding ends
ends_halfway m p h =
    opposite (kind m p) (spacing m p) p.x p.y (behind (kind m p) (side m) (spacing m p) p.x p.y (room m p h))

opposite_end : {p q r e f : Point} → Halfway p q r → Halfway p e f → q ≡ e → f ≡ r
opposite_end w v s =
    let x_path = ap (λ (c : Point). c.x) s in
    let y_path = ap (λ (c : Point). c.y) s in
    same_point (omega arith) (omega arith)

-- so, of two points that it lies halfway between, both are its ends where one is
end_pair : {m : ℕ} {p q r : Point} → Inside m p → Halfway p q r → Memᴰ q (both (ends m p)) →
    (ends m p ≡ pair q r) ⊎ (ends m p ≡ pair r q)
end_pair {m} {p} {q} {r} h w i =
    let v = ends_halfway m p h in
    let back : Halfway p (ends m p).second (ends m p).first = omega arith in
    ⊎_elim
    (λ e. inl (λ i. pair (sym e i) (opposite_end w v e i)))
    (λ k. let e = Memᴰ.eq_of_singleton k in inr (λ i. pair (opposite_end w back e i) (sym e i)))
    (Memᴰ.cases_cons i)

-- halfway between two points in units of s
midpoint_times : {s u v u' v' a b : ℕ} {p q : Point} → Times s u v p → Times s u' v' q → 2 * a ≡ u + u' → 2 * b ≡ v + v' →
    Halfway (midpoint p q) p q × Times s a b (midpoint p q)
unfolding midpoint
midpoint_times {s} {u} {v} {u'} {v'} {a} {b} {p} {q} t w ea eb =
    let ex : p.x + q.x ≡ 2 * (s * a) = twofold a u u' t.east w.east ea in
    let ey : p.y + q.y ≡ 2 * (s * b) = twofold b v v' t.north w.north eb in
    (omega arith, omega arith)
  where
    twofold : {c d : ℕ} (n i j : ℕ) → c ≡ s * i → d ≡ s * j → 2 * n ≡ i + j → c + d ≡ 2 * (s * n)
    twofold n i j e f g =
        let z : s * (2 * n) ≡ s * i + s * j = ap (λ (o : ℕ). s * o) g ∙ mul-add s i j in
        omega (arith, mul_left_comm s 2 n)

halfway_inside : {m : ℕ} {c p q : Point} → Halfway c p q → Inside m p → Inside m q → Inside m c
halfway_inside w h i = record { east = omega arith; north = omega arith }

-- what makes (l, a, r) a triangle that is cut at 2^j times (c, d)
record Fit (m k : ℕ) (l a r : Point) : Type 0 where
  j : ℕ
  c : ℕ
  d : ℕ
  below : j < m
  odd : Odd c d
  left : Stands (Ended c d) (2 ^ j) l
  right : Stands (Ended c d) (2 ^ j) r
  top : Stands (Depended c d) (2 ^ j) a
  east : 2 * c ≡ left.across + right.across
  north : 2 * d ≡ left.up + right.up
  corners : Corners m l a r
  ranked : {p : Point} → Measured m p j c d → rank m p ≡ k

fit_swap : {m k : ℕ} {l a r : Point} → Fit m k l a r → Fit m k r a l
fit_swap f = record {
  j = f.j;
  c = f.c;
  d = f.d;
  below = f.below;
  odd = f.odd;
  left = f.right;
  right = f.left;
  top = f.top;
  east = omega (arith, f.east);
  north = omega (arith, f.north);
  corners = record { left = f.corners.right; top = f.corners.top; right = f.corners.left };
  ranked = f.ranked;
}

fit_cut : {m k : ℕ} {l a r : Point} → Fit m k l a r → Cut m k l a r
fit_cut {m} {k} {l} {a} {r} f =
    let t = midpoint_times f.left.times f.right.times f.east f.north in
    let w = t.0 in
    let h : Inside m (midpoint l r) = halfway_inside w f.corners.left f.corners.right in
    let p : Placed m f.j f.c f.d (midpoint l r) = record { below = f.below; times = t.1; odd = f.odd; inside = h } in
    record {
      corners = f.corners;
      east = w.east;
      north = w.north;
      inside = h;
      inner = inner p;
      rank = f.ranked (measured p);
      ends = end_pair h w ((ends_are p).1 f.left);
      apex = (depends_are p).1 (f.corners.top, f.top);
    }

-- between an end (u, v) of (a, b) and a point (u', v') that it depends on
module _ {a b u v u' v' : ℕ} (e : Ended a b u v) (t : Depended a b u' v') where
  -- of a centre, there is an edge point, counted in the same units
  between_centre : {c d : ℕ} → a % 2 ≡ 1 → b % 2 ≡ 1 → 2 * c ≡ u + u' → 2 * d ≡ v + v' →
      ((c + d) % 2 ≡ 1) × Ended c d u v × Ended c d u' v' × Depended c d a b
  between_centre {c} {d} oa ob ec ed =
      let z = t.centre oa ob in
      let o = odd_by (c + d) ((u + v) / 4 + (u' + v') / 4) (omega (arith, e.alike oa ob)) in
      let x = close_same e.east t.east ec in
      let y = close_same e.north t.north ed in (
        o,
        edge_ended o x.0 y.0 e.across e.up,
        edge_ended o x.1 y.1 z.0 z.1,
        edge_depended o x.2 y.2 oa ob,
      )

  -- of an edge point, there is a centre, counted in half the units
  between_edge : (a + b) % 2 ≡ 1 → ((u + u') % 2 ≡ 1) × ((v + v') % 2 ≡ 1) × Ended (u + u') (v + v') (2 * u) (2 * v)
      × Ended (u + u') (v + v') (2 * u') (2 * v') × Depended (u + u') (v + v') (2 * a) (2 * b)
  between_edge o =
      let z = t.edge o in
      let ou = even_odd u u' e.across z.0 in
      let ov = even_odd v v' e.up z.1 in
      let x = close_half e.east t.east e.across z.0 in
      let y = close_half e.north t.north e.up z.1 in (
        ou,
        ov,
        (centre_ended (u + u') (v + v') ou ov (2 * u) (2 * v)).1 (twice_diagonal u v x.0 y.0 (double_alike u v (e.across ∙ sym e.up))),
        (centre_ended (u + u') (v + v') ou ov (2 * u') (2 * v')).1 (twice_diagonal u' v' x.1 y.1 (double_alike u' v' (z.0 ∙ sym z.1))),
        (centre_depended (u + u') (v + v') ou ov (2 * a) (2 * b)).1 (twice_diagonal a b x.2 y.2 (double_sum a b 1 o)),
      )

-- a point c, one of its ends l and a point a that it depends on: (l, c, a) is a triangle that is cut one rank lower
module _ {m k : ℕ} {l c a : Point} (h : Inside m l) (h' : Inside m a) where
  half : (j : ℕ) {x y : ℕ} → Placed m j x y c → rank m c ≡ suc k → Stands (Ended x y) (2 ^ j) l → Stands (Depended x y) (2 ^ j) a →
      Form x y → Fit m k l c a
  half j {x} {y} p r e d (centre ox oy) =
      let i : (e.across + d.across) % 2 ≡ 0 = omega (arith, e.holds.across, d.holds.centre ox oy) in
      let n : (e.up + d.up) % 2 ≡ 0 = omega (arith, e.holds.up, d.holds.centre ox oy) in
      let ex : 2 * ((e.across + d.across) / 2) ≡ e.across + d.across = omega arith in
      let ey : 2 * ((e.up + d.up) / 2) ≡ e.up + d.up = omega arith in
      let b = between_centre e.holds d.holds ox oy ex ey in
      record {
        j = j;
        c = (e.across + d.across) / 2;
        d = (e.up + d.up) / 2;
        below = p.below;
        odd = edge_odd _ _ b.0;
        left = record { across = e.across; up = e.up; times = e.times; holds = b.1 };
        right = record { across = d.across; up = d.up; times = d.times; holds = b.2 };
        top = record { across = x; up = y; times = p.times; holds = b.3 };
        east = ex;
        north = ey;
        corners = record { left = h; top = p.inside; right = h' };
        ranked = λ f. omega (arith, rank_centre (measured p) ox oy, rank_edge f b.0);
      }
  half zero {x} {y} p r e d (edge o) = absurd (omega (arith, rank_edge (measured p) o))
  half (suc j) {x} {y} p r e d (edge o) =
      let b = between_edge e.holds d.holds o in
      record {
        j = j;
        c = e.across + d.across;
        d = e.up + d.up;
        below = omega (arith, p.below);
        odd = inl b.0;
        left = record { across = 2 * e.across; up = 2 * e.up; times = doubled j e.times; holds = b.2 };
        right = record { across = 2 * d.across; up = 2 * d.up; times = doubled j d.times; holds = b.3 };
        top = record { across = 2 * x; up = 2 * y; times = doubled j p.times; holds = b.4 };
        east = omega arith;
        north = omega arith;
        corners = record { left = h; top = p.inside; right = h' };
        ranked = λ f. omega (arith, rank_edge (measured p) o, rank_centre f b.0 b.1);
      }

-- half of a triangle: one of the two ends of its cut, the cut and its apex
half_cut : {m i k : ℕ} {l a r q : Point} → Cut m i l a r → i ≡ suc k → Inside m q → Memᴰ q (both (ends m (midpoint l r))) →
    Fit m k q (midpoint l r) a
half_cut {m} {l = l} {r = r} t e h is =
    let p = placed m (midpoint l r) t.inside t.inner in
    half h t.corners.top _ p (t.rank ∙ e) ((ends_are p).0 is) ((depends_are p).0 t.apex).1 (form _ _ p.odd)

none : (j : ℕ) → 0 ≡ 2 ^ j * 0
none j = sym (mul-zero (2 ^ j))

-- the two that the square starts as: from (0, 0) to (2, 2), in units of half its side
whole : (j : ℕ) {k u v : ℕ} {a : Point} → 2 * suc j ≡ suc k → Inside (suc j) a → Times (2 ^ j) u v a → Depended 1 1 u v →
    Fit (suc j) k (at 0 0) a (at (side (suc j)) (side (suc j)))
whole j {u = u} {v = v} e h t d = record {
  j = j;
  c = 1;
  d = 1;
  below = omega arith;
  odd = inl refl;
  left = record { across = 0; up = 0; times = record { east = none j; north = none j }; holds = omega arith };
  right = record { across = 2; up = 2; times = record { east = pow-suc 2 j; north = pow-suc 2 j }; holds = omega arith };
  top = record { across = u; up = v; times = t; holds = d };
  east = refl;
  north = refl;
  corners = record { left = omega arith; top = h; right = omega arith };
  ranked = λ f. omega (arith, rank_centre f refl refl);
}

south_east : (m : ℕ) {k : ℕ} → 2 * m ≡ suc k → Fit m k (at 0 0) (at (side m) 0) (at (side m) (side m))
south_east zero e = absurd (omega arith)
south_east (suc j) e = whole j {u = 2} {v = 0} e (omega arith) (record { east = pow-suc 2 j; north = none j }) (omega arith)

north_west : (m : ℕ) {k : ℕ} → 2 * m ≡ suc k → Fit m k (at 0 0) (at 0 (side m)) (at (side m) (side m))
north_west zero e = absurd (omega arith)
north_west (suc j) e = whole j {u = 0} {v = 2} e (omega arith) (record { east = none j; north = pow-suc 2 j }) (omega arith)

-- both ends of a cut are ends
cut_ends : {m k : ℕ} {l a r : Point} → Cut m k l a r →
    Memᴰ l (both (ends m (midpoint l r))) × Memᴰ r (both (ends m (midpoint l r)))
cut_ends t =
    ⊎_elim
    (λ e. rw e (Memᴰ.head refl, Memᴰ.tail (Memᴰ.head refl)))
    (λ e. rw e (Memᴰ.tail (Memᴰ.head refl), Memᴰ.head refl))
    t.ends

cut_by : {m n : ℕ} {l a r : Point} → Triangle m n l a r → (k : ℕ) → n ≡ suc k → Cut m k l a r
cut_by {m} first k e = fit_cut (south_east m e)
cut_by {m} second k e = fit_cut (fit_swap (north_west m e))
cut_by (first_half {k = i} t) k e = let c = cut_by t i refl in fit_cut (half_cut c e c.corners.left (cut_ends c).0)
cut_by (second_half {k = i} t) k e = let c = cut_by t i refl in fit_cut (fit_swap (half_cut c e c.corners.right (cut_ends c).1))

pub cut : {m k : ℕ} {l a r : Point} → Triangle m (suc k) l a r → Cut m k l a r
cut {k = k} t = cut_by t k refl

pub corners_inside : {m k : ℕ} {l a r : Point} → Triangle m k l a r → Corners m l a r
corners_inside first = omega arith
corners_inside second = omega arith
corners_inside (first_half t) = let c = cut t in record { left = c.corners.left; top = c.inside; right = c.corners.top }
corners_inside (second_half t) = let c = cut t in record { left = c.corners.top; top = c.inside; right = c.corners.right }

-- the stages alternate
stage_by : {m k j a b : ℕ} {c : Point} → Placed m j a b c → rank m c ≡ k → Form a b → Stage m k c
stage_by p r (edge o) =
    let f = measured p in
    let z = rank_edge f o in
    record { sample = p.inside; inner = inner p; at_centre = λ e. absurd (omega arith); at_edge = λ e. rw (f.across, f.up) o }
stage_by p r (centre oa ob) =
    let f = measured p in
    let z = rank_centre f oa ob in
    record { sample = p.inside; inner = inner p; at_centre = λ e. rw (f.across, f.up) (oa, ob); at_edge = λ e. absurd (omega arith) }

pub stage : {m k : ℕ} {l a r : Point} → Triangle m (suc k) l a r → Stage m k (midpoint l r)
stage {m} {k} {l} {a} {r} t =
    let c = cut t in
    let p = placed m (midpoint l r) c.inside c.inner in
    stage_by p c.rank (form _ _ p.odd)
