-- What a point depends on has the next rank, and p depends on q just where p is one of q's dependents.
-- Both from the units: an edge point depends on centres of its spacing, a centre on edge points of twice its spacing.
use mathlib.Core.Path.{◌≡◌, refl}
use mathlib.Core.Bool.{false}
use mathlib.Core.List.Memᴰ
use mathlib.Core.List.{Memᴰ}
use mathlib.Core.Logic.{inl, ◌↔◌}
use Prim.Native.Nat.{ℕ, zero, suc, ◌+◌, ◌*◌, ◌^◌, ◌/◌, ◌%◌, ◌≤◌, ◌<◌}
use native.Mathlib.Nat.{pow-suc}
use native.Mathlib.Omega.{arith}
use lib.Pow.{pow_pos}
use borrow.Author.Tests.{ne_eqb}
use Rattle.grid.specs.Grid.{side, Inside}
use Rattle.grid.specs.Points.{is_corner, depends_on, dependents, dependents_by, beside, crossing, crossed, rank}
use Rattle.grid.specs.declared.points.Point.{Point}
use Rattle.grid.specs.declared.points.Kind.{Kind}
use Rattle.grid.proofs.Spaced.{level_below}
use Rattle.grid.proofs.Parity.{kind_corner}
use Rattle.grid.proofs.Sums.{false_by, odd_left, double_sum, half_sum, Close, close_sym}
use Rattle.grid.proofs.Units.{Times, at_units, Form, edge, centre, form, edge_odd, rank_edge, rank_centre}
use Rattle.grid.proofs.Members.{Stepped, crossing_is}
use Rattle.grid.proofs.Around.{Depended, Beside, twice_diagonal, Stands, edge_depended, centre_depended, Way, row, column, rise, fall, beside_way}
use Rattle.grid.proofs.Placed.{doubled, halved, Placed, placed, measured, inner, lattice, kind_way, depends_are}

-- a point that depends on another is no grid corner
pub depends_inner : (m : ℕ) (p : Point) {q : Point} → Memᴰ q (depends_on m p) → is_corner m p ≡ false
unfolding depends_on
depends_inner m p i = false_by (is_corner m p) (λ e. Memᴰ.not-nil (rw (kind_corner m p e) at i))

module _ {m j a b : ℕ} {p q : Point} (f : Placed m j a b p) (k : Stands (Depended a b) (2 ^ j) q) where
  next_rank : Form a b → rank m q ≡ suc (rank m p)
  next_rank (edge e) =
      let o = k.holds.edge e in
      let g = at_units m j k.across k.up (omega arith) k.times (inl o.0) in
      omega (arith, rank_edge (measured f) e, rank_centre g o.0 o.1)
  next_rank (centre oa ob) =
      let o = k.holds.centre oa ob in
      let s = half_sum k.across k.up o.0 o.1 o.2 in
      let g = at_units m (suc j) (k.across / 2) (k.up / 2) (omega arith) (halved j k.times o.0 o.1) (edge_odd _ _ s) in
      omega (arith, rank_centre (measured f) oa ob, rank_edge g s)

pub depends_rank : (m : ℕ) (p q : Point) → Inside m p → Memᴰ q (depends_on m p) → Inside m q × (rank m q ≡ suc (rank m p))
depends_rank m p q h i =
    let f = placed m p h (depends_inner m p i) in
    let k = (depends_are f).0 i in
    (k.0, next_rank f k.1 (form _ _ f.odd))

-- the dependents of a centre and of an edge point
beside_by : {a b : ℕ} {k : Kind} (n s x y : ℕ) → Way a b k → a % 2 ≡ 1 → b % 2 ≡ 1 → dependents_by k n s x y ≡ beside s x y
beside_by n s x y (row oa eb) oa' ob' = absurd (omega arith)
beside_by n s x y (column ea ob) oa' ob' = absurd (omega arith)
beside_by n s x y (rise oa ob t) oa' ob' = refl
beside_by n s x y (fall oa ob t) oa' ob' = refl

crossed_by_lem : {a b : ℕ} {k : Kind} (n s x y : ℕ) → Way a b k → (a + b) % 2 ≡ 1 → dependents_by k n s x y ≡ crossed n s x y
crossed_by_lem n s x y (row oa eb) o = refl
crossed_by_lem n s x y (column ea ob) o = refl
crossed_by_lem n s x y (rise oa ob t) o = absurd (omega arith)
crossed_by_lem n s x y (fall oa ob t) o = absurd (omega arith)

-- half of 2^(j+1), which is not 1
crossed_half : (n j x y : ℕ) → crossed n (2 ^ suc j) x y ≡ crossing n (2 ^ j) x y
crossed_half n j x y =
    let e : 2 ^ suc j ≡ 2 ^ j * 2 = pow-suc 2 j in
    let l : 0 < 2 ^ j = pow_pos j in
    let h : 2 ^ suc j / 2 ≡ 2 ^ j = omega arith in
    rw (ne_eqb (2 ^ suc j) 1 (λ z. omega arith), h)

module _ {m j a b : ℕ} {q : Point} (f : Placed m j a b q) where
  dependents_centre : {p : Point} → a % 2 ≡ 1 → b % 2 ≡ 1 → Memᴰ p (dependents m q) ↔ Stands (Beside a b) (2 ^ j) p
  unfolding dependents
  dependents_centre oa ob =
      rw ((measured f).spaced, beside_by (side m) (2 ^ j) q.x q.y (kind_way f) oa ob) (beside_way (lattice f) oa ob)

  dependents_edge : (a + b) % 2 ≡ 1 → dependents m q ≡ crossed (side m) (2 ^ j) q.x q.y
  unfolding dependents
  dependents_edge o = rw (measured f).spaced (crossed_by_lem (side m) (2 ^ j) q.x q.y (kind_way f) o)

-- so of an edge point of spacing 2^(j+1): those one unit of 2^j away both ways
dependents_cross : {m j a b : ℕ} {p q : Point} → Placed m (suc j) a b q → (a + b) % 2 ≡ 1 →
    Memᴰ p (dependents m q) ↔ (Stepped (side m) (2 ^ j) (2 * a) p.x × Stepped (side m) (2 ^ j) (2 * b) p.y)
dependents_cross {m} {j} {q = q} f o =
    let t = doubled j f.times in
    rw (dependents_edge f o, crossed_half (side m) j q.x q.y)
    (crossing_is (record { positive = pow_pos j; times = t.east; most = f.inside.east })
    (record { positive = pow_pos j; times = t.north; most = f.inside.north }))

-- a number close to u, an even one, is one from twice the half of u
stepped : {n s a u c : ℕ} → c ≡ s * a → c ≤ n → Close u a → u % 2 ≡ 0 → a % 2 ≡ 1 → Stepped n s (2 * (u / 2)) c
stepped {a = a} e l k eu oa = record { unit = a; times = e; close = omega arith; other = omega arith; most = l }

depends_to : {m j a b : ℕ} {p q : Point} → Placed m j a b p → Inside m q → is_corner m q ≡ false → Stands (Depended a b) (2 ^ j) q →
    Form a b → Memᴰ p (dependents m q)
depends_to {m} {j} {a} {b} {p} {q} f h inner k (edge o) =
    let z = k.holds.edge o in
    let g : Placed m j k.across k.up q = record { below = f.below; times = k.times; odd = inl z.0; inside = h } in
    let r : Beside k.across k.up a b =
    record { east = close_sym k.holds.east; north = close_sym k.holds.north; other = o } in
    (dependents_centre g z.0 z.1).1 (record { across = a; up = b; times = f.times; holds = r })
depends_to {m} {j} {a} {b} {p} {q} f h inner k (centre oa ob) =
    let z = k.holds.centre oa ob in
    let s = half_sum k.across k.up z.0 z.1 z.2 in
    let t = halved j k.times z.0 z.1 in
    let d = at_units m (suc j) (k.across / 2) (k.up / 2) f.below t (edge_odd _ _ s) in
    let g : Placed m (suc j) (k.across / 2) (k.up / 2) q =
    record { below = rw d.levelled at (level_below m q h inner); times = t; odd = edge_odd _ _ s; inside = h } in
    (dependents_cross g s).1 (
      stepped f.times.east f.inside.east k.holds.east z.0 oa,
      stepped f.times.north f.inside.north k.holds.north z.1 ob,
    )

depends_from : {m : ℕ} (j : ℕ) {a b : ℕ} {p q : Point} → Placed m j a b q → Inside m p → Memᴰ p (dependents m q) → Form a b →
    Memᴰ q (depends_on m p)
depends_from {m} j {a} {b} {p} {q} f h i (centre oa ob) =
    let k = (dependents_centre f oa ob).0 i in
    let o = k.holds.other in
    let g : Placed m j k.across k.up p = record { below = f.below; times = k.times; odd = edge_odd _ _ o; inside = h } in
    let d = edge_depended o (close_sym k.holds.east) (close_sym k.holds.north) oa ob in
    (depends_are g).1 (f.inside, record { across = a; up = b; times = f.times; holds = d })
depends_from {m} zero {a} {b} {p} {q} f h i (edge o) = absurd (Memᴰ.not-nil (rw (dependents_edge f o) at i))
depends_from {m} (suc j) {a} {b} {p} {q} f h i (edge o) =
    let k = (dependents_cross f o).0 i in
    let ou = odd_left (2 * a) k.0.unit k.0.other (omega arith) in
    let ov = odd_left (2 * b) k.1.unit k.1.other (omega arith) in
    let t : Times (2 ^ j) k.0.unit k.1.unit p = record { east = k.0.times; north = k.1.times } in
    let g : Placed m j k.0.unit k.1.unit p = record { below = omega (arith, f.below); times = t; odd = inl ou; inside = h } in
    let d = (centre_depended _ _ ou ov (2 * a) (2 * b)).1
    (twice_diagonal a b (close_sym k.0.close) (close_sym k.1.close) (double_sum a b 1 o)) in
    (depends_are g).1 (f.inside, record { across = 2 * a; up = 2 * b; times = doubled j f.times; holds = d })

-- p depends on q just where p is one of the dependents of q
pub depends_dependents : (m : ℕ) (p q : Point) → Inside m p → Inside m q → is_corner m q ≡ false →
    Memᴰ q (depends_on m p) ↔ Memᴰ p (dependents m q)
depends_dependents m p q h h' inner = (
  λ i. let f = placed m p h (depends_inner m p i) in depends_to f h' inner ((depends_are f).0 i).1 (form _ _ f.odd),
  λ i. let f = placed m q h' inner in depends_from _ f h i (form _ _ f.odd),
)
