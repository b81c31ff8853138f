-- The ends of a point, the points it depends on and its dependents, counted in units of spacing: at most one unit away both
-- ways, told apart by parities alone. So a claim on which points are which is one on small numbers, and `omega` proves it.
use mathlib.Core.Path.{◌≡◌, refl, sym, ap, ◌∙◌}
use mathlib.Core.Bool.{true, false}
use mathlib.Core.List.{List, [], ◌∷◌, Memᴰ}
use mathlib.Core.Logic.{◌⊎◌, inl, inr, ⊎_elim, ◌↔◌}
use Prim.Native.Nat.{ℕ, ◌+◌, ◌-◌, ◌*◌, ◌%◌, ◌≤◌, ◌<◌}
use native.Mathlib.Nat.{le_of_mul-le-mul_left, mul-le-mul_left}
use native.Mathlib.Decide.{dec_lt}
use native.Mathlib.Omega.{arith}
use Rattle.grid.specs.Grid.{side, at, Inside}
use Rattle.grid.specs.Points.{units, kind, both, ends_by, depends_by, beside}
use Rattle.grid.specs.declared.points.Point.{Point}
use Rattle.grid.specs.declared.points.Kind.{Kind}
use Rattle.grid.specs.declared.points.Kind.TheVariants.{EastWest, NorthSouth, Rising, Falling}
use Rattle.grid.proofs.Parity.{Sort, east_west, north_south, rising, falling}
use Rattle.grid.proofs.Room.{reach}
use Rattle.grid.proofs.Coarser.{Neighbours, neighbours}
use Rattle.grid.proofs.Sums.{choose, one_odd, even_odd, odd_left, sum_alike, sum_unlike, Close, close_equal}
use Rattle.grid.proofs.Units.{Times}
use Rattle.grid.proofs.Members.{all, Axis, Stepped, line_is}

-- (u, v) is an end of (a, b): even both ways; of a centre, counted in units of 2s, both even or both odd
pub record Ended (a b u v : ℕ) : Type 0 where
  pub east : Close u a
  pub north : Close v b
  pub across : u % 2 ≡ 0
  pub up : v % 2 ≡ 0
  pub alike : a % 2 ≡ 1 → b % 2 ≡ 1 → (u + v) % 4 ≡ 0

-- (a, b) depends on (u, v): an edge point on points odd both ways; a centre on points even both ways, in units of 2s just
-- one of the two odd
pub record Depended (a b u v : ℕ) : Type 0 where
  pub east : Close u a
  pub north : Close v b
  pub edge : (a + b) % 2 ≡ 1 → (u % 2 ≡ 1) × (v % 2 ≡ 1)
  pub centre : a % 2 ≡ 1 → b % 2 ≡ 1 → (u % 2 ≡ 0) × (v % 2 ≡ 0) × ((u + v) % 4 ≡ 2)

-- (u, v) is one unit from a centre (a, b) along an axis: just one of the two odd
pub record Beside (a b u v : ℕ) : Type 0 where
  pub east : Close u a
  pub north : Close v b
  pub other : (u + v) % 2 ≡ 1

-- q, counted in units of s, stands in the relation R
pub record Stands (R : ℕ → ℕ → Type 0) (s : ℕ) (q : Point) : Type 0 where
  pub across : ℕ
  pub up : ℕ
  pub times : Times s across up q
  pub holds : R across up

-- the kind of a point with units a and b
pub data Way (a b : ℕ) : Kind → Type 0 where
  row : a % 2 ≡ 1 → b % 2 ≡ 0 → Way a b EastWest
  column : a % 2 ≡ 0 → b % 2 ≡ 1 → Way a b NorthSouth
  rise : a % 2 ≡ 1 → b % 2 ≡ 1 → (a + b) % 4 ≡ 2 → Way a b Rising
  fall : a % 2 ≡ 1 → b % 2 ≡ 1 → (a + b) % 4 ≡ 0 → Way a b Falling

pub way : {m : ℕ} {p : Point} → Sort m p → Way (units m p).across (units m p).up (kind m p)
way (east_west k oa eb) = rw k (row oa eb)
way (north_south k ea ob) = rw k (column ea ob)
way {m} {p} (rising k oa ob e) = rw k (rise oa ob (sum_alike (units m p).across (units m p).up oa ob e))
way {m} {p} (falling k oa ob e) = rw k (fall oa ob (sum_unlike (units m p).across (units m p).up oa ob e))

pub same_point : {p q : Point} → p.x ≡ q.x → p.y ≡ q.y → p ≡ q
same_point e f = λ i. at (e i) (f i)

same : {s u v u' v' : ℕ} {q p : Point} → Times s u v q → Times s u' v' p → (u ≡ u') × (v ≡ v') → q ≡ p
same {s} t w e =
    same_point (t.east ∙ ap (λ (n : ℕ). s * n) e.0 ∙ sym w.east) (t.north ∙ ap (λ (n : ℕ). s * n) e.1 ∙ sym w.north)

-- of two points: both stand in the relation, and nothing else does
two : (R : ℕ → ℕ → Type 0) {s u₁ v₁ u₂ v₂ : ℕ} {p₁ p₂ q : Point} → Times s u₁ v₁ p₁ → Times s u₂ v₂ p₂ → R u₁ v₁ → R u₂ v₂ →
    ((u v : ℕ) → R u v → ((u ≡ u₁) × (v ≡ v₁)) ⊎ ((u ≡ u₂) × (v ≡ v₂))) → Memᴰ q (p₁ ∷ p₂ ∷ []) ↔ Stands R s q
two R {s} {u₁} {v₁} {u₂} {v₂} {p₁} {p₂} t₁ t₂ r₁ r₂ only = (
  all (Stands R s) (p₁ ∷ p₂ ∷ []) (
    record { across = u₁; up = v₁; times = t₁; holds = r₁ },
    (record { across = u₂; up = v₂; times = t₂; holds = r₂ }, tt),
  ),
  λ k.
      ⊎_elim (λ e. Memᴰ.head (same k.times t₁ e)) (λ e. Memᴰ.tail (Memᴰ.head (same k.times t₂ e)))
      (only k.across k.up k.holds),
)

-- of an edge point: what is even both ways, what is odd both ways
module _ {a b u v : ℕ} (o : (a + b) % 2 ≡ 1) (cu : Close u a) (cv : Close v b) where
  pub edge_ended : u % 2 ≡ 0 → v % 2 ≡ 0 → Ended a b u v
  edge_ended eu ev = record { east = cu; north = cv; across = eu; up = ev; alike = λ oa ob. absurd (one_odd a b o oa ob) }

  pub edge_depended : u % 2 ≡ 1 → v % 2 ≡ 1 → Depended a b u v
  edge_depended ou ov = record { east = cu; north = cv; edge = λ _. (ou, ov); centre = λ oa ob. absurd (one_odd a b o oa ob) }

-- of a centre (a, b): (u, v) lies one unit away both ways, and its sum is r more than a multiple of 4
pub record Diagonal (r a b u v : ℕ) : Type 0 where
  pub east : Close u a
  pub north : Close v b
  pub across : u % 2 ≡ 0
  pub up : v % 2 ≡ 0
  pub turn : (u + v) % 4 ≡ r

pub twice_diagonal : {r a b : ℕ} (u v : ℕ) → Close (2 * u) a → Close (2 * v) b → (2 * u + 2 * v) % 4 ≡ r → Diagonal r a b (2 * u) (2 * v)
twice_diagonal u v x y t = record { east = x; north = y; across = omega arith; up = omega arith; turn = t }

module _ (a b : ℕ) (oa : a % 2 ≡ 1) (ob : b % 2 ≡ 1) where
  pub centre_ended : (u v : ℕ) → Ended a b u v ↔ Diagonal 0 a b u v
  centre_ended u v = (λ r. omega (arith, r.alike oa ob), λ d. omega arith)

  pub centre_depended : (u v : ℕ) → Depended a b u v ↔ Diagonal 2 a b u v
  centre_depended u v = (λ r. omega (arith, r.centre oa ob), λ d. omega arith)

  module _ (r : ℕ) where
    same_way : (a + b + 2) % 4 ≡ r → (u v : ℕ) → Diagonal r a b u v → ((u ≡ a - 1) × (v ≡ b - 1)) ⊎ ((u ≡ a + 1) × (v ≡ b + 1))
    same_way e u v d = choose (dec_lt u a) (λ l. omega arith) (λ l. omega arith)

    other_way : (a + b) % 4 ≡ r → (u v : ℕ) → Diagonal r a b u v → ((u ≡ a + 1) × (v ≡ b - 1)) ⊎ ((u ≡ a - 1) × (v ≡ b + 1))
    other_way e u v d = choose (dec_lt v b) (λ l. omega arith) (λ l. omega arith)

    same_both : (a + b + 2) % 4 ≡ r → Diagonal r a b (a - 1) (b - 1) × Diagonal r a b (a + 1) (b + 1)
    same_both e = omega arith

    other_both : (a + b) % 4 ≡ r → Diagonal r a b (a + 1) (b - 1) × Diagonal r a b (a - 1) (b + 1)
    other_both e = omega arith

-- p is s times (a, b), in a square 2·half times s wide
pub record Lattice (m s a b : ℕ) (p : Point) : Type 0 where
  pub half : ℕ
  pub wide : side m ≡ s * (2 * half)
  pub positive : 0 < s
  pub times : Times s a b p
  pub inside : Inside m p

-- one unit from a centre, south, west, east or north
abbrev FourWays : ℕ → ℕ → ℕ → ℕ → Type 0
FourWays a b u v = ((u ≡ a) × (v ≡ b - 1)) ⊎ (((u ≡ a - 1) × (v ≡ b)) ⊎ (((u ≡ a + 1) × (v ≡ b)) ⊎ ((u ≡ a) × (v ≡ b + 1))))

four_ways : (a b u v : ℕ) → a % 2 ≡ 1 → b % 2 ≡ 1 → Beside a b u v → FourWays a b u v
four_ways a b u v oa ob r = by (dec_lt v b) (dec_lt u a) (dec_lt a u)
  where
    by : Dec (v < b) → Dec (u < a) → Dec (a < u) → FourWays a b u v
    by (yes d) e f = inl (omega arith)
    by (no d) (yes e) f = inr (inl (omega arith))
    by (no d) (no e) (yes f) = inr (inr (inl (omega arith)))
    by (no d) (no e) (no f) = inr (inr (inr (omega arith)))

module _ {m s a b : ℕ} {p : Point} (g : Lattice m s a b p) where
  east_axis : Axis (side m) s a p.x
  east_axis = record { positive = g.positive; times = g.times.east; most = g.inside.east }

  north_axis : Axis (side m) s b p.y
  north_axis = record { positive = g.positive; times = g.times.north; most = g.inside.north }

  next : {c d : ℕ} → Axis (side m) s d c → d % 2 ≡ 1 → Neighbours (side m) s d c
  next {c} {d} x o =
      let f : s * d ≤ s * (2 * g.half) = omega (arith, g.wide, x.most, x.times) in
      neighbours (side m) s d c x.times o
      (reach (side m) s g.half d c g.wide x.times (le_of_mul-le-mul_left f g.positive) o)

  -- one unit on from p: east-west, north-south
  module _ (oa : a % 2 ≡ 1) where
    west : Times s (a - 1) b (at (p.x - s) p.y)
    west = record { east = (next east_axis oa).low; north = g.times.north }

    east : Times s (a + 1) b (at (p.x + s) p.y)
    east = record { east = (next east_axis oa).high; north = g.times.north }

  module _ (ob : b % 2 ≡ 1) where
    south : Times s a (b - 1) (at p.x (p.y - s))
    south = record { east = g.times.east; north = (next north_axis ob).low }

    north : Times s a (b + 1) (at p.x (p.y + s))
    north = record { east = g.times.east; north = (next north_axis ob).high }

  module _ (oa : a % 2 ≡ 1) (ob : b % 2 ≡ 1) where
    module _ (R : ℕ → ℕ → Type 0) (r : ℕ) (is : (u v : ℕ) → R u v ↔ Diagonal r a b u v) {q : Point} where
      same_line : (a + b + 2) % 4 ≡ r → Memᴰ q (at (p.x - s) (p.y - s) ∷ at (p.x + s) (p.y + s) ∷ []) ↔ Stands R s q
      same_line t =
          let d = same_both a b oa ob r t in
          two R (record { east = (west oa).east; north = (south ob).north }) (record { east = (east oa).east; north = (north ob).north })
          ((is (a - 1) (b - 1)).1 d.0) ((is (a + 1) (b + 1)).1 d.1) (λ u v k. same_way a b oa ob r t u v ((is u v).0 k))

      other_line : (a + b) % 4 ≡ r → Memᴰ q (at (p.x + s) (p.y - s) ∷ at (p.x - s) (p.y + s) ∷ []) ↔ Stands R s q
      other_line t =
          let d = other_both a b oa ob r t in
          two R (record { east = (east oa).east; north = (south ob).north }) (record { east = (west oa).east; north = (north ob).north })
          ((is (a + 1) (b - 1)).1 d.0) ((is (a - 1) (b + 1)).1 d.1) (λ u v k. other_way a b oa ob r t u v ((is u v).0 k))

    pub beside_way : {q : Point} → Memᴰ q (beside s p.x p.y) ↔ Stands (Beside a b) s q
    beside_way = (
      all (Stands (Beside a b) s) (beside s p.x p.y) (
        record { across = a; up = b - 1; times = south ob; holds = omega arith },
        (
          record { across = a - 1; up = b; times = west oa; holds = omega arith },
          (
            record { across = a + 1; up = b; times = east oa; holds = omega arith },
            (record { across = a; up = b + 1; times = north ob; holds = omega arith }, tt),
          ),
        ),
      ),
      λ k. by k (four_ways a b k.across k.up oa ob k.holds),
    )
      where
        by : {q : Point} (k : Stands (Beside a b) s q) → FourWays a b k.across k.up → Memᴰ q (beside s p.x p.y)
        by k (inl e) = Memᴰ.head (same k.times (south ob) e)
        by k (inr (inl e)) = Memᴰ.tail (Memᴰ.head (same k.times (west oa) e))
        by k (inr (inr (inl e))) = Memᴰ.tail (Memᴰ.tail (Memᴰ.head (same k.times (east oa) e)))
        by k (inr (inr (inr e))) = Memᴰ.tail (Memᴰ.tail (Memᴰ.tail (Memᴰ.head (same k.times (north ob) e))))

    -- a centre depends on points one unit away both ways, and those are inside
    around_inside : {u v : ℕ} {q : Point} → Times s u v q → Close u a → Close v b → Inside m q
    around_inside t cu cv =
        let e : s * _ ≤ s * (a + 1) = mul-le-mul_left s cu.most in
        let f : s * _ ≤ s * (b + 1) = mul-le-mul_left s cv.most in
        let x = next east_axis oa in
        let y = next north_axis ob in
        record { east = omega (arith, t.east, x.high, x.high_inside); north = omega (arith, t.north, y.high, y.high_inside) }

    centred : {q : Point} {l : List Point} → Memᴰ q l ↔ Stands (Depended a b) s q →
        Memᴰ q l ↔ (Inside m q × Stands (Depended a b) s q)
    centred e = (
      λ i. let k = e.0 i in (around_inside k.times k.holds.east k.holds.north, k),
      λ k. e.1 k.1,
    )

  pub ends_way : {k : Kind} {q : Point} → Way a b k → Memᴰ q (both (ends_by k s p.x p.y)) ↔ Stands (Ended a b) s q
  ends_way (row oa eb) =
      two (Ended a b) (west oa) (east oa) (omega arith) (omega arith)
      (λ u v r. choose (dec_lt u a) (λ l. omega arith) (λ l. omega arith))
  ends_way (column ea ob) =
      two (Ended a b) (south ob) (north ob) (omega arith) (omega arith)
      (λ u v r. choose (dec_lt v b) (λ l. omega arith) (λ l. omega arith))
  ends_way (rise oa ob t) = same_line oa ob (Ended a b) 0 (centre_ended a b oa ob) (omega arith)
  ends_way (fall oa ob t) = other_line oa ob (Ended a b) 0 (centre_ended a b oa ob) t

  pub depends_way : {k : Kind} {q : Point} → Way a b k →
      Memᴰ q (depends_by k (side m) s p.x p.y) ↔ (Inside m q × Stands (Depended a b) s q)
  depends_way {q = q} (row oa eb) =
      let o : (a + b) % 2 ≡ 1 = omega arith in (
        λ i.
            let r = (line_is north_axis true p.x).0 i in
            let t = r.1 in
            let d = edge_depended o (omega arith) t.close oa (odd_left b t.unit t.other eb) in
            rw r.2 (
              record { east = g.inside.east; north = t.most },
              record { across = a; up = t.unit; times = record { east = g.times.east; north = t.times }; holds = d },
            ),
        λ i.
            let k = i.1 in
            let z = k.holds.edge o in
            let e = ap (λ (u : ℕ). s * u) (close_equal k.holds.east (z.0 ∙ sym oa)) in
            let t : Stepped (side m) s b q.y = record {
              unit = k.up;
              times = k.times.north;
              close = k.holds.north;
              other = even_odd b k.up eb z.1;
              most = i.0.north;
            } in
            (line_is north_axis true p.x).1 (q.y, t, same_point (k.times.east ∙ e ∙ sym g.times.east) refl),
      )
  depends_way {q = q} (column ea ob) =
      let o : (a + b) % 2 ≡ 1 = omega arith in (
        λ i.
            let r = (line_is east_axis false p.y).0 i in
            let t = r.1 in
            let d = edge_depended o t.close (omega arith) (odd_left a t.unit t.other ea) ob in
            rw r.2 (
              record { east = t.most; north = g.inside.north },
              record { across = t.unit; up = b; times = record { east = t.times; north = g.times.north }; holds = d },
            ),
        λ i.
            let k = i.1 in
            let z = k.holds.edge o in
            let e = ap (λ (v : ℕ). s * v) (close_equal k.holds.north (z.1 ∙ sym ob)) in
            let t : Stepped (side m) s a q.x = record {
              unit = k.across;
              times = k.times.east;
              close = k.holds.east;
              other = even_odd a k.across ea z.0;
              most = i.0.east;
            } in
            (line_is east_axis false p.y).1 (q.x, t, same_point refl (k.times.north ∙ e ∙ sym g.times.north)),
      )
  depends_way (rise oa ob t) = centred oa ob (other_line oa ob (Depended a b) 2 (centre_depended a b oa ob) t)
  depends_way (fall oa ob t) = centred oa ob (same_line oa ob (Depended a b) 2 (centre_depended a b oa ob) (omega arith))
