-- The spacing is the largest power of two dividing both coordinates; a centre's ends are the two of the four points around it
-- that have, in units of 2s, both coordinates odd or both even, and it depends on the other two; an edge point's ends lie s
-- away along the axis of the odd unit, and what it depends on along the other. A point that is no grid corner is one or other.
use mathlib.Core.Path.{◌≡◌, refl, sym, ap, ◌∙◌}
use mathlib.Core.Bool.{Bool, true, false, not}
use mathlib.Core.List.Memᴰ
use mathlib.Core.List.{[], ◌∷◌, Memᴰ}
use mathlib.Core.Logic.{◌⊎◌, inl, inr, ⊎_elim, ◌↔◌, ◌≢◌}
use Prim.Native.Nat.{ℕ, suc, ◌+◌, ◌-◌, ◌*◌, ◌^◌, ◌/◌, ◌%◌, ◌≤◌, ◌<◌}
use native.Mathlib.Nat.{mul-add, mul-one, mul-div_cancel_left, mod-mod_of_dvd, dvd-mul_right, zero-mod, pow-suc}
use native.Mathlib.Decide.{ℕ_discrete, dec_le}
use native.Mathlib.Omega.{arith}
use lib.Pow.{pow_mono, pow-add}
use Rattle.grid.specs.Grid.{side, at, Inside}
use Rattle.grid.specs.Points.{level, spacing, units, is_corner, kind, ends, ends_by, pair, diagonal, both, near, laid, in_line, depends_on, depends_by}
use Rattle.grid.specs.Rule.{LargestPower, Away, Around, BothOdd, BothEven, Centre, along, AwayAlong, Edge}
use Rattle.grid.specs.declared.points.Point.{Point}
use Rattle.grid.proofs.Level.{level_divides, level_largest}
use Rattle.grid.proofs.Spaced.{view, level_below, east_units, north_units, spacing_positive, odd_times, before}
use Rattle.grid.proofs.Parity.{Sort, east_west, north_south, rising, falling, sort}
use Rattle.grid.proofs.Room.{Reached, room}
use Rattle.grid.proofs.Around.{same_point}
use Rattle.grid.proofs.Members.{line_near}
use Rattle.grid.proofs.Units.{Odd, Measured, at_units}

-- 2^k divides x where 2^j does and k is at most j
divides_less : (k j x : ℕ) → k ≤ j → x % 2 ^ j ≡ 0 → x % 2 ^ k ≡ 0
divides_less k j x l e =
    let d : j ≡ k + (j - k) = omega arith in
    let f : 2 ^ j ≡ 2 ^ k * 2 ^ (j - k) = ap (λ (n : ℕ). 2 ^ n) d ∙ pow-add 2 k (j - k) in
    sym (mod-mod_of_dvd (2 ^ k) x (dvd-mul_right (2 ^ k) (2 ^ (j - k)))) ∙ ap (λ (n : ℕ). x % n % 2 ^ k) (sym f)
    ∙ ap (λ (n : ℕ). n % 2 ^ k) e
    ∙ zero-mod (2 ^ k)

pub spacing_largest : (m : ℕ) (p : Point) → Inside m p → is_corner m p ≡ false → LargestPower p.x p.y (spacing m p)
unfolding spacing
spacing_largest m p h inner =
    let j = level m p.x p.y in
    let d = level_divides m p.x p.y in
    let below : j < m = level_below m p h inner in
    record {
      exponent = j;
      power = refl;
      east = d.east;
      north = d.north;
      largest = λ k ex ey. pow_mono (go k ex ey (dec_le k m));
    }
  where
    go : (k : ℕ) → p.x % 2 ^ k ≡ 0 → p.y % 2 ^ k ≡ 0 → Dec (k ≤ m) → k ≤ level m p.x p.y
    go k ex ey (yes l) = level_largest m k p.x p.y l (record { east = ex; north = ey })
    go k ex ey (no l) =
        let below : level m p.x p.y < m = level_below m p h inner in
        let top : m ≤ level m p.x p.y =
        level_largest m m p.x p.y (omega arith)
        (record { east = divides_less m k p.x (omega arith) ex; north = divides_less m k p.y (omega arith) ey }) in
        absurd (native.Mathlib.Nat.lt_irrefl m (omega arith))

-- a coordinate that is an odd number of s, its neighbours s away, and both counted in units of 2s: h and h + 1
record Sides (s c h : ℕ) : Type 0 where
  positive : 0 < s
  back : c - s + s ≡ c
  low : (c - s) / (2 * s) ≡ h
  high : (c + s) / (2 * s) ≡ h + 1

sides : (s a c : ℕ) → 0 < s → s ≤ c → c ≡ s * a → a % 2 ≡ 1 → Sides s c (a / 2)
sides s a c pos l e o =
    let f = odd_times s a o in
    let u : c + s ≡ 2 * s * (a / 2 + 1) =
    let g : 2 * s * (a / 2 + 1) ≡ 2 * s * (a / 2) + 2 * s = mul-add (2 * s) (a / 2) 1 ∙ ap (λ (n : ℕ). 2 * s * (a / 2) + n) (mul-one (2 * s)) in
    omega arith in
    record {
      positive = pos;
      back = omega arith;
      low = ap (λ (n : ℕ). (n - s) / (2 * s)) e ∙ before s a pos o;
      high = ap (λ (n : ℕ). n / (2 * s)) u ∙ mul-div_cancel_left (a / 2 + 1) (omega arith);
    }

-- q is one of two points
of_two : (q : Point) (a b c d : ℕ) →
    Memᴰ q (at a b ∷ at c d ∷ []) ↔ (((q.x ≡ a) × (q.y ≡ b)) ⊎ ((q.x ≡ c) × (q.y ≡ d)))
of_two q a b c d = (
  λ i. ⊎_elim (λ e. inl (east e, north e)) (λ r. let e = Memᴰ.eq_of_singleton r in inr (east e, north e)) (Memᴰ.cases_cons i),
  ⊎_elim (λ e. Memᴰ.head (same_point e.0 e.1)) (λ e. Memᴰ.tail (Memᴰ.head (same_point e.0 e.1))),
)
  where
    east : {r : Point} → q ≡ r → q.x ≡ r.x
    east e = ap (λ (u : Point). u.x) e

    north : {r : Point} → q ≡ r → q.y ≡ r.y
    north e = ap (λ (u : Point). u.y) e

module _ (s x y h k : ℕ) (X : Sides s x h) (Y : Sides s y k) where
  -- q on the rising diagonal, or on the other
  On : Bool → Point → Type 0
  On true q = ((q.x ≡ x - s) × (q.y ≡ y - s)) ⊎ ((q.x ≡ x + s) × (q.y ≡ y + s))
  On false q = ((q.x ≡ x + s) × (q.y ≡ y - s)) ⊎ ((q.x ≡ x - s) × (q.y ≡ y + s))

  on_diagonal : (t : Bool) (q : Point) → Memᴰ q (both (diagonal t s x y)) ↔ On t q
  unfolding On
  on_diagonal true q = of_two q (x - s) (y - s) (x + s) (y + s)
  on_diagonal false q = of_two q (x + s) (y - s) (x - s) (y + s)

  low_around : {c : ℕ} {z g : ℕ} → Sides s z g → c ≡ z - s → (c + s ≡ z) ⊎ (c ≡ z + s)
  low_around S e = inl (ap (λ (n : ℕ). n + s) e ∙ S.back)

  on_around : (t : Bool) (q : Point) → On t q → Around s (at x y) q
  unfolding On
  on_around true q (inl e) = record { east = low_around X e.0; north = low_around Y e.1 }
  on_around true q (inr e) = record { east = inr e.0; north = inr e.1 }
  on_around false q (inl e) = record { east = inr e.0; north = low_around Y e.1 }
  on_around false q (inr e) = record { east = low_around X e.0; north = inr e.1 }

  around_by : (t : Bool) (q : Point) → (q.x + s ≡ x) ⊎ (q.x ≡ x + s) → (q.y + s ≡ y) ⊎ (q.y ≡ y + s) → On t q ⊎ On (not t) q
  unfolding On
  around_by true q (inl a) (inl b) = inl (inl (omega arith, omega arith))
  around_by true q (inr a) (inr b) = inl (inr (a, b))
  around_by true q (inr a) (inl b) = inr (inl (a, omega arith))
  around_by true q (inl a) (inr b) = inr (inr (omega arith, b))
  around_by false q (inl a) (inl b) = inr (inl (omega arith, omega arith))
  around_by false q (inr a) (inr b) = inr (inr (a, b))
  around_by false q (inr a) (inl b) = inl (inl (a, omega arith))
  around_by false q (inl a) (inr b) = inl (inr (omega arith, b))

  -- the two diagonals share no point
  apart : (t : Bool) (q : Point) → On t q → On (not t) q → ⊥
  unfolding On
  apart true q (inl e) (inl f) = omega (arith, X.positive)
  apart true q (inl e) (inr f) = omega (arith, Y.positive)
  apart true q (inr e) (inl f) = omega (arith, Y.positive)
  apart true q (inr e) (inr f) = omega (arith, X.positive)
  apart false q (inl e) (inl f) = omega (arith, X.positive)
  apart false q (inl e) (inr f) = omega (arith, Y.positive)
  apart false q (inr e) (inl f) = omega (arith, Y.positive)
  apart false q (inr e) (inr f) = omega (arith, X.positive)

  -- whether the diagonal t is the one whose points are alike in units of 2s
  Alike : Bool → Type 0
  Alike true = h % 2 ≡ k % 2
  Alike false = h % 2 ≢ k % 2

  in_units : (q : Point) {u v : ℕ} → (q.x ≡ u) × (q.y ≡ v) → {a b : ℕ} → u / (2 * s) ≡ a → v / (2 * s) ≡ b →
      (q.x / (2 * s) ≡ a) × (q.y / (2 * s) ≡ b)
  in_units q e f g = (ap (λ (n : ℕ). n / (2 * s)) e.0 ∙ f, ap (λ (n : ℕ). n / (2 * s)) e.1 ∙ g)

  -- a point of the other diagonal has one odd and one even
  mixed : (t : Bool) → Alike t → (q : Point) → On (not t) q → (q.x / (2 * s)) % 2 ≢ (q.y / (2 * s)) % 2
  unfolding On Alike
  mixed true a q (inl e) z = let u = in_units q e X.high Y.low in omega arith
  mixed true a q (inr e) z = let u = in_units q e X.low Y.high in omega arith
  mixed false a q (inl e) z = let u = in_units q e X.low Y.low in omega arith
  mixed false a q (inr e) z = let u = in_units q e X.high Y.high in omega arith

  -- of the two on the diagonal, one has both odd and one has both even
  Parted : Bool → Type 0
  Parted t =
      (BothOdd s (diagonal t s x y).first × BothEven s (diagonal t s x y).second) ⊎
      (BothEven s (diagonal t s x y).first × BothOdd s (diagonal t s x y).second)

  parted : (t : Bool) → Alike t → Dec (k % 2 ≡ 1) → Parted t
  unfolding Alike Parted
  parted true a (yes o) = inl (rw (X.low, Y.low, X.high, Y.high) ((omega arith, o), (omega arith, omega arith)))
  parted true a (no e) = inr (rw (X.low, Y.low, X.high, Y.high) ((omega arith, omega arith), (omega arith, omega arith)))
  parted false a (yes o) = inl (rw (X.low, Y.low, X.high, Y.high) ((omega arith, o), (omega arith, omega arith)))
  parted false a (no e) = inr (rw (X.low, Y.low, X.high, Y.high) ((omega arith, omega arith), (omega arith, omega arith)))

  same_parity : (q : Point) → BothOdd s q ⊎ BothEven s q → (q.x / (2 * s)) % 2 ≡ (q.y / (2 * s)) % 2
  same_parity q b = ⊎_elim (λ o. o.0 ∙ sym o.1) (λ e. e.0 ∙ sym e.1) b

  on_first : (t : Bool) → On t (diagonal t s x y).first
  unfolding On
  on_first true = inl (refl, refl)
  on_first false = inl (refl, refl)

  on_second : (t : Bool) → On t (diagonal t s x y).second
  unfolding On
  on_second true = inr (refl, refl)
  on_second false = inr (refl, refl)

  centre_by : (t : Bool) → Alike t → Centre s (at x y) (diagonal t s x y) (both (diagonal (not t) s x y))
  unfolding Parted
  centre_by t a =
      record {
        first = on_around t (diagonal t s x y).first (on_first t);
        second = on_around t (diagonal t s x y).second (on_second t);
        ends = parted t a (ℕ_discrete (k % 2) 1);
        only = λ q r b.
            ⊎_elim (λ o. (on_diagonal t q).1 o) (λ o. absurd (mixed t a q o (same_parity q b))) (around_by t q r.east r.north);
        others = λ q. (
          λ i. let o = (on_diagonal (not t) q).0 i in (on_around (not t) q o, λ e. apart t q ((on_diagonal t q).0 e) o),
          λ r.
              ⊎_elim (λ o. absurd (r.1 ((on_diagonal t q).1 o))) (λ o. (on_diagonal (not t) q).1 o) (around_by t q r.0.east r.0.north),
        );
      }

-- a centre: x/s and y/s both odd
pub centre : (m : ℕ) (p : Point) → Inside m p → is_corner m p ≡ false → (units m p).across % 2 ≡ 1 → (units m p).up % 2 ≡ 1 →
    Centre (spacing m p) p (ends m p) (depends_on m p)
unfolding ends depends_on Alike
centre m p i inner oa ob = by (room m p i) (sort m p i inner)
  where
    east : spacing m p ≤ p.x → Sides (spacing m p) p.x ((units m p).across / 2)
    east l = sides (spacing m p) (units m p).across p.x (spacing_positive m p) l (east_units m p) oa

    north : spacing m p ≤ p.y → Sides (spacing m p) p.y ((units m p).up / 2)
    north l = sides (spacing m p) (units m p).up p.y (spacing_positive m p) l (north_units m p) ob

    by : Reached (kind m p) (side m) (spacing m p) p.x p.y → Sort m p →
        Centre (spacing m p) p (ends_by (kind m p) (spacing m p) p.x p.y) (depends_by (kind m p) (side m) (spacing m p) p.x p.y)
    by r (east_west q a b) = absurd (omega arith)
    by r (north_south q a b) = absurd (omega arith)
    by r (rising q a b e) =
        let w = rw q at r in
        rw q (centre_by (spacing m p) p.x p.y _ _ (east w.0.0) (north w.1.0) true e)
    by r (falling q a b e) =
        let w = rw q at r in
        rw q (centre_by (spacing m p) p.x p.y _ _ (east w.0.0) (north w.1.0) false e)

-- a point that is no grid corner has x/s or y/s odd
pub some_odd : (m : ℕ) (p : Point) → Inside m p → is_corner m p ≡ false → Odd (units m p).across (units m p).up
some_odd m p i inner = (view m p i inner).odd

-- a point by its coordinates along an axis and beside it
along_laid : (t : Bool) (a b : ℕ) → (along t (laid t a b) ≡ a) × (along (not t) (laid t a b) ≡ b)
along_laid false a b = (refl, refl)
along_laid true a b = (refl, refl)

is_laid : (t : Bool) {q : Point} {a b : ℕ} → along t q ≡ a → along (not t) q ≡ b → q ≡ laid t a b
is_laid false e f = same_point e f
is_laid true e f = same_point f e

module _ (m s : ℕ) (p : Point) (h : Inside m p) (t : Bool) where
  inside_along : (u : Bool) (q : Point) → Inside m q → along u q ≤ side m
  inside_along false q i = i.east
  inside_along true q i = i.north

  inside_by : (u : Bool) (q : Point) → along u q ≤ side m → along (not u) q ≤ side m → Inside m q
  inside_by false q e n = record { east = e; north = n }
  inside_by true q n e = record { east = e; north = n }

  -- the points of an axis through p
  on_axis : (u : Bool) {c : ℕ} {q : Point} → Away s (along u p) c → q ≡ laid u c (along (not u) p) → AwayAlong u s p q
  on_axis u {c} a e =
      let w = along_laid u c (along (not u) p) in
      rw e (record { away = rw w.0 a; same = w.1 })

  edge_ends : s ≤ along t p → (q : Point) →
      Memᴰ q (both (pair (laid t (along t p - s) (along (not t) p)) (laid t (along t p + s) (along (not t) p)))) ↔ AwayAlong t s p q
  edge_ends l q = (
    λ i.
        ⊎_elim (λ e. on_axis t (inl (omega arith)) e) (λ r. on_axis t (inr refl) (Memᴰ.eq_of_singleton r)) (Memᴰ.cases_cons i),
    λ a. of a a.away,
  )
    where
      of : AwayAlong t s p q → Away s (along t p) (along t q) →
          Memᴰ q (both (pair (laid t (along t p - s) (along (not t) p)) (laid t (along t p + s) (along (not t) p))))
      of a (inl e) =
          let f : along t q ≡ along t p - s = omega arith in
          Memᴰ.head (is_laid t f a.same)
      of a (inr e) = Memᴰ.tail (Memᴰ.head (is_laid t e a.same))

  edge_others : (q : Point) →
      Memᴰ q (in_line t (along (not t) p) (near (side m) s (along t p))) ↔ (AwayAlong t s p q × Inside m q)
  edge_others q =
      let n = line_near (side m) s (along t p) (along (not t) p) t (inside_along t p h) in (
        λ i.
            let r = n.0 i in
            let w = along_laid t r.0 (along (not t) p) in
            (on_axis t r.1.0 r.2, inside_by t q (rw (r.2, w.0) r.1.1) (rw (r.2, w.1) (inside_along (not t) p h))),
        λ r. n.1 (along t q, (r.0.away, inside_along t q r.1), is_laid t refl r.0.same),
      )

-- an edge point: of x/s and y/s the one along an axis is odd, the other even
pub edge : (m : ℕ) (p : Point) → Inside m p → is_corner m p ≡ false → (t : Bool) →
    let u = at (units m p).across (units m p).up in
    along t u % 2 ≡ 1 → along (not t) u % 2 ≡ 0 → Edge m t (spacing m p) p (ends m p) (depends_on m p)
unfolding ends depends_on
edge m p i inner t o e = by t o e (room m p i) (sort m p i inner)
  where
    by : (t : Bool) → along t (at (units m p).across (units m p).up) % 2 ≡ 1 → along (not t) (at (units m p).across (units m p).up) % 2 ≡ 0 →
        Reached (kind m p) (side m) (spacing m p) p.x p.y → Sort m p →
        Edge m t (spacing m p) p (ends_by (kind m p) (spacing m p) p.x p.y) (depends_by (kind m p) (side m) (spacing m p) p.x p.y)
    by false o e r (east_west q a b) =
        let w = rw q at r in rw q (record { ends = edge_ends m (spacing m p) p i false w.0; others = edge_others m (spacing m p) p i true })
    by false o e r (north_south q a b) = absurd (omega arith)
    by false o e r (rising q a b f) = absurd (omega arith)
    by false o e r (falling q a b f) = absurd (omega arith)
    by true o e r (north_south q a b) =
        let w = rw q at r in rw q (record { ends = edge_ends m (spacing m p) p i true w.0; others = edge_others m (spacing m p) p i false })
    by true o e r (east_west q a b) = absurd (omega arith)
    by true o e r (rising q a b f) = absurd (omega arith)
    by true o e r (falling q a b f) = absurd (omega arith)

-- for the grid's centre the ends are (0, 0) and (N, N)
pub grid_centre_lem : (j : ℕ) → ends (suc j) (at (side j) (side j)) ≡ pair (at 0 0) (at (side (suc j)) (side (suc j)))
unfolding ends
grid_centre_lem j = by (sort m p h (f.inner (omega arith)))
  where
    m : ℕ
    m = suc j

    p : Point
    p = at (side j) (side j)

    two : side m ≡ side j + side j
    two = let d : side m ≡ side j * 2 = pow-suc 2 j in omega arith

    h : Inside m p
    h = record { east = omega (arith, two); north = omega (arith, two) }

    f : Measured m p j 1 1
    f = at_units m j 1 1 (omega arith) (record { east = sym (mul-one (side j)); north = sym (mul-one (side j)) }) (inl refl)

    far : diagonal true (side j) (side j) (side j) ≡ pair (at 0 0) (at (side m) (side m))
    far =
        let low : side j - side j ≡ 0 = omega arith in
        λ i. pair (at (low i) (low i)) (at (sym two i) (sym two i))

    by : Sort m p → ends_by (kind m p) (spacing m p) (side j) (side j) ≡ pair (at 0 0) (at (side m) (side m))
    by (east_west q a b) = absurd (omega (arith, f.up))
    by (north_south q a b) = absurd (omega (arith, f.across))
    by (rising q a b e) = rw (q, f.spaced) far
    by (falling q a b e) = absurd (e (rw (f.across, f.up)))
