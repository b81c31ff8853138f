-- The ends of a point, what it depends on and its dependents stand by rising place, so none is named twice. The dependents
-- lie inside the square (what it depends on does by `depends_rank`), and how many there are is bounded.
use mathlib.Core.Path.{◌≡◌, refl, sym, ◌∙◌}
use mathlib.Core.Bool.{Bool, true, false, cond, true≢false}
use mathlib.Core.List.Memᴰ
use mathlib.Core.List.{List, [], ◌∷◌, ◌++◌, Memᴰ}
use mathlib.Core.Logic.{⊎_elim}
use Prim.Native.Nat.{ℕ, suc, ◌+◌, ◌-◌, ◌*◌, ◌/◌, ◌%◌, ◌≤◌, ◌<◌}
use native.Mathlib.Nat.{mul-le-mul_right, suc-mul, le_trans}
use native.Mathlib.Omega.{arith}
use lib.Dec.{leb, eqb}
use lib.ListN.{length, length-append}
use borrow.Author.Tests.{leb-true, leb-false, eqb-false}
use Rattle.grid.specs.Grid.{side, at, place, Inside}
use Rattle.grid.specs.Points.{spacing, units, is_corner, kind, diagonal, ends_by, ends, near, each, laid, in_line, depends_by, depends_on, crossing, beside, dependents_by, dependents}
use Rattle.grid.specs.declared.points.Point.{Point}
use Rattle.grid.specs.declared.points.Kind.{Kind}
use Rattle.grid.proofs.Spaced.{spacing_positive}
use Rattle.grid.proofs.Parity.{kind_corner, Sort, east_west, north_south, rising, falling, sort}
use Rattle.grid.proofs.Room.{Reach, Reached, room}
use Rattle.grid.proofs.Members.{all, each_in}

-- each point of a list has a lower place than the next
abbrev pub InOrder : ℕ → List Point → Type 0
InOrder m [] = Unit {0}
InOrder m (p ∷ []) = Unit {0}
InOrder m (p ∷ q ∷ l) = (place m p < place m q) × InOrder m (q ∷ l)

-- so each has a lower place than any after it: no point is listed twice
pub rising_after : (m : ℕ) (p : Point) {q : Point} (l : List Point) → InOrder m (p ∷ l) → Memᴰ q l → place m p < place m q
rising_after m p [] h i = absurd (Memᴰ.not-nil i)
rising_after m p (r ∷ l) h i =
    ⊎_elim (λ e. rw e h.0) (λ k. omega (arith, h.0, rising_after m r l h.1 k)) (Memᴰ.cases_cons i)

-- the numbers v of a list's entries rise, from i on and below j
data Span {A : Type 0} (v : A → ℕ) : ℕ → List A → ℕ → Type 0 where
  none : {i j : ℕ} → i ≤ j → Span v i [] j
  next : {i j : ℕ} {a : A} {l : List A} → i ≤ v a → Span v (suc (v a)) l j → Span v i (a ∷ l) j

module _ {A : Type 0} {v : A → ℕ} where
  span_from : {i j k : ℕ} {l : List A} → i ≤ j → Span v j l k → Span v i l k
  span_from h (none g) = none (le_trans h g)
  span_from h (next g t) = next (le_trans h g) t

  span_join : {i j k : ℕ} {l r : List A} → Span v i l j → Span v j r k → Span v i (l ++ r) k
  span_join (none g) u = span_from g u
  span_join (next g t) u = next g (span_join t u)

  span_ends : {i j : ℕ} {l : List A} → Span v i l j → i ≤ j
  span_ends (none g) = g
  span_ends (next g t) = omega (arith, span_ends t)

  span_in : {i j : ℕ} {l : List A} {a : A} → Span v i l j → Memᴰ a l → v a < j
  span_in (none g) k = absurd (Memᴰ.not-nil k)
  span_in (next g t) k = ⊎_elim (λ e. rw e (span_ends t)) (λ r. span_in t r) (Memᴰ.cases_cons k)

chosen : {i j c : ℕ} (t : Bool) → i ≤ j → (t ≡ true → (i ≤ c) × (c < j)) → Span (λ n. n) i (cond t (c ∷ []) []) j
chosen true l h = next (h refl).0 (none (h refl).1)
chosen false l h = none l

-- the numbers near c rise, from 0 to n
near_span : (n s c : ℕ) → 0 < s → c ≤ n → Span (λ k. k) 0 (near n s c) (suc n)
near_span n s c pos l =
    span_join {j = c} (chosen (leb s c) (omega arith) (λ e. omega (arith, leb-true s c e)))
    (chosen (leb (c + s) n) (omega arith) (λ e. omega (arith, leb-true (c + s) n e)))

-- at most two numbers are near, so one point for each is at most two
near_count : (laid_at : ℕ → Point) (n s c : ℕ) → length (each (λ a. laid_at a ∷ []) (near n s c)) ≤ 2
near_count laid_at n s c = go (leb s c) (leb (c + s) n)
  where
    go : (t u : Bool) → length (each (λ a. laid_at a ∷ []) (cond t ((c - s) ∷ []) [] ++ cond u ((c + s) ∷ []) [])) ≤ 2
    go true true = omega arith
    go true false = omega arith
    go false true = omega arith
    go false false = omega arith

module _ (m : ℕ) where
  -- a lower row has a lower place
  pub place_rows : (a b c d : ℕ) → a ≤ side m → b < d → place m (at a b) < place m (at c d)
  unfolding place
  place_rows a b c d l h = omega (arith, mul-le-mul_right (side m + 1) h, suc-mul b (side m + 1))

  -- in a row, a lower column has a lower place
  pub place_columns : (a c b : ℕ) → a < c → place m (at a b) < place m (at c b)
  unfolding place
  place_columns a c b h = omega arith

  span_rising : {i j : ℕ} {l : List Point} → Span (place m) i l j → InOrder m l
  span_rising (none g) = tt
  span_rising (next g (none f)) = tt
  span_rising (next g (next f t)) = (f, span_rising (next f t))

  -- lists that rise, one from each lo c to the next, rise for numbers that rise
  each_span : {i j : ℕ} {cs : List ℕ} (lo : ℕ → ℕ) (f : ℕ → List Point) → ((a c : ℕ) → a ≤ c → lo a ≤ lo c) →
      ((c : ℕ) → Span (place m) (lo c) (f c) (lo (suc c))) → Span (λ k. k) i cs j → Span (place m) (lo i) (each f cs) (lo j)
  each_span lo f up each_c (none g) = none (up _ _ g)
  each_span lo f up each_c (next g t) = span_join (span_from (up _ _ g) (each_c _)) (each_span lo f up each_c t)

  module _ (s : ℕ) (pos : 0 < s) where
    row_span : (b x : ℕ) → x ≤ side m → Span (place m) (b * (side m + 1)) (in_line false b (near (side m) s x)) (suc b * (side m + 1))
    unfolding place
    row_span b x l =
        let w : b * (side m + 1) + suc (side m) ≡ suc b * (side m + 1) = omega (arith, suc-mul b (side m + 1)) in
        rw (← w) (span_from (omega arith)
        (each_span (λ a. b * (side m + 1) + a) (λ a. at a b ∷ []) (λ a c h. omega arith)
        (λ a. next (omega arith) (none (omega arith))) (near_span (side m) s x pos l)))

    rows_rising : (f : ℕ → List Point) → ((b : ℕ) → Span (place m) (b * (side m + 1)) (f b) (suc b * (side m + 1))) →
        (y : ℕ) → y ≤ side m → InOrder m (each f (near (side m) s y))
    rows_rising f each_b y l =
        span_rising (each_span (λ b. b * (side m + 1)) f (λ a c h. mul-le-mul_right (side m + 1) h) each_b (near_span (side m) s y pos l))

    line_rising : (turned : Bool) (b c : ℕ) → b ≤ side m → c ≤ side m → InOrder m (in_line turned b (near (side m) s c))
    unfolding place
    line_rising false b c k l = span_rising (row_span b c l)
    line_rising true b c k l =
        rows_rising (λ a. at b a ∷ []) (λ a. next (omega arith) (none (omega (arith, suc-mul a (side m + 1))))) c l

    crossing_rising : (x y : ℕ) → x ≤ side m → y ≤ side m → InOrder m (crossing (side m) s x y)
    crossing_rising x y k l = rows_rising (λ b. in_line false b (near (side m) s x)) (λ b. row_span b x k) y l

    crossing_inside : (x y : ℕ) → x ≤ side m → y ≤ side m → (q : Point) → Memᴰ q (crossing (side m) s x y) → Inside m q
    crossing_inside x y k l q i =
        let r = each_in (λ b. in_line false b (near (side m) s x)) (near (side m) s y) i in
        let t = each_in (λ a. at a r.0 ∷ []) (near (side m) s x) r.2 in
        let ey : r.0 < suc (side m) = span_in (near_span (side m) s y pos l) r.1 in
        let ex : t.0 < suc (side m) = span_in (near_span (side m) s x pos k) t.1 in
        rw (Memᴰ.eq_of_singleton t.2) (record { east = omega arith; north = omega arith })

    diagonal_rises : (t : Bool) (x y : ℕ) → Reach (side m) s x → Reach (side m) s y →
        place m (diagonal t s x y).first < place m (diagonal t s x y).second
    diagonal_rises true x y r q = place_rows (x - s) (y - s) (x + s) (y + s) (omega arith) (omega arith)
    diagonal_rises false x y r q = place_rows (x + s) (y - s) (x - s) (y + s) (omega arith) (omega arith)

-- in line: one at least where n is 2s or more, and two at most
line_count : (turned : Bool) (b n s c : ℕ) → s + s ≤ n →
    (1 ≤ length (in_line turned b (near n s c))) × (length (in_line turned b (near n s c)) ≤ 2)
line_count turned b n s c h = (go (leb s c) (leb (c + s) n) refl refl, near_count (λ a. laid turned a b) n s c)
  where
    go : (t u : Bool) → leb s c ≡ t → leb (c + s) n ≡ u → 1 ≤ length (in_line turned b (cond t ((c - s) ∷ []) [] ++ cond u ((c + s) ∷ []) []))
    go true u e f = omega arith
    go false true e f = omega arith
    go false false e f = absurd (omega (arith, leb-false s c e, leb-false (c + s) n f))

-- two rows of two at most
crossing_count : (n s x y : ℕ) → length (crossing n s x y) ≤ 4
crossing_count n s x y = go (leb s y) (leb (y + s) n)
  where
    two : (b : ℕ) → length (in_line false b (near n s x)) ≤ 2
    two b = near_count (λ a. at a b) n s x

    go : (t u : Bool) → length (each (λ b. in_line false b (near n s x)) (cond t ((y - s) ∷ []) [] ++ cond u ((y + s) ∷ []) [])) ≤ 4
    go true true = simp length-append (omega (arith, two (y - s), two (y + s)))
    go true false = simp length-append (omega (arith, two (y - s)))
    go false true = simp length-append (omega (arith, two (y + s)))
    go false false = omega arith

module _ (m : ℕ) (p : Point) (h : Inside m p) where
  abbrev s : ℕ
  s = spacing m p

  abbrev Across : Type 0
  Across = Reach (side m) s p.x

  abbrev Up : Type 0
  Up = Reach (side m) s p.y

  pos : 0 < spacing m p
  pos = spacing_positive m p

  -- what holds of each kind, given what it reaches, holds of a point's kind
  by_kind : (P : Kind → Type 0) → (is_corner m p ≡ true → P Kind.Corner) → (Across → P Kind.EastWest) → (Up → P Kind.NorthSouth) →
      (Across → Up → P Kind.Rising × P Kind.Falling) → P (kind m p)
  by_kind P corner row column centre = go (is_corner m p) refl
    where
      by : Sort m p → Reached (kind m p) (side m) s p.x p.y → P (kind m p)
      by (east_west k oa eb) r = rw k (row (rw k at r))
      by (north_south k ea ob) r = rw k (column (rw k at r))
      by (rising k oa ob e) r = let t = rw k at r in rw k (centre t.0 t.1).0
      by (falling k oa ob e) r = let t = rw k at r in rw k (centre t.0 t.1).1

      go : (t : Bool) → is_corner m p ≡ t → P (kind m p)
      go true e = rw (kind_corner m p e) (corner e)
      go false e = by (sort m p h e) (room m p h)

  -- the dependents are none, those crossing or those beside
  dependents_by_lem : (P : List Point → Type 0) → P [] → ((d : ℕ) → 0 < d → P (crossing (side m) d p.x p.y)) →
      (Across → Up → P (beside s p.x p.y)) → P (dependents m p)
  unfolding dependents
  dependents_by_lem P nothing cross four =
      let edge = go (eqb s 1) refl in
      by_kind (λ k. P (dependents_by k (side m) s p.x p.y)) (λ _. nothing) (λ _. edge) (λ _. edge) (λ r t. (four r t, four r t))
    where
      half : (d : ℕ) → 0 < d → (d ≡ 1 → ⊥) → 0 < d / 2
      half d l other = omega arith

      go : (t : Bool) → eqb s 1 ≡ t → P (cond t [] (crossing (side m) (s / 2) p.x p.y))
      go true e = nothing
      go false e = cross (s / 2) (half s pos (eqb-false s 1 e))

  -- what a point depends on is listed by rising place
  pub depends_rising : InOrder m (depends_on m p)
  unfolding depends_on
  depends_rising =
      by_kind (λ k. InOrder m (depends_by k (side m) s p.x p.y)) (λ _. tt)
      (λ _. line_rising m s pos true p.x p.y h.east h.north) (λ _. line_rising m s pos false p.y p.x h.north h.east)
      (λ r t. ((diagonal_rises m s pos false p.x p.y r t, tt), (diagonal_rises m s pos true p.x p.y r t, tt)))

  -- the first end of a point has a lower place than the second
  pub ends_rising : is_corner m p ≡ false → place m (ends m p).first < place m (ends m p).second
  unfolding ends
  ends_rising inner =
      by_kind (λ k. let e = ends_by k s p.x p.y in place m e.first < place m e.second)
      (λ e. absurd (true≢false (sym e ∙ inner))) (λ r. place_columns m (p.x - s) (p.x + s) p.y (omega (arith, pos)))
      (λ r. place_rows m p.x (p.y - s) p.x (p.y + s) h.east (omega (arith, pos)))
      (λ r t. (diagonal_rises m s pos true p.x p.y r t, diagonal_rises m s pos false p.x p.y r t))

  -- the dependents of a point are listed by rising place
  pub dependents_rising : InOrder m (dependents m p)
  dependents_rising =
      dependents_by_lem (InOrder m) tt (λ d l. crossing_rising m d l p.x p.y h.east h.north)
      (λ r t. (
        place_rows m p.x (p.y - s) (p.x - s) p.y h.east (omega (arith, pos)),
        (
          place_columns m (p.x - s) (p.x + s) p.y (omega (arith, pos)),
          (place_rows m (p.x + s) p.y p.x (p.y + s) r.1 (omega (arith, pos)), tt),
        ),
      ))

  all_inside : (q : Point) → Memᴰ q (dependents m p) → Inside m q
  all_inside q =
      dependents_by_lem (λ l. Memᴰ q l → Inside m q) (λ i. absurd (Memᴰ.not-nil i))
      (λ d l. crossing_inside m d l p.x p.y h.east h.north q)
      (λ r t. all (Inside m) (beside s p.x p.y) (omega arith))

  -- a point that is no grid corner depends on one point or two
  pub depends_count : is_corner m p ≡ false → (1 ≤ length (depends_on m p)) × (length (depends_on m p) ≤ 2)
  unfolding depends_on
  depends_count inner =
      by_kind (λ k. let l = depends_by k (side m) s p.x p.y in (1 ≤ length l) × (length l ≤ 2))
      (λ e. absurd (true≢false (sym e ∙ inner))) (λ r. line_count true p.x (side m) s p.y (omega arith))
      (λ r. line_count false p.y (side m) s p.x (omega arith)) (λ _ _. omega arith)

  -- a centre depends on two points
  pub depends_two : is_corner m p ≡ false → (units m p).across % 2 ≡ 1 → (units m p).up % 2 ≡ 1 → length (depends_on m p) ≡ 2
  unfolding depends_on
  depends_two inner oa ob = by (sort m p h inner)
    where
      by : Sort m p → length (depends_by (kind m p) (side m) s p.x p.y) ≡ 2
      by (east_west k _ e) = absurd (omega arith)
      by (north_south k e _) = absurd (omega arith)
      by (rising k _ _ _) = rw k
      by (falling k _ _ _) = rw k

  -- a point has four dependents at most
  pub dependents_count : length (dependents m p) ≤ 4
  dependents_count =
      dependents_by_lem (λ l. length l ≤ 4) (omega arith) (λ d _. crossing_count (side m) d p.x p.y) (λ _ _. omega arith)

-- the dependents of a point lie inside the square
pub dependents_inside : (m : ℕ) (p q : Point) → Inside m q → Memᴰ p (dependents m q) → Inside m p
dependents_inside m p q h = all_inside m q h p
