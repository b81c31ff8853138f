-- The number of triangles, counted row by row: in an outermost row each kept point between the two ends adds 1; in another it adds 2,
-- and the ends 1 each.
use mathlib.Core.Path.{◌≡◌, refl, sym, ap, ◌∙◌}
use mathlib.Core.Bool.{Bool, true, false, cond, not, ◌&&◌, ◌||◌}
use mathlib.Core.List.{List}
use Prim.Native.Nat.{ℕ, zero, suc, ◌+◌, ◌-◌, ◌*◌, ◌≤◌, ◌<◌}
use native.Mathlib.Nat.{zero-add, zero-mul, one-mul, suc-mul, add-mul, mul-le-mul_right}
use native.Mathlib.Decide.{dec_lt}
use native.Mathlib.Omega.{arith}
use lib.ListN.{length, get_or, take, drop}
use Rattle.std.proofs.lemmas.List.Sums.{sum_by-cons}
use lib.Seq.{drop-cons}
use Rattle.std.specs.List.{count_by}
use Rattle.grid.specs.Inner.{keeps}
use Rattle.grid.specs.Mark.{left_out}
use Rattle.mesh.proofs.Every.{slice}
use lib.Pow.{pow_pos}
use Rattle.grid.specs.Grid.{side, samples, largest, widest, at, place, point, entries, on_grid}
use Rattle.grid.specs.Points.{outermost, is_corner}
use Rattle.grid.specs.declared.points.Point.{Point}
use Rattle.grid.specs.declared.Grid.{Grid}
use Rattle.grid.proofs.Places.{side_small, samples_small, point_place}
use Rattle.selection.specs.Marks.{count}
use Rattle.selection.proofs.Corners.{at_east}
use Rattle.selection.proofs.Counts.{one_most}
use Rattle.mesh.specs.Triangles.{kept_inside, kept_border, number}
use Rattle.mesh.specs.Closed.{kept_by}
use Rattle.mesh.specs.Inner.{Plain, kept_place, kept_once, kept_from, kept_between_ends, sum}
use Rattle.mesh.proofs.Trapezoid.{sum_split, touched, touched_sum, not_outermost}

-- by the three tests: a kept point adds 1 for each way in which it is not outermost
tests : (kept out_x out_y : Bool) →
    2 * cond (kept && not (out_x || out_y)) 1 0 + cond (kept && ((out_x || out_y) && not (out_x && out_y))) 1 0
    ≡ cond out_x 0 (cond kept 1 0) + cond out_y 0 (cond kept 1 0)
tests false true true = refl
tests false true false = refl
tests false false true = refl
tests false false false = refl
tests true true true = refl
tests true true false = refl
tests true false true = refl
tests true false false = refl

twice : (t : Bool) (n : ℕ) → n + cond t 0 n ≡ touched t n
twice true n = omega arith
twice false n = refl

-- a row but for its east end: the west end and those between
pub kept_west : (marks : List ℕ) (at n : ℕ) → 0 < n → kept_from marks at n ≡ kept_once marks at + kept_between_ends marks at n
kept_west marks at zero some = absurd (omega arith)
kept_west marks at (suc n) some =
    let one : suc at ≡ at + 1 = omega arith in
    let less : n ≡ suc n - 1 = omega arith in
    λ i. kept_once marks at + kept_from marks (one i) (less i)

-- one mark after the other, by the one test
module _ (marks : List ℕ) (plain : Plain marks) where
  kept_in : (from n : ℕ) → from + n ≤ length marks → count_by keeps (take n (drop from marks)) ≡ kept_from marks from n
  kept_in from zero room = refl
  kept_in from (suc n) room =
      ap (λ l. count_by keeps (take (suc n) l)) (drop-cons marks from left_out (omega arith))
      ∙ sum_by-cons (λ mark. cond (keeps mark) 1 0) (get_or marks from left_out) (take n (drop (suc from) marks))
      ∙ (λ i. cond (plain from i) 1 0 + kept_in (suc from) n (omega arith) i)

  pub kept_there : {r : ℕ} (i : ℕ) {j : ℕ} → j ≡ i → r ≡ cond (keeps (get_or marks j left_out)) 1 0 → r ≡ kept_once marks i
  kept_there i {j} e told = told ∙ ap (λ (t : Bool). cond t 1 0) (plain j) ∙ ap (kept_once marks) e

  pub kept_slice : {r : ℕ} (from to n : ℕ) → to ≤ length marks → from + n ≡ to → r ≡ count_by keeps (slice from to marks) → r ≡ kept_from marks from n
  kept_slice from to n room e told =
      let long : to - from ≡ n = omega arith in told ∙ kept_in from (to - from) (omega arith) ∙ ap (kept_from marks from) long

  -- so told, a row but for its east end
  pub row_told : (m i : ℕ) {n k : ℕ} → n ≡ side m → i + side m < length marks → k ≡ count_by keeps (slice i (i + n) marks) →
      k ≡ kept_once marks i + kept_between_ends marks i (side m)
  row_told m i {n} sided room told = kept_slice i (i + n) (side m) (omega arith) (omega arith) told ∙ kept_west marks i (side m) (pow_pos m)

pub kept_most : (marks : List ℕ) (i n : ℕ) → kept_from marks i n ≤ n
kept_most marks i zero = omega arith
kept_most marks i (suc n) = omega (arith, kept_most marks (suc i) n, one_most (kept_place marks i) refl)

module _ (m : ℕ) (marks : List ℕ) where
  abbrev kept : Point → Bool
  kept = kept_by m marks

  -- what the point at a place adds
  abbrev pub adds : ℕ → ℕ
  adds i = 2 * cond (kept_inside m kept (point m i)) 1 0 + cond (kept_border m kept (point m i)) 1 0

  counts : (p : ℕ → Point) (i n : ℕ) →
      2 * count (kept_inside m kept) (entries p i n) + count (kept_border m kept) (entries p i n)
      ≡ sum (λ k. 2 * cond (kept_inside m kept (p k)) 1 0 + cond (kept_border m kept (p k)) 1 0) i n
  counts p i zero = refl
  counts p i (suc n) = omega (arith, counts p (suc i) n)

  number_sum : number m kept ≡ 2 + sum adds 0 (samples m)
  unfolding number on_grid
  number_sum = omega (arith, counts (point m) 0 (samples m))

  -- in row b
  module _ (b : ℕ) (l : b ≤ side m) where
    abbrev outer : Bool
    outer = outermost m b

    adds_at : (a : ℕ) {i : ℕ} → i ≡ b * (side m + 1) + a → a ≤ side m →
        adds i ≡ cond (outermost m a) 0 (kept_once marks i) + cond outer 0 (kept_once marks i)
    unfolding is_corner place
    adds_at a {i} e h =
        let here : point m i ≡ at a b = ap (point m) e ∙ point_place m (at a b) (omega arith) in
        rw (here, ← e) (tests (kept_place marks i) (outermost m a) outer)

    adds_between : (a i n : ℕ) → i ≡ b * (side m + 1) + a → 0 < a → a + n ≤ side m →
        sum adds i n ≡ sum (λ k. touched outer (kept_once marks k)) i n
    adds_between a i zero e p h = refl
    adds_between a i (suc n) e p h =
        let here = rw (not_outermost m a p (omega arith)) at (adds_at a e (omega arith)) in
        omega (arith, here, twice outer (kept_once marks i), adds_between (suc a) (suc i) n (omega arith) (omega arith) (omega arith))

    row_adds : {i : ℕ} → i ≡ b * (side m + 1) →
        sum adds i (side m + 1)
        ≡ cond outer 0 (kept_once marks i) + touched outer (kept_between_ends marks i (side m)) + cond outer 0 (kept_once marks (i + side m))
    row_adds {i} e =
        let n = side m - 1 in
        let long : side m + 1 ≡ 1 + (n + 1) = omega (arith, pow_pos m) in
        let last : i + 1 + n ≡ i + side m = omega (arith, pow_pos m) in
        let split : sum adds i (side m + 1) ≡ adds i + (sum adds (i + 1) n + adds (i + side m)) =
        ap (sum adds i) long ∙ sum_split adds i 1 (n + 1) ∙ omega (arith, sum_split adds (i + 1) n 1, ap adds last) in
        let west = adds_at 0 {i = i} (omega arith) (omega arith) in
        let east = rw (at_east m) at (adds_at (side m) {i = i + side m} (omega arith) (omega arith)) in
        let middle = adds_between 1 (i + 1) n (omega arith) (omega arith) (omega (arith, pow_pos m)) in
        omega (arith, split, west, east, middle, touched_sum outer (kept_once marks) (i + 1) n)

-- the rows below b, and the northmost row, are counted
pub record Counted (m : ℕ) (marks : List ℕ) (at triangles : ℕ) : Type 0 where
  pub row : ℕ
  pub from : at ≡ row * (side m + 1)
  pub first : 0 < row
  pub last : row ≤ side m
  pub so : triangles ≡ 2 + sum (adds m marks) 0 at + kept_between_ends marks (side m * (side m + 1)) (side m)

adds_most : (m : ℕ) (marks : List ℕ) (i n : ℕ) → sum (adds m marks) i n ≤ 3 * n
adds_most m marks i zero = omega arith
adds_most m marks i (suc n) =
    let p = point m i in
    let two = one_most (kept_inside m (kept_by m marks) p) refl in
    let one = one_most (kept_border m (kept_by m marks) p) refl in
    omega (arith, adds_most m marks (suc i) n)

-- one row more than the northmost's place
rows : (m : ℕ) → samples m ≡ side m * (side m + 1) + (side m + 1)
rows m = omega (arith, add-mul (side m) 1 (side m + 1), one-mul (side m + 1))

module _ (marks : List ℕ) (at n : ℕ) (wide : n ≤ widest) where
  pub ends_most_lem : {k : ℕ} → k ≡ kept_between_ends marks at n → k ≤ widest
  ends_most_lem e = omega (arith, kept_most marks (at + 1) (n - 1))

  pub row_most_lem : {west east k : ℕ} → west ≡ kept_once marks at → east ≡ kept_once marks (at + n) → k ≡ kept_between_ends marks at n →
      west + east + 2 * k ≤ 2 + 2 * widest
  row_most_lem ew ee ek = omega (arith, one_most (kept_place marks at) ew, one_most (kept_place marks (at + n)) ee, ends_most_lem ek)

-- as the code asks, with its own N
pub grid_small : (g : Grid) → (g.side ≤ widest) × (g.side * (g.side + 1) ≤ samples largest)
grid_small g = rw g.sound.sided (side_small g.sound.small, omega (arith, rows g.m, samples_small g.sound.small))

module _ (marks : List ℕ) (at m : ℕ) (small : m ≤ largest) where
  pub ends_most : {k : ℕ} → k ≡ kept_between_ends marks at (side m) → k ≤ widest
  ends_most = ends_most_lem marks at (side m) (side_small small)

  pub row_most : {west east k : ℕ} → west ≡ kept_once marks at → east ≡ kept_once marks (at + side m) → k ≡ kept_between_ends marks at (side m) →
      west + east + 2 * k ≤ 2 + 2 * widest
  row_most = row_most_lem marks at (side m) (side_small small)

module _ (m : ℕ) (marks : List ℕ) where
  counted_first_lem : {at triangles south north : ℕ} → at ≡ side m + 1 → south ≡ kept_between_ends marks 0 (side m) →
      north ≡ kept_between_ends marks (side m * (side m + 1)) (side m) → triangles ≡ 2 + south + north → Counted m marks at triangles
  counted_first_lem e es en et =
      let row = row_adds m marks 0 (omega arith) {i = 0} (sym (zero-mul (side m + 1))) in
      record {
        row = 1;
        from = e ∙ sym (one-mul (side m + 1));
        first = omega arith;
        last = pow_pos m;
        so = rw e (omega (arith, row));
      }

  module _ {at triangles : ℕ} (c : Counted m marks at triangles) where
    inner : at < side m * (side m + 1) → c.row < side m
    inner l = by (dec_lt c.row (side m))
      where
        by : Dec (c.row < side m) → c.row < side m
        by (yes h) = h
        by (no h) =
            let far : side m * (side m + 1) ≤ c.row * (side m + 1) = mul-le-mul_right (side m + 1) (omega arith) in absurd (omega (arith, c.from))

    more : (n : ℕ) → sum (adds m marks) 0 (at + n) ≡ sum (adds m marks) 0 at + sum (adds m marks) at n
    more n = rw zero-add at (sum_split (adds m marks) 0 at n)

    counted_next_lem : at < side m * (side m + 1) → {r : ℕ} →
        r ≡ kept_once marks at + kept_once marks (at + side m) + 2 * kept_between_ends marks at (side m) →
        Counted m marks (at + (side m + 1)) (triangles + r)
    counted_next_lem l e =
        let row = rw (not_outermost m c.row c.first (inner l)) at (row_adds m marks c.row c.last c.from) in
        record {
          row = suc c.row;
          from = omega (arith, c.from, suc-mul c.row (side m + 1));
          first = omega arith;
          last = inner l;
          so = omega (arith, c.so, row, more (side m + 1));
        }

    counted_last_lem : side m * (side m + 1) ≤ at → triangles ≡ number m (kept_by m marks)
    counted_last_lem l =
        let far : at ≤ side m * (side m + 1) = rw c.from (mul-le-mul_right (side m + 1) c.last) in
        let end : at ≡ side m * (side m + 1) = omega arith in
        let row = rw (at_east m) at (row_adds m marks (side m) (omega arith) end) in
        let all : at + (side m + 1) ≡ samples m = sym (rows m ∙ ap (λ (k : ℕ). k + (side m + 1)) (sym end)) in
        let so = rw (← end) at c.so in
        omega (arith, number_sum m marks, ap (sum (adds m marks) 0) all, more (side m + 1), row, so)

    counted_most_lem : at ≤ side m * (side m + 1) → triangles ≤ 2 + 4 * samples m
    counted_most_lem l =
        let most = kept_most marks (side m * (side m + 1) + 1) (side m - 1) in
        omega (arith, c.so, adds_most m marks 0 at, rows m, most)

-- the same, with n as the code has it for N
module _ (m : ℕ) (marks : List ℕ) {n : ℕ} (sided : n ≡ side m) where
  pub counted_first : {south north : ℕ} → south ≡ kept_between_ends marks 0 (side m) → north ≡ kept_between_ends marks (n * (n + 1)) (side m) →
      Counted m marks (n + 1) (2 + south + north)
  counted_first es en = counted_first_lem m marks (rw sided) es (rw sided at en) refl

  module _ {at triangles : ℕ} (c : Counted m marks at triangles) where
    pub counted_next : at < n * (n + 1) → {r : ℕ} →
        r ≡ kept_once marks at + kept_once marks (at + side m) + 2 * kept_between_ends marks at (side m) →
        Counted m marks (at + (n + 1)) (triangles + r)
    counted_next l e = rw sided (counted_next_lem m marks c (rw sided at l) e)

    pub counted_last : n * (n + 1) ≤ at → triangles ≡ number m (kept_by m marks)
    counted_last l = counted_last_lem m marks c (rw sided at l)

    pub counted_most : at ≤ n * (n + 1) → triangles ≤ 2 + 4 * samples m
    counted_most l = counted_most_lem m marks c (rw sided at l)
