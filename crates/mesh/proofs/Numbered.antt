-- The triangles that cutting leaves are as many as the document counts, over any closed set: the first two, and one more for each
-- cut. Below a point that is not kept none is kept, so the cuts are those of the whole hierarchy at kept points: two at a point
-- inside, one on the border. Of any set they are at most 2N², and just so many where every sample is kept.
use mathlib.Core.Path.{◌≡◌, refl, sym, ap, ◌∙◌}
use mathlib.Core.Bool.{Bool, true, false, cond, not, ◌&&◌, ◌||◌, true≢false, and-true, and-false}
use mathlib.Core.List.{List, [], ◌∷◌, ◌++◌}
use Prim.Native.Nat.{ℕ, zero, suc, ◌+◌, ◌*◌, ◌^◌, ◌≤◌}
use native.Mathlib.Nat.{suc-mul, zero-mul, pow-suc}
use native.Mathlib.Omega.{arith}
use lib.ListN.{length, length-append}
use lib.Pow.{pow_pos}
use Rattle.grid.specs.Grid.{side, samples, at, place, point, entries, on_grid, midpoint}
use Rattle.grid.specs.Points.{outermost, is_corner}
use Rattle.grid.specs.Sizes.{size_of}
use Rattle.grid.specs.Hierarchy.{Triangle, first, second, first_half, second_half}
use Rattle.grid.specs.declared.points.Point.{Point}
use Rattle.grid.proofs.Cutting.{cut}
use Rattle.grid.proofs.Places.{point_place}
use Rattle.grid.proofs.Sums.{false_by}
use Rattle.grid.proofs.Turning.{square_side}
use Rattle.selection.specs.Marks.{count}
use Rattle.selection.specs.Rule.{Closed}
use Rattle.selection.proofs.Corners.{at_east}
use Rattle.mesh.specs.Triangles.{Three, written, uncut, mesh, kept_inside, kept_border, number}
use Rattle.mesh.specs.Inner.{sum}
use Rattle.mesh.proofs.Trapezoid.{sum_split, sum_add, area, touched, touched_sum, trapezoid}
use Rattle.mesh.proofs.Blocks.{all_cuts, cell, block}

-- a sum over the places is one over the rows, each over its columns
module _ (m : ℕ) (g : Point → ℕ) where
  row_sum : (b a i n : ℕ) → i ≡ b * (side m + 1) + a → a + n ≤ side m + 1 → b ≤ side m →
      sum (λ k. g (point m k)) i n ≡ sum (λ k. g (at k b)) a n
  unfolding place
  row_sum b a i zero e h l = refl
  row_sum b a i (suc n) e h l =
      let here : point m i ≡ at a b = ap (point m) e ∙ point_place m (at a b) (omega arith) in
      rw here (omega (arith, row_sum b (suc a) (suc i) n (omega arith) (omega arith) l))

  rows_sum : (b n : ℕ) → b + n ≤ side m + 1 →
      sum (λ k. g (point m k)) (b * (side m + 1)) (n * (side m + 1)) ≡ sum (λ c. sum (λ a. g (at a c)) 0 (side m + 1)) b n
  rows_sum b zero h = rw (zero-mul (side m + 1))
  rows_sum b (suc n) h =
      let e : suc n * (side m + 1) ≡ (side m + 1) + n * (side m + 1) = omega (arith, suc-mul n (side m + 1)) in
      let split = rw (← suc-mul b (side m + 1)) at (sum_split (λ k. g (point m k)) (b * (side m + 1)) (side m + 1) (n * (side m + 1))) in
      rw e (omega (
        arith,
        split,
        row_sum b 0 (b * (side m + 1)) (side m + 1) (omega arith) (omega arith) (omega arith),
        rows_sum (suc b) n (omega arith),
      ))

  places_sum : sum (λ k. g (point m k)) 0 (samples m) ≡ sum (λ b. sum (λ a. g (at a b)) 0 (side m + 1)) 0 (side m + 1)
  places_sum = rw zero-mul at (rows_sum 0 (side m + 1) (omega arith))

-- cut or uncut: so many triangles
length_either : (t : Bool) (ts us : List Three) (w : Three) → length (cond t (ts ++ us) (w ∷ [])) ≡ cond t (length ts + length us) 1
length_either true ts us w = length-append ts us
length_either false ts us w = refl

-- by the three tests: twice the document's count of a point is what the cells around it see of it
counted : (kept out_x out_y : Bool) →
    2 * (2 * cond (kept && not (out_x || out_y)) 1 0 + cond (kept && ((out_x || out_y) && not (out_x && out_y))) 1 0)
    ≡ touched out_y (touched out_x (cond (kept && not (out_x && out_y)) 1 0))
counted false true true = refl
counted false true false = refl
counted false false true = refl
counted false false false = refl
counted true true true = refl
counted true true false = refl
counted true false true = refl
counted true false false = refl

module _ (m : ℕ) (kept : Point → Bool) where
  -- 1 at a kept point that is no grid corner: at grid corners nothing is cut
  abbrev one : Point → ℕ
  one p = cond (kept p && not (is_corner m p)) 1 0

  one_kept : {p : Point} {t : Bool} → is_corner m p ≡ false → kept p ≡ t → one p ≡ cond t 1 0
  one_kept {t = t} e f = rw (e, f, and-true t)

  -- a point once for each cell around it: four inside, two on the border
  abbrev shared : Point → ℕ
  shared p = touched (outermost m p.y) (touched (outermost m p.x) (one p))

  shared_counted : (p : ℕ → Point) (i n : ℕ) →
      2 * (2 * count (kept_inside m kept) (entries p i n) + count (kept_border m kept) (entries p i n)) ≡ sum (λ c. shared (p c)) i n
  unfolding is_corner
  shared_counted p i zero = refl
  shared_counted p i (suc n) =
      omega (arith, shared_counted p (suc i) n, counted (kept (p i)) (outermost m (p i).x) (outermost m (p i).y))

  -- so over all cells, by both axes
  cells : area (cell one) 0 0 (side m) ≡ sum (λ b. sum (λ a. shared (at a b)) 0 (side m + 1)) 0 (side m + 1)
  cells =
      ap (λ (g : ℕ → ℕ). sum g 0 (side m)) (λ i b. pairs b i)
      ∙ trapezoid m row
      ∙ ap (λ (g : ℕ → ℕ). sum g 0 (side m + 1))
      (λ i b. touched_sum (outermost m b) (λ a. touched (outermost m a) (one (at a b))) 0 (side m + 1) i)
    where
      row : ℕ → ℕ
      row b = sum (λ a. touched (outermost m a) (one (at a b))) 0 (side m + 1)

      pairs : (b : ℕ) → sum (λ a. cell one a b) 0 (side m) ≡ row b + row (suc b)
      pairs b =
          sum_add (λ a. one (at a b) + one (at (suc a) b)) (λ a. one (at a (suc b)) + one (at (suc a) (suc b))) 0 (side m)
          ∙ (λ i. trapezoid m (λ a. one (at a b)) i + trapezoid m (λ a. one (at a (suc b))) i)

  corner_none : (x y : ℕ) → outermost m x ≡ true → outermost m y ≡ true → one (at x y) ≡ 0
  unfolding is_corner
  corner_none x y e f = rw (e, f, and-false (kept (at x y)))

  module _ (c : Closed m (λ p. kept p ≡ true)) where
    -- below an apex that is not kept nothing is
    none_below : (k : ℕ) {l a r : Point} → Triangle m k l a r → kept a ≡ false → all_cuts one k l a r ≡ 0
    none_below zero t e = refl
    none_below (suc k) {l} {a} {r} t e =
        let u = cut t in
        let n : kept (midpoint l r) ≡ false = false_by _ (λ h. true≢false (sym (c.depends _ _ u.inside h u.apex) ∙ e)) in
        let none = one_kept u.inner n in
        omega (arith, none_below k (first_half t) n, none_below k (second_half t) n)

    -- one triangle more for each cut
    uncut_number : (k cuts : ℕ) {l a r : Point} → Triangle m k l a r → length (uncut kept k cuts l a r) ≡ 1 + all_cuts one k l a r
    unfolding uncut
    uncut_number zero cuts t = refl
    uncut_number (suc k) cuts {l} {a} {r} t =
        rw (length_either, uncut_number k (suc cuts) (first_half t), uncut_number k (suc cuts) (second_half t)) (by (kept (midpoint l r)) refl)
      where
        by : (now : Bool) → kept (midpoint l r) ≡ now →
            cond now ((1 + all_cuts one k l (midpoint l r) a) + (1 + all_cuts one k a (midpoint l r) r)) 1 ≡ 1 + all_cuts one (suc k) l a r
        by true e = omega (arith, one_kept (cut t).inner e)
        by false e = omega (arith, one_kept (cut t).inner e, none_below k (first_half t) e, none_below k (second_half t) e)

pub number_triangles : (m : ℕ) (kept : Point → Bool) → Closed m (λ p. kept p ≡ true) → length (mesh m kept) ≡ number m kept
unfolding mesh number on_grid
number_triangles m kept c =
    let n = side m in
    omega (
      arith,
      length-append (uncut kept (2 * m) 0 (at 0 0) (at n 0) (at n n)) (uncut kept (2 * m) 0 (at n n) (at 0 n) (at 0 0)),
      uncut_number m kept c (2 * m) 0 first,
      uncut_number m kept c (2 * m) 0 second,
      (block (one m kept) m 0 n 0 n (omega arith) (omega arith)).rising,
      corner_none m kept 0 0 refl refl,
      corner_none m kept n 0 (at_east m) refl,
      corner_none m kept n n (at_east m) (at_east m),
      corner_none m kept 0 n refl (at_east m),
      cells m kept,
      places_sum m (shared m kept),
      shared_counted m kept (point m) 0 (samples m),
    )

-- a triangle with k cuts left leads to at most 2^k
uncut_most : (kept : Point → Bool) (k cuts : ℕ) (l a r : Point) → length (uncut kept k cuts l a r) ≤ 2 ^ k
unfolding uncut
uncut_most kept zero cuts l a r = omega arith
uncut_most kept (suc k) cuts l a r =
    let c = midpoint l r in
    rw (length_either (kept c) (uncut kept k (suc cuts) l c a) (uncut kept k (suc cuts) a c r) (written cuts l a r))
    (by (kept c) (omega (arith, uncut_most kept k (suc cuts) l c a, uncut_most kept k (suc cuts) a c r, pow-suc 2 k)))
  where
    by : (t : Bool) {n : ℕ} → n ≤ 2 ^ suc k → cond t n 1 ≤ 2 ^ suc k
    by true h = h
    by false h = omega (arith, pow_pos (suc k))

-- and to just so many where every sample is kept
uncut_full : (k cuts : ℕ) (l a r : Point) → length (uncut (λ p. true) k cuts l a r) ≡ 2 ^ k
unfolding uncut
uncut_full zero cuts l a r = refl
uncut_full (suc k) cuts l a r =
    let c = midpoint l r in
    omega (
      arith,
      length-append (uncut (λ p. true) k (suc cuts) l c a) (uncut (λ p. true) k (suc cuts) a c r),
      uncut_full k (suc cuts) l c a,
      uncut_full k (suc cuts) a c r,
      pow-suc 2 k,
    )

module _ (m : ℕ) where
  abbrev both_long : (Point → Bool) → ℕ
  both_long kept =
      length (uncut kept (2 * m) 0 (at 0 0) (at (side m) 0) (at (side m) (side m)))
      + length (uncut kept (2 * m) 0 (at (side m) (side m)) (at 0 (side m)) (at 0 0))

  both_long_lem : (kept : Point → Bool) → length (mesh m kept) ≡ both_long kept
  unfolding mesh
  both_long_lem kept = length-append (uncut kept (2 * m) 0 (at 0 0) (at (side m) 0) (at (side m) (side m))) _

  -- the most triangles are 2N²
  pub mesh_most : (kept : Point → Bool) → length (mesh m kept) ≤ (size_of m).triangles
  mesh_most kept = omega (arith, both_long_lem kept, uncut_most kept (2 * m) 0 (at 0 0) (at (side m) 0) (at (side m) (side m)), uncut_most kept (2 * m) 0 (at (side m) (side m)) (at 0 (side m)) (at 0 0), square_side m)

  pub mesh_full : length (mesh m (λ p. true)) ≡ (size_of m).triangles
  mesh_full = omega (arith, both_long_lem (λ p. true), uncut_full (2 * m) 0 (at 0 0) (at (side m) 0) (at (side m) (side m)), uncut_full (2 * m) 0 (at (side m) (side m)) (at 0 (side m)) (at 0 0), square_side m)
