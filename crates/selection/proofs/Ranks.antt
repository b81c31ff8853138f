-- From spacing to spacing: below each every rank is final, and when the last spacing is done every point is.
use Rattle.std.proofs.Common.{◌≡◌, ℕ, suc, ◌+◌, ◌*◌, ◌^◌, ◌<◌, ◌≤◌, Bool, true, false, List, get_or, ℤ, refl, ◌∙◌, arith, pow_mono}
use native.Mathlib.Decide.{dec_lt}
use lib.Pow.{pow-lt}
use Rattle.grid.specs.Grid.{Inside, place, on_grid}
use Rattle.grid.specs.Points.{is_corner}
use Rattle.grid.specs.Mark.{for_corner}
use Rattle.grid.specs.declared.points.Point.{Point}
use Rattle.grid.proofs.Units.{corner_rank}
use Rattle.selection.specs.Marks.{mark}
use Rattle.grid.specs.Inner.{Power}
use Rattle.selection.specs.Inner.{Spacing, Final, Swept, corner, finer, row, edge_rank, centre_rank}
use Rattle.selection.proofs.Final.{final_all}
use Rattle.selection.proofs.Sweeps.{levelled, spacing}

-- powers of two are in the order of their exponents
pub exponent_below : {j m : ℕ} → 2 ^ j < 2 ^ m → j < m
exponent_below {j} {m} l = by (dec_lt j m)
  where
    by : Dec (j < m) → j < m
    by (yes d) = d
    by (no d) = let far : 2 ^ m ≤ 2 ^ j = pow_mono (omega arith) in absurd (omega arith)

pub exponent_most : {j m : ℕ} → 2 ^ m ≤ 2 ^ j → m ≤ j
exponent_most {j} {m} l = by (dec_lt j m)
  where
    by : Dec (j < m) → m ≤ j
    by (yes d) = let less : 2 ^ j < 2 ^ m = pow-lt d in absurd (omega arith)
    by (no d) = omega arith

-- where the grid corners are marked, the first spacing may begin
pub spacings_begin : {m : ℕ} (survey : List ℤ) (over : Point → Bool) {marks : List ℕ} →
    Final m (λ p. for_corner) (λ p. is_corner m p ≡ true) marks → Final m (mark m survey over) (Swept m 0 0) marks
unfolding mark
spacings_begin {m} survey over {marks} corners = record { long = corners.long; right = λ p h d. go p h d }
  where
    go : (p : Point) → Inside m p → Swept m 0 0 p → get_or marks (place m p) 0 ≡ mark m survey over p
    go p h (corner e) = corners.right p h e ∙ rw e
    go p h (finer l) = absurd (omega arith)
    go p h (row e l) = absurd (omega arith)

-- below the spacing 2^k every rank is final
module _ {m k : ℕ} (l : k < m) where
  abbrev here : Power m (2 ^ k)
  here = record { exponent = k; power = refl; below = l }

  pub spaced : Spacing m (2 ^ k)
  spaced = spacing here

  pub edges_asked : {f : Point → ℕ} {marks : List ℕ} → Final m f (Swept m (2 * k) 0) marks → Final m f (Swept m (edge_rank m (2 ^ k)) 0) marks
  edges_asked final = rw (levelled here) final

  pub spacings_on : {f : Point → ℕ} {marks : List ℕ} → Final m f (Swept m (suc (centre_rank m (2 ^ k))) 0) marks → Final m f (Swept m (2 * (k + 1)) 0) marks
  spacings_on final =
      let e : suc (centre_rank m (2 ^ k)) ≡ 2 * (k + 1) = omega (arith, levelled here) in rw e at final

-- at N every point is
pub spacings_end : {m : ℕ} {f : Point → ℕ} {marks : List ℕ} → Final m f (Swept m (2 * m) 0) marks → marks ≡ on_grid m f
spacings_end {m} final = final_all final (λ p h. by p h (is_corner m p) refl)
  where
    by : (p : Point) → Inside m p → (t : Bool) → is_corner m p ≡ t → Swept m (2 * m) 0 p
    by p h true e = corner e
    by p h false e = finer (omega (arith, (corner_rank m p h).1 e))
