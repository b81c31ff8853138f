-- A grid corner is one of the four listed, so where none of the four is void no grid corner is.
use Rattle.std.proofs.Common.{◌≡◌, ℕ, zero, suc, ◌<◌, get_or, arith, true, false, eqb, ◌⊎◌, List, ℤ, sym, refl, ◌∙◌, inl, inr, true≢false, eq-eqb}
use mathlib.Core.Bool.{or-true}
use mathlib.Core.List.{Memᴰ}
use Rattle.grid.specs.Grid.{side, Inside, is_void}
use Rattle.grid.specs.Points.{is_corner, outermost}
use Rattle.grid.specs.declared.points.Point.{Point}
use Rattle.grid.proofs.Around.{same_point}
use Rattle.grid.proofs.Members.{all}
use Rattle.grid.proofs.Spaced.{corner_at}
use Rattle.grid.proofs.Sums.{false_by}
use Rattle.survey.specs.Filled.{sample, CornersSurveyed}
use Rattle.selection.specs.Selected.{corner_void}
use Rattle.grid.specs.Grid.{corners}
use Rattle.selection.proofs.Some.{some_in, in_some}

-- each of the four lies inside
pub corner_inside : (m k : ℕ) (p : Point) → k < 4 → p ≡ get_or (corners m) k p → Inside m p
corner_inside m zero p l e = rw e (record { east = omega arith; north = omega arith })
corner_inside m (suc zero) p l e = rw e (record { east = omega arith; north = omega arith })
corner_inside m (suc (suc zero)) p l e = rw e (record { east = omega arith; north = omega arith })
corner_inside m (suc (suc (suc zero))) p l e = rw e (record { east = omega arith; north = omega arith })
corner_inside m (suc (suc (suc (suc k)))) p l e = absurd (omega arith)

pub corner_index : (m : ℕ) (p : Point) → is_corner m p ≡ true → (k : ℕ) × (k < 4) × (p ≡ get_or (corners m) k p)
corner_index m p e = let c = corner_at m p e in by c.0 c.1
  where
    by : (p.x ≡ 0) ⊎ (p.x ≡ side m) → (p.y ≡ 0) ⊎ (p.y ≡ side m) → (k : ℕ) × (k < 4) × (p ≡ get_or (corners m) k p)
    by (inl a) (inl b) = (0, omega arith, same_point a b)
    by (inr a) (inl b) = (1, omega arith, same_point a b)
    by (inl a) (inr b) = (2, omega arith, same_point a b)
    by (inr a) (inr b) = (3, omega arith, same_point a b)

pub corner_in : (m : ℕ) (p : Point) → is_corner m p ≡ true → Memᴰ p (corners m)
corner_in m p e = let c = corner_at m p e in by c.0 c.1
  where
    by : (p.x ≡ 0) ⊎ (p.x ≡ side m) → (p.y ≡ 0) ⊎ (p.y ≡ side m) → Memᴰ p (corners m)
    by (inl a) (inl b) = Memᴰ.head (same_point a b)
    by (inr a) (inl b) = Memᴰ.tail (Memᴰ.head (same_point a b))
    by (inl a) (inr b) = Memᴰ.tail (Memᴰ.tail (Memᴰ.head (same_point a b)))
    by (inr a) (inr b) = Memᴰ.tail (Memᴰ.tail (Memᴰ.tail (Memᴰ.head (same_point a b))))

pub at_east : (m : ℕ) → outermost m (side m) ≡ true
at_east m = rw (eq-eqb (side m) (side m) refl) (or-true (eqb (side m) 0))

pub listed_corner : (m : ℕ) (p : Point) → Memᴰ p (corners m) → is_corner m p ≡ true
unfolding is_corner
listed_corner m p i =
    all (λ q. is_corner m q ≡ true) (corners m) (refl, (rw (at_east m), (rw (at_east m), (rw (at_east m), tt)))) i

pub corners_surveyed : (m : ℕ) (survey : List ℤ) → corner_void m survey ≡ false → CornersSurveyed m survey
unfolding corner_void
corners_surveyed m survey none p e =
    false_by (is_void (sample m survey p))
    (λ v. true≢false (sym (in_some (λ q. is_void (sample m survey q)) (corners m) (corner_in m p e) v) ∙ none))

-- and where one of the four is void a grid corner is
pub corners_void : (m : ℕ) (survey : List ℤ) → corner_void m survey ≡ true → ¬ (CornersSurveyed m survey)
unfolding corner_void
corners_void m survey e surveyed =
    let r = some_in (λ q. is_void (sample m survey q)) (corners m) e in
    true≢false (sym r.2 ∙ surveyed r.0 (listed_corner m r.0 r.1))
