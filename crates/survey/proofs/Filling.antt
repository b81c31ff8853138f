-- The height of a point: itself if surveyed, else the floor of the mean of its ends' heights, whatever number of ends in a
-- row the definition allows. Each step to an end falls towards the largest spacing, where an end is the grid corner itself.
use mathlib.Core.Path.{◌≡◌, refl, sym, ap, ◌∙◌}
use mathlib.Core.Bool.{Bool, true, false, true≢false, cond}
use mathlib.Core.List.{List}
use Prim.Native.Nat.{ℕ, zero, suc, ◌-◌, ◌≤◌, ◌<◌}
use native.Mathlib.Decide.{le_ind}
use native.Mathlib.Nat.{not-suc-le-zero}
use native.Mathlib.Omega.{arith}
use lib.IntN.{ℤ}
use Rattle.grid.specs.Grid.{is_void, Inside}
use Rattle.grid.specs.Points.{is_corner, level, ends, pair, Pair}
use Rattle.grid.specs.declared.points.Point.{Point}
use Rattle.grid.proofs.Spaced.{level_below, corner_level}
use Rattle.grid.proofs.Parity.{kind_corner}
use Rattle.grid.proofs.Coarser.{ends_coarser}
use Rattle.survey.specs.Filled.{floor_mean, sample, height_by, height_of, CornersSurveyed}
use Rattle.survey.specs.Inner.{depth}
use Rattle.survey.proofs.Mean.{mean_itself}

-- q lies inside and, where there is depth left, less deep than p
pub record Up (m : ℕ) (p q : Point) : Type 0 where
  pub inside : Inside m q
  pub less : depth m q ≤ depth m p - 1

corner_ends : (m : ℕ) (p : Point) → is_corner m p ≡ true → ends m p ≡ pair p p
unfolding ends
corner_ends m p e = rw (kind_corner m p e)

module _ (m : ℕ) (p : Point) (h : Inside m p) where
  ends_up_by : (t : Bool) → is_corner m p ≡ t → Up m p (ends m p).first × Up m p (ends m p).second
  ends_up_by true e =
      let same : Up m p p = record { inside = h; less = omega (arith, corner_level m p e) } in
      rw (corner_ends m p e) (same, same)
  ends_up_by false e =
      let c = ends_coarser m p h e in (
        record { inside = c.0.inside; less = omega (arith, c.0.higher) },
        record { inside = c.1.inside; less = omega (arith, c.1.higher) },
      )

  pub ends_up : Up m p (ends m p).first × Up m p (ends m p).second
  ends_up = ends_up_by (is_corner m p) refl

  -- no depth is left at a grid corner only
  pub depth_zero : depth m p ≤ 0 → is_corner m p ≡ true
  depth_zero l = go (is_corner m p) refl
    where
      go : (t : Bool) → is_corner m p ≡ t → is_corner m p ≡ true
      go true e = e
      go false e =
          let b : level m p.x p.y < m = level_below m p h e in
          let c : 1 ≤ 0 = omega arith in
          absurd (not-suc-le-zero c)

-- a void is no grid corner
pub void_inner : (m : ℕ) (survey : List ℤ) → CornersSurveyed m survey → (p : Point) → is_void (sample m survey p) ≡ true → is_corner m p ≡ false
void_inner m survey corners p v = go (is_corner m p) refl
  where
    go : (t : Bool) → is_corner m p ≡ t → is_corner m p ≡ false
    go true e = absurd (true≢false (sym v ∙ corners p e))
    go false e = e

-- a choice between two equal heights
cond_same : (t : Bool) {a b : ℤ} → a ≡ b → cond t a b ≡ b
cond_same true e = e
cond_same false e = refl

module _ (m : ℕ) (survey : List ℤ) where
  -- one more end in a row changes nothing once the depth is reached
  more : (d : ℕ) (p : Point) → Inside m p → depth m p ≤ d → height_by (suc d) m survey p ≡ height_by d m survey p
  unfolding height_by
  more zero p h l =
      let e = corner_ends m p (depth_zero m p h l) in
      cond_same (is_void (sample m survey p))
      (ap (λ (q : Pair). floor_mean (sample m survey q.first) (sample m survey q.second)) e ∙ mean_itself (sample m survey p))
  more (suc d) p h l =
      let u = ends_up m p h in
      let a = more d (ends m p).first u.0.inside (omega (arith, u.0.less)) in
      let b = more d (ends m p).second u.1.inside (omega (arith, u.1.less)) in
      λ i. cond (is_void (sample m survey p)) (floor_mean (a i) (b i)) (sample m survey p)

  enough : (p : Point) → Inside m p → (d : ℕ) → depth m p ≤ d → height_by d m survey p ≡ height_by (depth m p) m survey p
  enough p h d l =
      le_ind (λ (k : ℕ). height_by k m survey p ≡ height_by (depth m p) m survey p) refl (λ k b e. more k p h b ∙ e) d l

  -- as many ends in a row as the depth give the height
  pub height_by_lem : (p : Point) → Inside m p → (d : ℕ) → depth m p ≤ d → height_by d m survey p ≡ height_of m survey p
  unfolding height_of
  height_by_lem p h d l = enough p h d l ∙ sym (enough p h m (omega arith))

  pub height_surveyed : (p : Point) → is_void (sample m survey p) ≡ false → height_of m survey p ≡ sample m survey p
  unfolding height_of height_by
  height_surveyed p e = go m
    where
      go : (d : ℕ) → height_by d m survey p ≡ sample m survey p
      go zero = refl
      go (suc d) = rw e

  pub height_void : (p : Point) → Inside m p → is_void (sample m survey p) ≡ true →
      height_of m survey p ≡ floor_mean (height_of m survey (ends m p).first) (height_of m survey (ends m p).second)
  unfolding height_by
  height_void p h e =
      let u = ends_up m p h in
      let a = height_by_lem (ends m p).first u.0.inside m (omega arith) in
      let b = height_by_lem (ends m p).second u.1.inside m (omega arith) in
      sym (height_by_lem p h (suc m) (omega arith))
      ∙ (rw e (λ i. floor_mean (a i) (b i)))
