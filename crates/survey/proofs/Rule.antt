-- The filled heights follow the rule, they are the only ones that do where no grid corner is void, and none of them is void.
-- Each by the depth below the largest spacing, which falls from a point to its ends.
use mathlib.Core.Path.{◌≡◌, refl, sym, ◌∙◌}
use mathlib.Core.Bool.{Bool, true, false}
use mathlib.Core.List.{List}
use Prim.Native.Nat.{ℕ, zero, suc, ◌≤◌, ◌<◌}
use native.Mathlib.Omega.{arith}
use lib.ListN.{length}
use lib.IntN.{ℤ}
use lib.Signed.{mag}
use Rattle.grid.specs.Grid.{void, is_void, Height, samples, place, point, Inside}
use Rattle.grid.specs.Points.{ends}
use Rattle.grid.specs.declared.points.Point.{Point}
use Rattle.grid.proofs.Places.{place_below, point_inside}
use Rattle.grid.proofs.OnGrid.{length_on_grid, on_grid_point, is_on_grid}
use Rattle.survey.specs.Filled.{floor_mean, sample, height_of, filled, CornersSurveyed}
use Rattle.survey.specs.Rule.{Fills, Sixteen}
use Rattle.survey.specs.Inner.{depth}
use Rattle.survey.proofs.Mean.{Above, mean_above, above_height, height_not_void, not_void_above}
use Rattle.survey.proofs.Filling.{ends_up, depth_zero, void_inner, height_surveyed, height_void}
use Rattle.survey.proofs.Reading.{sample_place}

module _ (m : ℕ) (survey : List ℤ) where
  -- the filled list has the height of each point at its place
  pub filled_sample : (p : Point) → Inside m p → sample m (filled m survey) p ≡ height_of m survey p
  unfolding sample filled
  filled_sample p h = on_grid_point m (height_of m survey) void p h

  pub length_filled : length (filled m survey) ≡ samples m
  unfolding filled
  length_filled = length_on_grid m (height_of m survey)

  pub filled_fills : Fills m survey (filled m survey)
  filled_fills =
      record {
        long = length_filled;
        surveyed = λ p h n. filled_sample p h ∙ height_surveyed m survey p n;
        voids = λ p h inner v.
            let u = ends_up m p h in
            let a = filled_sample (ends m p).first u.0.inside in
            let b = filled_sample (ends m p).second u.1.inside in
            filled_sample p h ∙ height_void m survey p h v ∙ (λ i. floor_mean (sym a i) (sym b i));
      }

  pub small_sample : length survey ≡ samples m → Sixteen survey → (p : Point) → Inside m p → mag (sample m survey p) < 32768
  unfolding sample
  small_sample n small p h = (small (place m p) (rw n (place_below m p h))).sfits

  module _ (corners : CornersSurveyed m survey) where
    -- what holds of every surveyed point, and of a void where it holds of both its ends, holds of every point
    module _ (P : Point → Type 0) (known : (p : Point) → Inside m p → is_void (sample m survey p) ≡ false → P p)
        (mean : (p : Point) → Inside m p → is_void (sample m survey p) ≡ true → P (ends m p).first → P (ends m p).second → P p) where
      at_corner : (p : Point) → Inside m p → depth m p ≤ 0 → P p
      at_corner p h l = known p h (corners p (depth_zero m p h l))

      below : (d : ℕ) → ((q : Point) → Inside m q → depth m q ≤ d → P q) → (p : Point) → Inside m p → depth m p ≤ suc d →
          (t : Bool) → is_void (sample m survey p) ≡ t → P p
      below d up p h l false n = known p h n
      below d up p h l true v =
          let u = ends_up m p h in
          mean p h v (up (ends m p).first u.0.inside (omega (arith, u.0.less))) (up (ends m p).second u.1.inside (omega (arith, u.1.less)))

      by_depth : (d : ℕ) (p : Point) → Inside m p → depth m p ≤ d → P p
      by_depth zero p h l = at_corner p h l
      by_depth (suc d) p h l = below d (λ q i k. by_depth d q i k) p h l (is_void (sample m survey p)) refl

      pub from_ends : (p : Point) → Inside m p → P p
      from_ends p h = by_depth m p h (omega arith)

    -- no second answer: heights that follow the rule are the filled heights
    pub fills_only : (heights : List ℤ) → Fills m survey heights → heights ≡ filled m survey
    unfolding filled
    fills_only heights f =
        is_on_grid m (height_of m survey) void heights f.long (λ i l. sym (sample_place m heights i) ∙ same (point m i) (point_inside m i l))
      where
        same : (p : Point) → Inside m p → sample m heights p ≡ height_of m survey p
        same p h =
            from_ends (λ q. sample m heights q ≡ height_of m survey q) (λ q i n. f.surveyed q i n ∙ sym (height_surveyed m survey q n))
            (λ q i v a b. f.voids q i (void_inner m survey corners q v) v ∙ (λ j. floor_mean (a j) (b j)) ∙ sym (height_void m survey q i v))
            p
            h

    module _ (n : length survey ≡ samples m) (small : Sixteen survey) where
      all_above : (p : Point) → Inside m p → Above (height_of m survey p)
      all_above p h =
          from_ends (λ q. Above (height_of m survey q))
          (λ q i k. rw (height_surveyed m survey q k) (not_void_above (sample m survey q) (small_sample n small q i) k))
          (λ q i v a b. rw (height_void m survey q i v) (mean_above (height_of m survey (ends m q).first) (height_of m survey (ends m q).second) a b))
          p
          h

      -- every filled height is a height, from -32767 to 32767
      pub filled_height : (p : Point) → Inside m p → Height (sample m (filled m survey) p)
      filled_height p h = rw (filled_sample p h) (above_height (height_of m survey p) (all_above p h))

      -- so none is void, and a default can't be taken for a missing sample
      pub filled_not_void : (p : Point) → Inside m p → is_void (sample m (filled m survey) p) ≡ false
      filled_not_void p h = height_not_void (sample m (filled m survey) p) (filled_height p h)
