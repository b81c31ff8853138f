-- The walk by places is the walk by points: a place is linear in its point, so the place of a midpoint is half the sum of the places. And
-- what stands at the places is what stands at the points.
use mathlib.Core.Path.{◌≡◌, refl, sym, ap}
use mathlib.Core.Bool.{Bool, true, false, cond, ◌&&◌, ◌||◌, or-false}
use mathlib.Core.List.{List, []}
use Prim.Native.Nat.{ℕ, zero, suc, ◌+◌, ◌-◌, ◌*◌, ◌^◌, ◌≤◌, ◌<◌}
use native.Mathlib.Nat.{zero-mul}
use native.Mathlib.Omega.{arith}
use borrow.Author.Tests.{le-leb, lt-leb}
use lib.ListN.{length}
use lib.IntN.{ℤ}
use lib.Ieee.{Float}
use Rattle.grid.specs.Grid.{side, samples, largest, in_quarters, at, place, is_void, Inside}
use Rattle.grid.specs.Points.{odd}
use Rattle.grid.specs.declared.refusals.Refusal.{Refusal}
use Rattle.grid.specs.declared.refusals.Refusal.TheVariants.{BadMark}
use Rattle.std.specs.Prelude.{Result, Ok, Err}
use Rattle.grid.specs.declared.points.Point.{Point}
use Rattle.grid.proofs.Places.{side_small, samples_small, place_below, point_place, midplace_place}
use Rattle.grid.proofs.Cutting.{cut, corners_inside}
use Rattle.survey.specs.Filled.{sample}
use Rattle.selection.specs.Kept.{some}
use Rattle.mesh.specs.Triangles.{Three, three}
use Rattle.mesh.specs.Closed.{every, good_at, kept_by}
use Rattle.mesh.specs.Inner.{good_inner}
use Rattle.aim.specs.Quotient.{format, quotient}
use Rattle.aim.specs.Walk.{Weighed, Under, start, cut_of, half, under, walk, met}
use Rattle.aim.specs.Aimed.{corners_of, weighted, is_filled, eastward, northward, height_in, ground_in}
use Rattle.aim.specs.Inner.{corner, placed, half_at, walk_from, Stands, Light, void_in, filled_in, weighted_in, ground_by, ground_at}
use Rattle.aim.specs.declared.GroundPlane.{GroundPlane}
use Rattle.aim.specs.declared.walk.Reached.{Reached}
use Rattle.aim.proofs.Weights.{Weighs, half_first, half_second, halved}
use Rattle.aim.proofs.Stepping.{half_either}

module _ (m : ℕ) where
  -- the places of the grid corners
  south_west : 0 ≡ place m (at 0 0)
  unfolding place
  south_west = omega (arith, zero-mul (side m + 1))

  south_east : side m ≡ place m (at (side m) 0)
  unfolding place
  south_east = omega (arith, zero-mul (side m + 1))

  north_west : side m * (side m + 1) ≡ place m (at 0 (side m))
  unfolding place
  north_west = omega arith

  north_east : side m * (side m + 1) + side m ≡ place m (at (side m) (side m))
  unfolding place
  north_east = refl

  -- the triangle in which the walk starts
  pub start_first : (x y : ℕ) → y ≤ x →
      record {
        l = corner 0 (in_quarters m - x);
        a = corner (side m) (x - y);
        r = corner (side m * (side m + 1) + side m) y;
        left = 2 * m;
      }
      ≡ placed m (under (start m (at x y)) (2 * m))
  unfolding start
  start_first x y h = rw (le-leb y x h, ← south_west, ← south_east, ← north_east)

  pub start_second : (x y : ℕ) → x < y →
      record {
        l = corner (side m * (side m + 1) + side m) x;
        a = corner (side m * (side m + 1)) (y - x);
        r = corner 0 (in_quarters m - y);
        left = 2 * m;
      }
      ≡ placed m (under (start m (at x y)) (2 * m))
  unfolding start
  start_second x y h = rw (lt-leb y x h, ← south_west, ← north_west, ← north_east)

  -- the half that the point goes to
  half_placed : (t : Weighed) (k : ℕ) → half_at (place m (cut_of t)) (placed m (under t (suc k))) ≡ placed m (under (half t) k)
  half_placed t k =
      let less : suc k - 1 ≡ k = omega arith in
      half_either (placed m (under t (suc k))) (λ u. u ≡ placed m (under (half t) k)) (place m (cut_of t))
      (λ h. rw (half_first t h, less)) (λ h. rw (half_second t h, less))

  -- where the walk ends, or the refusal of a midpoint's mark
  module _ (marks : List ℕ) where
    abbrev good_met : ℕ → Weighed → Bool
    good_met k t = every (good_at m marks) (met (kept_by m marks) k t)

    abbrev pub reached : ℕ → Weighed → Result Reached Refusal
    reached k t = cond (good_met k t) (Ok (placed m (walk (kept_by m marks) k t))) (Err BadMark)

    pub walk_placed : (k : ℕ) (t : Weighed) {q : Point} → Weighs m k q t → walk_from marks k (placed m (under t k)) ≡ reached k t
    unfolding walk_from walk met
    walk_placed zero t w = refl
    walk_placed (suc k) t w =
        let c = cut w.triangle in
        rw (midplace_place m t.l t.r (cut_of t) c.east c.north, c.inner, half_placed t k)
        (by (good_inner marks (place m (cut_of t))) (kept_by m marks (cut_of t)) (walk_placed k (half t) (halved w)))
      where
        by : (good kept : Bool) → walk_from marks k (placed m (under (half t) k)) ≡ reached k (half t) →
            cond good (cond kept (walk_from marks k (placed m (under (half t) k))) (Ok (placed m (under t (suc k))))) (Err BadMark)
            ≡ cond (good && every (good_at m marks) (cond kept (met (kept_by m marks) k (half t)) []))
            (Ok (placed m (cond kept (walk (kept_by m marks) k (half t)) (under t (suc k))))) (Err BadMark)
        by true true further = further
        by true false further = refl
        by false kept further = refl

    pub filled_placed : (u : Under) → filled_in marks (placed m u) ≡ is_filled m marks u.triangle
    unfolding is_filled
    filled_placed u = refl

  module _ (heights : List ℤ) where
    pub void_placed : (u : Under) → void_in heights (placed m u) ≡ some (λ p. is_void (sample m heights p)) (corners_of u.triangle)
    unfolding sample
    void_placed u =
        let none : (p : Point) → Bool = λ p. is_void (sample m heights p) in
        ap (λ (b : Bool). none u.triangle.l || (none u.triangle.a || b)) (sym (or-false (none u.triangle.r)))

    pub weighted_placed : (u : Under) → weighted_in heights (placed m u) ≡ weighted m heights u.triangle
    unfolding weighted_in weighted sample
    weighted_placed u = refl

    -- the plane of three corners, given its height
    abbrev sloped : Float → ℕ → Three → GroundPlane
    sloped height k t = record {
      height = height;
      east = quotient format (eastward m heights t) (2 ^ k);
      north = quotient format (northward m heights t) (2 ^ k);
    }

    sloped_placed : (u : Under) {p q w : Point} (i j k : ℕ) → Inside m p → Inside m q → Inside m w →
        ground_by m heights (placed m u) (corner (place m p) i) (corner (place m q) j) (corner (place m w) k)
        ≡ sloped (height_in m heights u.triangle) u.left (three p q w)
    unfolding ground_by eastward northward sample height_in
    sloped_placed u {p} {q} {w} i j k hp hq hw = rw (point_place m p hp, point_place m q hq, point_place m w hw, weighted_placed u)

    pub ground_placed : (u : Under) {q : Point} → Weighs m u.left q u.triangle →
        ground_at m heights (placed m u) ≡ ground_in m heights u
    unfolding ground_in
    ground_placed u w =
        let c = corners_inside w.triangle in
        let t = u.triangle in
        rw (
          sloped_placed u t.wr t.wa t.wl c.right c.top c.left,
          sloped_placed u t.wl t.wa t.wr c.left c.top c.right,
        )
        (turned (sloped _ u.left) (odd u.left) _ _)
      where
        turned : (f : Three → GroundPlane) (b : Bool) (t s : Three) → cond b (f t) (f s) ≡ f (cond b t s)
        turned f true t s = refl
        turned f false t s = refl

  -- marks, or heights, stand there
  pub stands_placed : {A : Type 0} {list : List A} → m ≤ largest → length list ≡ samples m →
      (u : Under) {q : Point} → Weighs m u.left q u.triangle → Stands list (placed m u)
  stands_placed small long u w =
      let c = corners_inside w.triangle in
      omega (arith, long, samples_small small, place_below m _ c.left, place_below m _ c.top, place_below m _ c.right)

  pub light_placed : m ≤ largest → (u : Under) {q : Point} → Weighs m u.left q u.triangle → Light (placed m u)
  light_placed small u w = omega (arith, w.sum, side_small small)
