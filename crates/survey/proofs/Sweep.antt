-- The sweep by spacing reaches every point but the grid corners, so no void is left; and then every entry is its point's height.
use mathlib.Core.Path.{◌≡◌, refl, sym, ap, ◌∙◌}
use mathlib.Core.Bool.{Bool, true, false}
use mathlib.Core.List.{List}
use mathlib.Core.Logic.{inl, inr, ⊎_elim}
use Prim.Native.Nat.{ℕ, ◌*◌, ◌^◌, ◌%◌, ◌<◌}
use native.Mathlib.Decide.{ℕ_discrete}
use native.Mathlib.Omega.{arith}
use lib.ListN.{length}
use lib.IntN.{ℤ}
use Rattle.grid.specs.Grid.{void, is_void, samples, at, place, point, Inside}
use Rattle.grid.specs.Points.{is_corner, units}
use Rattle.grid.specs.declared.points.Point.{Point}
use Rattle.grid.proofs.Around.{same_point}
use Rattle.grid.proofs.Placed.{Placed, placed}
use Rattle.grid.proofs.Places.{place_point, point_inside}
use Rattle.grid.proofs.OnGrid.{is_on_grid}
use Rattle.survey.specs.Filled.{height_of, filled, CornersSurveyed}
use Rattle.survey.specs.Inner.{Stands, NoVoid, Partly}
use Rattle.survey.proofs.Partial.{at_point, settled}
use Rattle.survey.proofs.Reading.{sample_place}
use Rattle.survey.proofs.Rows.{SpacingFilled}

-- where no void is left every entry is its point's height
pub none_left : (m : ℕ) (survey heights : List ℤ) → length survey ≡ samples m → Partly m survey heights → NoVoid heights → heights ≡ filled m survey
unfolding filled
none_left m survey heights n part none =
    is_on_grid m (height_of m survey) void heights (part.long ∙ n) (λ k h.
    let p = point m k in
    let inside = point_inside m k h in
    let stands = sample_place m heights k in
    let left : k < length heights = rw (part.long ∙ n) h in
    sym stands ∙ settled m survey heights part p (at_point m survey heights part p inside) (ap is_void stands ∙ none k left))

-- every point is a grid corner or one of its spacing
pub no_void : (m : ℕ) (heights : List ℤ) → length heights ≡ samples m → CornersSurveyed m heights →
    ((j : ℕ) → j < m → SpacingFilled m heights (2 ^ j)) → NoVoid heights
no_void m heights n corners filled i l = go (is_corner m p) refl
  where
    p : Point
    p = point m i

    inside : Inside m p
    inside = point_inside m i (rw n at l)

    spaced : {j a b : ℕ} → Placed m j a b p → Dec (b % 2 ≡ 1) → Stands heights (place m p)
    spaced {j} {a} {b} f d = rw (same_point f.times.east f.times.north) (by d)
      where
        there : Inside m (at (2 ^ j * a) (2 ^ j * b))
        there = rw (same_point f.times.east f.times.north) at inside

        by : Dec (b % 2 ≡ 1) → Stands heights (place m (at (2 ^ j * a) (2 ^ j * b)))
        by (yes o) = (filled j f.below).1 b o a (inr refl) there
        by (no e) = (filled j f.below).0 b (omega arith) a (⊎_elim (λ o. inl o) (λ o. absurd (e o)) f.odd) there

    go : (t : Bool) → is_corner m p ≡ t → Stands heights i
    go true e = ap is_void (sym (sample_place m heights i)) ∙ corners p e
    go false e = rw (place_point m i) at (spaced (placed m p inside e) (ℕ_discrete ((units m p).up % 2) 1))
