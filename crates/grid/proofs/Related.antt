-- What document 01 says of a point's spacing, ends and dependencies holds at every point of the square that is no grid corner: `Related`, put together
-- from what is proved of each sort of point.
use mathlib.Core.Path.{◌≡◌, ap, ◌∙◌}
use mathlib.Core.Bool.{true, false}
use Prim.Native.Nat.{ℕ, zero, suc, ◌*◌}
use native.Mathlib.Nat.{pow-suc}
use native.Mathlib.Omega.{arith}
use Rattle.grid.specs.Grid.{side, at, Inside}
use Rattle.grid.specs.Points.{is_corner, units, ends, pair}
use Rattle.grid.specs.Rule.{Related}
use Rattle.grid.specs.declared.points.Point.{Point}
use Rattle.grid.proofs.Around.{same_point}
use Rattle.grid.proofs.Dependence.{depends_dependents}
use Rattle.grid.proofs.Rule.{spacing_largest, centre, some_odd, edge, grid_centre_lem}

middle : (m : ℕ) (p : Point) → 2 * p.x ≡ side m → 2 * p.y ≡ side m → ends m p ≡ pair (at 0 0) (at (side m) (side m))
middle zero p e n = absurd (omega arith)
middle (suc j) p e n =
    let twice : side (suc j) ≡ side j * 2 = pow-suc 2 j in
    let is : p ≡ at (side j) (side j) = same_point (omega (arith, twice)) (omega (arith, twice)) in
    ap (ends (suc j)) is ∙ grid_centre_lem j

pub related : (m : ℕ) (p : Point) → Inside m p → is_corner m p ≡ false → Related m p
unfolding units
related m p i inner = record {
  spaced = spacing_largest m p i inner;
  some = some_odd m p i inner;
  centre = centre m p i inner;
  grid_centre = middle m p;
  east_west = λ o e. edge m p i inner false o e;
  north_south = λ e o. edge m p i inner true o e;
  dependent_on = λ q k. depends_dependents m q p k i inner;
}
