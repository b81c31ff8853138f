-- `grid::points::reach_at` meets its contract: the site of the point at the place says it.
use mathlib.Core.Path.{◌≡◌, ◌∙◌}
use Prim.Native.Nat.{ℕ, ◌≤◌}
use native.Mathlib.Omega.{arith}
use Rattle.grid.specs.Grid.{largest, widest}
use Rattle.grid.specs.Points.{site, kind, spacing}
use Rattle.grid.specs.Inner.{reach_by}
use Rattle.grid.specs.declared.points.Point.{Point}
use Rattle.grid.specs.declared.points.Site.{Site}
use Rattle.grid.proofs.Places.{side_small, point_inside}
use Rattle.grid.proofs.Room.{spacing_side}
use Rattle.grid.proofs.points.reach_at.Goals as goal

-- no spacing is above N
small : (m : ℕ) (p : Point) {t : Site} → m ≤ largest → t ≡ site m p → t.spacing ≤ widest
unfolding site
small m p l e = rw e (omega (arith, spacing_side m p, side_small l))

sited : (n m : ℕ) {p q : Point} {t : Site} → t ≡ site m q → q ≡ p → reach_by t.kind n t.spacing ≡ reach_by (kind m p) n (spacing m p)
unfolding site
sited n m e f = rw (e, f)

pub site_of-t-requires : goal.site_of-t-requires
site_of-t-requires c =
    rw c.point.ensures (point_inside c.args.g.m c.args.i c.requires)

pub reach_of-requires : goal.reach_of-requires
reach_of-requires c = small c.args.g.m c.point.result c.args.g.sound.small c.site_of-t.ensures

pub returns : goal.returns
returns c = c.reach_of.ensures ∙ sited _ _ c.site_of-t.ensures c.point.ensures
