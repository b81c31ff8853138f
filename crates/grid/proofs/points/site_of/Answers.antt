-- `grid::points::site_of` meets its contract: the parities that the code tests are those that the rule names.
use mathlib.Core.Path.{◌≡◌, sym, ◌∙◌}
use mathlib.Core.Bool.{Bool, true, false}
use mathlib.Core.Logic.{◌≢◌}
use Prim.Native.Nat.{ℕ, ◌/◌, ◌%◌}
use native.Mathlib.Omega.{arith}
use Rattle.grid.specs.Points.{units, is_corner, kind, site}
use Rattle.grid.specs.declared.points.Point.{Point}
use Rattle.grid.specs.declared.points.Units.{Units}
use Rattle.grid.specs.declared.points.Site.{Site}
use Rattle.grid.specs.declared.points.Kind.{Kind}
use Rattle.grid.specs.declared.points.Kind.TheVariants.{Corner, EastWest, NorthSouth, Rising, Falling}
use Rattle.grid.proofs.Parity.{kind_corner, kind_north_south, kind_east_west, kind_rising, kind_falling}
use Rattle.grid.proofs.points.site_of.Goals as goal

-- the site, once its kind is known
abbrev Sited : ℕ → Point → Units → Kind → Type 0
Sited m p u k = ◌≡◌ {A = Site} (record { kind = k; spacing = u.spacing }) (site m p)

module _ (m : ℕ) (p : Point) (u : Units) (e : u ≡ units m p) where
  made : (k : Kind) → kind m p ≡ k → Sited m p u k
  unfolding site units
  made k f = let b = sym f in λ i. record { kind = b i; spacing = (e i).spacing }

  module _ (r : Bool) (is : r ≡ is_corner m p) where
    at_corner : r ≡ true → Sited m p u Corner
    at_corner t = made Corner (kind_corner m p (sym is ∙ t))

    module _ (no_corner : r ≡ false) where
      inner : is_corner m p ≡ false
      inner = sym is ∙ no_corner

      at_north_south : u.across % 2 ≡ 0 → Sited m p u NorthSouth
      at_north_south a = made NorthSouth (kind_north_south m p inner (rw e at a))

      module _ (odd_across : u.across % 2 ≢ 0) where
        across : (units m p).across % 2 ≡ 1
        across = let o : u.across % 2 ≡ 1 = omega arith in rw e at o

        at_east_west : u.up % 2 ≡ 0 → Sited m p u EastWest
        at_east_west b = made EastWest (kind_east_west m p inner across (rw e at b))

        module _ (odd_up : u.up % 2 ≢ 0) where
          up : (units m p).up % 2 ≡ 1
          up = let o : u.up % 2 ≡ 1 = omega arith in rw e at o

          at_rising : u.across / 2 % 2 ≡ u.up / 2 % 2 → Sited m p u Rising
          at_rising b = made Rising (kind_rising m p inner across up (rw e at b))

          at_falling : u.across / 2 % 2 ≢ u.up / 2 % 2 → Sited m p u Falling
          at_falling b = made Falling (kind_falling m p inner across up (rw e at b))

pub returns-then-is_corner : goal.returns-then-is_corner
returns-then-is_corner c = at_corner _ _ _ c.units_of-u.ensures _ c.is_corner.ensures c.if-is_corner.true

pub returns-then-u-eq0 : goal.returns-then-u-eq0
returns-then-u-eq0 c =
    at_north_south _ _ _ c.units_of-u.ensures _ c.is_corner.ensures
    c.if-is_corner.false
    c.if-u-eq0.true

pub returns-then-u-eq0-2 : goal.returns-then-u-eq0-2
returns-then-u-eq0-2 c =
    at_east_west _ _ _ c.units_of-u.ensures _ c.is_corner.ensures
    c.if-is_corner.false
    c.if-u-eq0.false
    c.if-u-eq0-2.true

pub returns-then-u : goal.returns-then-u
returns-then-u c =
    at_rising _ _ _ c.units_of-u.ensures _ c.is_corner.ensures
    c.if-is_corner.false
    c.if-u-eq0.false
    c.if-u-eq0-2.false
    c.if-u.true

pub returns : goal.returns
returns c =
    at_falling _ _ _ c.units_of-u.ensures _ c.is_corner.ensures
    c.if-is_corner.false
    c.if-u-eq0.false
    c.if-u-eq0-2.false
    c.if-u.false
