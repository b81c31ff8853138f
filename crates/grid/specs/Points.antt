-- Points, ends and dependencies. Document 01, the section of that name (document 001, section 2.1). All is said of points of
-- the square; of others the values mean nothing. Definitions only.
use Rattle.std.specs.Prelude.{Bool, true, false, cond, ◌&&◌, ◌||◌, List, [], ◌∷◌, ◌++◌, ℕ, zero, suc, ◌+◌, ◌-◌, ◌*◌, ◌^◌, ◌/◌, ◌%◌, eqb, leb}
use Rattle.grid.specs.Grid.{side, at}
use Rattle.grid.specs.declared.points.Point.{Point}
use Rattle.grid.specs.declared.points.Units.{Units}
use Rattle.grid.specs.declared.points.Site.{Site}
use Rattle.grid.specs.declared.points.Kind.{Kind}
use Rattle.grid.specs.declared.points.Kind.TheVariants.{Corner, EastWest, NorthSouth, Rising, Falling}

-- the first or the last column or row
abbrev pub outermost : ℕ → ℕ → Bool
outermost m c = eqb c 0 || eqb c (side m)

-- the four grid corners
unfoldable pub is_corner : ℕ → Point → Bool
is_corner m p = outermost m p.x && outermost m p.y

-- d divides both x and y (zero is divisible by all)
abbrev pub divides_both : ℕ → ℕ → ℕ → Bool
divides_both d x y = eqb (x % d) 0 && eqb (y % d) 0

-- the largest j up to m for which 2^j divides both x and y
unfoldable pub level : ℕ → ℕ → ℕ → ℕ
level zero x y = 0
level (suc j) x y = cond (divides_both (2 ^ suc j) x y) (suc j) (level j x y)

-- spacing: the largest power of two that divides both x and y. (It is taken up to N, which bounds it at (0, 0) alone, divisible
-- by all. So grid corners, which the document gives no spacing, have N.)
unfoldable pub spacing : ℕ → Point → ℕ
spacing m p = 2 ^ level m p.x p.y

-- a point counted in units of its spacing: x/s across, eastward, and y/s up, northward
unfoldable pub units : ℕ → Point → Units
units m p = record { spacing = spacing m p; across = p.x / spacing m p; up = p.y / spacing m p }

abbrev pub odd : ℕ → Bool
odd n = eqb (n % 2) 1

-- counted in units of 2s, the two coordinates are both odd or both even
abbrev pub alike : ℕ → Point → Bool
alike s p = eqb ((p.x / (2 * s)) % 2) ((p.y / (2 * s)) % 2)

-- Centre point: x/s and y/s both odd. Of the four points (x±s, y±s), counted in units of 2s, one has both odd and one has
-- both even: they are opposite, so they are (x-s, y-s) and (x+s, y+s), Rising, or else the other two, Falling.
-- Edge point: exactly one of x/s and y/s is odd, and the ends lie along that axis, EastWest or NorthSouth. (Grid corners are
-- taken out first; of the rest none has both even.) Asked in turn: is x/s odd, is y/s odd, is (x-s, y-s) alike.
abbrev pub kind_by : Bool → Bool → Bool → Kind
kind_by true true rising = cond rising Rising Falling
kind_by true false rising = EastWest
kind_by false odd_up rising = NorthSouth

unfoldable pub kind : ℕ → Point → Kind
kind m p =
    cond (is_corner m p) Corner
    (kind_by (odd (units m p).across) (odd (units m p).up)
    (alike (spacing m p) (at (p.x - spacing m p) (p.y - spacing m p))))

-- what a point is, and how far away its ends lie
unfoldable pub site : ℕ → Point → Site
site m p = record { kind = kind m p; spacing = spacing m p }

-- two points
pub record Pair : Type 0 where
  pub first : Point
  pub second : Point

abbrev pub pair : Point → Point → Pair
pair p q = record { first = p; second = q }

-- of the four points (x±s, y±s) the two on the rising diagonal, or the other two
abbrev pub diagonal : Bool → ℕ → ℕ → ℕ → Pair
diagonal true s x y = pair (at (x - s) (y - s)) (at (x + s) (y + s))
diagonal false s x y = pair (at (x + s) (y - s)) (at (x - s) (y + s))

-- the two points of a pair
abbrev pub both : Pair → List Point
both e = e.first ∷ e.second ∷ []

-- the ends of a point, the lower place first: the two points s away on the line that its kind names.
-- A grid corner has no ends: the pair is the corner itself.
abbrev pub ends_by : Kind → ℕ → ℕ → ℕ → Pair
ends_by Corner s x y = pair (at x y) (at x y)
ends_by EastWest s x y = pair (at (x - s) y) (at (x + s) y)
ends_by NorthSouth s x y = pair (at x (y - s)) (at x (y + s))
ends_by Rising s x y = diagonal true s x y
ends_by Falling s x y = diagonal false s x y

unfoldable pub ends : ℕ → Point → Pair
ends m p = ends_by (kind m p) (spacing m p) p.x p.y

-- for c from 0 to n, the numbers s below and s above c that lie from 0 to n
abbrev pub near : ℕ → ℕ → ℕ → List ℕ
near n s c = cond (leb s c) ((c - s) ∷ []) [] ++ cond (leb (c + s) n) ((c + s) ∷ []) []

-- for each number of a list, the points that f names
abbrev pub each : (ℕ → List Point) → List ℕ → List Point
each f [] = []
each f (c ∷ cs) = f c ++ each f cs

-- the point a along a line and b beside it: an east-west line, or turned to a north-south one
abbrev pub laid : Bool → ℕ → ℕ → Point
laid false a b = at a b
laid true a b = at b a

-- the points along a line at each of the numbers, b beside it
abbrev pub in_line : Bool → ℕ → List ℕ → List Point
in_line turned b cs = each (λ a. laid turned a b ∷ []) cs

-- what a point depends on, by rising place: a centre on the other two of the four around it; an edge point on the points
-- s away along the other axis, those inside the square; a grid corner on none
abbrev pub depends_by : Kind → ℕ → ℕ → ℕ → ℕ → List Point
depends_by Corner n s x y = []
depends_by EastWest n s x y = in_line true x (near n s y)
depends_by NorthSouth n s x y = in_line false y (near n s x)
depends_by Rising n s x y = both (diagonal false s x y)
depends_by Falling n s x y = both (diagonal true s x y)

unfoldable pub depends_on : ℕ → Point → List Point
depends_on m p = depends_by (kind m p) (side m) (spacing m p) p.x p.y

-- the points h away both ways, those inside the square
abbrev pub crossing : ℕ → ℕ → ℕ → ℕ → List Point
crossing n h x y = each (λ b. in_line false b (near n h x)) (near n h y)

-- the dependents of an edge point: those half its spacing away both ways; none where s is 1
abbrev pub crossed : ℕ → ℕ → ℕ → ℕ → List Point
crossed n s x y = cond (eqb s 1) [] (crossing n (s / 2) x y)

-- the dependents of a centre: the four at distance s along the axes
abbrev pub beside : ℕ → ℕ → ℕ → List Point
beside s x y = at x (y - s) ∷ at (x - s) y ∷ at (x + s) y ∷ at x (y + s) ∷ []

-- the dependents of a point, those that depend on it, by rising place. Of grid corners, always kept, none are listed (where
-- m is not 0, the grid's centre depends on two of them).
abbrev pub dependents_by : Kind → ℕ → ℕ → ℕ → ℕ → List Point
dependents_by Corner n s x y = []
dependents_by EastWest n s x y = crossed n s x y
dependents_by NorthSouth n s x y = crossed n s x y
dependents_by Rising n s x y = beside s x y
dependents_by Falling n s x y = beside s x y

unfoldable pub dependents : ℕ → Point → List Point
dependents m p = dependents_by (kind m p) (side m) (spacing m p) p.x p.y

-- 1 where both are odd, a centre, and 0 at an edge point
abbrev pub centre_bit : Bool → Bool → ℕ
centre_bit true true = 1
centre_bit true false = 0
centre_bit false odd_up = 0

-- Rank: an edge point of spacing 2^j has rank 2j, a centre point 2j + 1. What a point depends on has the next rank. By the
-- same formula grid corners have rank 2m or 2m + 1, above all others.
unfoldable pub rank : ℕ → Point → ℕ
rank m p = 2 * level m p.x p.y + centre_bit (odd (units m p).across) (odd (units m p).up)
