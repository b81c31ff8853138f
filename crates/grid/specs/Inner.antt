-- What is known of a point by its kind and its spacing, and what functions may ask of it. No rule rests on it. Definitions only.
use Rattle.std.specs.Prelude.{◌≡◌, Bool, false, not, ◌⊎◌, ℕ, ◌+◌, ◌-◌, ◌*◌, ◌^◌, ◌%◌, ◌≤◌, ◌<◌, eqb}
use Rattle.grid.specs.Grid.{Inside, side}
use Rattle.grid.specs.Mark.{if_void}
use Rattle.grid.specs.Points.{is_corner, kind, spacing}
use Rattle.grid.specs.declared.points.Point.{Point}
use Rattle.grid.specs.declared.points.Kind.{Kind}
use Rattle.grid.specs.declared.points.Kind.TheVariants.{Corner, EastWest, NorthSouth, Rising, Falling}

-- but for what a void adds, a mark that is not 0: a good mark is so just where it keeps its point
abbrev pub keeps : ℕ → Bool
keeps mark = not (eqb (mark % if_void) 0)

-- s reaches back and on, both ways
pub record Clear (m s x y : ℕ) : Type 0 where
  pub west : s ≤ x
  pub south : s ≤ y
  pub east : x + s ≤ side m
  pub north : y + s ≤ side m

-- p is a point of the square, no grid corner, of this kind and this spacing
pub record Sited (m : ℕ) (p : Point) (k : Kind) (s : ℕ) : Type 0 where
  pub inside : Inside m p
  pub inner : is_corner m p ≡ false
  pub kinded : k ≡ kind m p
  pub spaced : s ≡ spacing m p

-- how many places before and behind a point its ends lie, on a grid of n cells a side
abbrev pub reach_by : Kind → ℕ → ℕ → ℕ
reach_by Corner n s = 0
reach_by EastWest n s = s
reach_by NorthSouth n s = s * (n + 1)
reach_by Rising n s = s * (n + 1) + s
reach_by Falling n s = s * (n + 1) - s

-- p is a point of the square, no grid corner, whose ends lie d places before and behind it
pub record Spread (m : ℕ) (p : Point) (d : ℕ) : Type 0 where
  pub inside : Inside m p
  pub inner : is_corner m p ≡ false
  pub reached : d ≡ reach_by (kind m p) (side m) (spacing m p)

-- the kinds of edge points, and of centres
abbrev pub EdgeKind : Kind → Type 0
EdgeKind k = (k ≡ EastWest) ⊎ (k ≡ NorthSouth)

abbrev pub CentreKind : Kind → Type 0
CentreKind k = (k ≡ Rising) ⊎ (k ≡ Falling)

-- s is a power of two below N
pub record Power (m s : ℕ) : Type 0 where
  pub exponent : ℕ
  pub power : s ≡ 2 ^ exponent
  pub below : exponent < m

-- the kind of the point two spacings on, east or north
abbrev pub next_kind : Kind → Kind
next_kind Corner = Corner
next_kind EastWest = EastWest
next_kind NorthSouth = NorthSouth
next_kind Rising = Falling
next_kind Falling = Rising
