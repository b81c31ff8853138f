-- Plain geometry, for a reader: points of the square, triangles that contain them, areas, planes through three corners, corners that weigh in,
-- barycentric weights. All in whole numbers, sides and areas by turns; triangles have their corners in counter-clockwise order. Take the corners (0,0), (1,0), (1,1) and the
-- point (3,1), in quarter cells: its turns about the sides are 4, 4 and 8, so the triangle contains it; they add up to 16 times the doubled area, 1.
-- With heights 0, 10 and 0 and N = 2 the plane has z = 40, so the height 40 / 8 = 5, and slopes 10 and -10. Definitions only.
use Rattle.std.specs.Prelude.{◌≡◌, List, ◌⊎◌, ℕ, ◌+◌, ◌-◌, ◌*◌, ◌≤◌, ℤ, pos, ◌+ℤ◌, ◌*ℤ◌}
use Rattle.grid.specs.Grid.{quarters, side, in_quarters, at}
use Rattle.grid.specs.Turn.{onward, backward}
use Rattle.grid.specs.declared.points.Point.{Point}
use Rattle.survey.specs.Filled.{sample}
use Rattle.mesh.specs.Triangles.{Three}

-- a point, given in quarter cells, lies in the square: from 0 to 4N each way
pub record OfSquare (m : ℕ) (q : Point) : Type 0 where
  pub east : q.x ≤ in_quarters m
  pub north : q.y ≤ in_quarters m

-- a sample's point, given in quarter cells
abbrev pub quartered : Point → Point
quartered p = at (quarters * p.x) (quarters * p.y)

-- from sample p to sample s, the point q, in quarter cells, lies to the left or on the line
abbrev pub OnLeft : Point → Point → Point → Type 0
OnLeft p s q = backward (quartered p) (quartered s) q ≤ onward (quartered p) (quartered s) q

-- from sample p to sample s, the point q lies on the line
abbrev pub OnLine : Point → Point → Point → Type 0
OnLine p s q = onward (quartered p) (quartered s) q ≡ backward (quartered p) (quartered s) q

-- a triangle, its corners in counter-clockwise order, contains a point given in quarter cells, its border counted
pub record Contains (t : Three) (q : Point) : Type 0 where
  pub first : OnLeft t.first t.second q
  pub second : OnLeft t.second t.third q
  pub third : OnLeft t.third t.first q

-- the doubled area of a triangle, its corners in counter-clockwise order
abbrev pub area : Three → ℕ
area t = onward t.first t.second t.third - backward t.first t.second t.third

-- A plane, given by its height z / 4N at the point q, in quarter cells, and its slopes e / d east and n / d north, in units per cell. At a
-- sample it has the height that stands there: z / 4N + (e / d) (x - q.x / 4) + (n / d) (y - q.y / 4), multiplied out by 4N and d.
abbrev pub Through : ℕ → List ℤ → Point → ℤ → ℤ → ℤ → ℕ → Point → Type 0
Through m heights q z e n d p =
    pos d *ℤ z +ℤ pos (side m) *ℤ (e *ℤ pos (quarters * p.x) +ℤ n *ℤ pos (quarters * p.y))
    ≡ pos d *ℤ (pos (in_quarters m) *ℤ sample m heights p) +ℤ pos (side m) *ℤ (e *ℤ pos q.x +ℤ n *ℤ pos q.y)

-- the plane through the three corners of a triangle: z its height at q times 4N, e and n its slopes times the triangle's doubled area
pub record Plane (m : ℕ) (heights : List ℤ) (t : Three) (q : Point) (z e n : ℤ) : Type 0 where
  pub first : Through m heights q z e n (area t) t.first
  pub second : Through m heights q z e n (area t) t.second
  pub third : Through m heights q z e n (area t) t.third

-- A corner p that weighs in at q, and of which something holds: its weight is other than zero, where q is not on the line through the other two
-- corners, s and w.
pub record WeighsIn (Holds : Point → Type 0) (q p s w : Point) : Type 0 where
  pub weighs : ¬ (OnLine s w q)
  pub holds : Holds p

-- it holds of a corner that weighs in
abbrev pub SomeCorner : (Point → Type 0) → Three → Point → Type 0
SomeCorner Holds t q = WeighsIn Holds q t.first t.second t.third
    ⊎ (WeighsIn Holds q t.second t.third t.first ⊎ WeighsIn Holds q t.third t.first t.second)

-- A weight w is to 4N as the doubled area of the point and the corners p and s is to that of the triangle. The former is counted in quarter
-- cells, 16 to one, so N times it is 4 times the triangle's by the weight.
abbrev pub Share : ℕ → Three → Point → Point → Point → ℕ → Type 0
Share m t q p s w =
    side m * onward (quartered p) (quartered s) q ≡ side m * backward (quartered p) (quartered s) q + quarters * (area t * w)

-- The weights of a point, given in quarter cells, at the corners of a triangle, these in counter-clockwise order: whole numbers that add up
-- to 4N, by which the point is the mean of the corners; and each is its corner's share of the triangle (`Share`).
pub record Barycentric (m : ℕ) (t : Three) (q : Point) (first second third : ℕ) : Type 0 where
  pub sum : first + second + third ≡ in_quarters m
  pub east : first * t.first.x + second * t.second.x + third * t.third.x ≡ side m * q.x
  pub north : first * t.first.y + second * t.second.y + third * t.third.y ≡ side m * q.y
  pub first_turn : Share m t q t.second t.third first
  pub second_turn : Share m t q t.third t.first second
  pub third_turn : Share m t q t.first t.second third
