-- Document 01's sentences about the height and the ground plane at a point. A call meets its promise, whose heights have 16 bits,
-- just where `FollowsHeight`, or `FollowsPlane`, holds; these speak of plain geometry (`Geometry`), with no weights and no rounding. Of an
-- answered call `Told` holds besides. Definitions only.
use Rattle.std.specs.Prelude.{◌≡◌, Bool, true, ◌⊎◌, ◌↔◌, ◌≢◌, ℕ, suc, ◌+◌, ◌-◌, ◌*◌, ◌^◌, ◌%◌, ◌≤◌, ◌<◌, length, ℤ, pos, nat_abs, ◌+ℤ◌, ◌*ℤ◌, Float}
use Rattle.std.specs.Float.Ieee.{prec}
use Rattle.grid.specs.Grid.{highest, quarters, largest, side, samples, in_quarters, at, is_void, Inside}
use Rattle.grid.specs.Points.{is_corner}
use Rattle.grid.specs.Mark.{good_mark, filled_mark}
use Rattle.grid.specs.Refusal.{accepted, size_above, wrong_length, void_corner, point_beyond, bad_mark}
use Rattle.grid.specs.declared.points.Point.{Point}
use Rattle.survey.specs.Filled.{sample}
use Rattle.selection.specs.Marks.{mark_at}
use Rattle.mesh.specs.Triangles.{Three, three, written}
use Rattle.mesh.specs.Closed.{kept_by}
use Rattle.mesh.specs.Rule.{CutAt}
use Rattle.aim.specs.Quotient.{format, plus_zero, Exactly}
use Rattle.aim.specs.Geometry.{OfSquare, Contains, area, Plane, SomeCorner, Barycentric}
use Rattle.aim.specs.Aimed.{Handed, ended, Origin, surveyed, filled, said}
use Rattle.aim.specs.declared.HeightAnswer.{HeightAnswer}
use Rattle.aim.specs.declared.PlaneAnswer.{PlaneAnswer}

-- The triangles (l, a, r), each made by so many cuts, that the walk to a point passes through. It goes to the first starting triangle, or
-- to the first half, where that contains the point, its border counted, and else to the second; so on the diagonal to the first
-- starting triangle, on a cutting line to the first half.
pub data Passes (m : ℕ) (kept : Point → Bool) (q : Point) : ℕ → Point → Point → Point → Type 0 where
  first : Contains (written 0 (at 0 0) (at (side m) 0) (at (side m) (side m))) q →
      Passes m kept q 0 (at 0 0) (at (side m) 0) (at (side m) (side m))
  second : ¬ (Contains (written 0 (at 0 0) (at (side m) 0) (at (side m) (side m))) q) →
      Passes m kept q 0 (at (side m) (side m)) (at 0 (side m)) (at 0 0)
  first_half : {cuts : ℕ} {l a r c : Point} → Passes m kept q cuts l a r → CutAt m kept l r c → Contains (written (suc cuts) l c a) q →
      Passes m kept q (suc cuts) l c a
  second_half : {cuts : ℕ} {l a r c : Point} → Passes m kept q cuts l a r → CutAt m kept l r c → ¬ (Contains (written (suc cuts) l c a) q) →
      Passes m kept q (suc cuts) a c r

-- a midpoint that the walk meets: the sample halfway along the longest side of a triangle that it passes through
pub record Meets (m : ℕ) (kept : Point → Bool) (q c : Point) : Type 0 where
  pub cuts : ℕ
  pub l : Point
  pub a : Point
  pub r : Point
  pub passes : Passes m kept q cuts l a r
  pub east : 2 * c.x ≡ l.x + r.x
  pub north : 2 * c.y ≡ l.y + r.y
  pub sample : Inside m c

-- the walk ends in (l, a, r), which is not cut
pub record Ends (m : ℕ) (kept : Point → Bool) (q : Point) (cuts : ℕ) (l a r : Point) : Type 0 where
  pub passes : Passes m kept q cuts l a r
  pub uncut : (c : Point) → ¬ (CutAt m kept l r c)

-- the queried point, and the points that the marks keep
abbrev pub queried : Handed → Point
queried h = at h.x h.y

abbrev pub kept_of : Handed → Point → Bool
kept_of h = kept_by h.m h.marks

-- both sample buffers are exactly (N+1)² long
pub record Lengths (h : Handed) : Type 0 where
  pub marks : length h.marks ≡ samples h.m
  pub heights : length h.heights ≡ samples h.m

-- the queried point lies in the square
abbrev pub Within : Handed → Type 0
Within h = OfSquare h.m (queried h)

-- the mark at a point is good: 3 at a grid corner and 0, 1, 2, 4, 6 elsewhere
abbrev pub GoodAt : Handed → Point → Type 0
GoodAt h p = good_mark (is_corner h.m p) (mark_at h.m h.marks p) ≡ true

-- only these marks are looked at: the four grid corners' and those of the midpoints met
pub record Good (h : Handed) : Type 0 where
  pub corners : (p : Point) → is_corner h.m p ≡ true → GoodAt h p
  pub midpoints : (c : Point) → Meets h.m (kept_of h) (queried h) c → GoodAt h c

-- the height at a point is -32768
abbrev pub VoidAt : Handed → Point → Type 0
VoidAt h p = is_void (sample h.m h.heights p) ≡ true

-- a corner of the final triangle is so, whatever its weight
abbrev pub VoidCorner : Handed → Point → Point → Point → Type 0
VoidCorner h l a r = VoidAt h l ⊎ (VoidAt h a ⊎ VoidAt h r)

-- each refusal number with its case, where several hold the first in the order 1, 2, 5, 6, 3; and 0 where nothing is turned down
pub data Turned (h : Handed) : ℕ → Type 0 where
  -- m above 7
  size : largest < h.m → Turned h size_above
  -- a sample buffer not exactly (N+1)² long
  lengths : h.m ≤ largest → ¬ (Lengths h) → Turned h wrong_length
  -- point beyond 4N
  point : h.m ≤ largest → Lengths h → ¬ (Within h) → Turned h point_beyond
  -- a mark that isn't good
  mark : h.m ≤ largest → Lengths h → Within h → ¬ (Good h) → Turned h bad_mark
  -- a corner of the final triangle has height -32768
  corner : h.m ≤ largest → Lengths h → Within h → Good h → {cuts : ℕ} {l a r : Point} → Ends h.m (kept_of h) (queried h) cuts l a r →
      VoidCorner h l a r → Turned h void_corner
  -- none of these: 0, which document 01 leaves free
  nothing : h.m ≤ largest → Lengths h → Within h → Good h → {cuts : ℕ} {l a r : Point} → Ends h.m (kept_of h) (queried h) cuts l a r →
      ¬ (VoidCorner h l a r) → Turned h accepted

-- the mark at a point is 4 or more
abbrev pub FilledAt : Handed → Point → Type 0
FilledAt h p = filled_mark (mark_at h.m h.marks p) ≡ true

-- a corner with a weight other than zero carries a mark of 4 or more
abbrev pub FilledCorner : Handed → Three → Type 0
FilledCorner h t = SomeCorner (FilledAt h) t (queried h)

-- The triangle that the walk ends in, as it is written, and the plane through its corners: the height there times 4N, and its slopes times
-- its doubled area.
pub record Ground (h : Handed) : Type 0 where
  pub cuts : ℕ
  pub l : Point
  pub a : Point
  pub r : Point
  pub ends : Ends h.m (kept_of h) (queried h) cuts l a r
  pub z : ℤ
  pub e : ℤ
  pub n : ℤ
  pub plane : Plane h.m h.heights (written cuts l a r) (queried h) z e n

-- an answered height: that of the plane at the point, exactly; Filled exactly when a corner that weighs in it has a mark of 4 or more
pub record Answered (h : Handed) (o : Origin) (x : Float) : Type 0 where
  pub ground : Ground h
  pub exactly : Exactly format ground.z (in_quarters h.m) x
  pub is_filled : (o ≡ filled) ↔ FilledCorner h (written ground.cuts ground.l ground.a ground.r)
  pub is_surveyed : (o ≡ surveyed) ↔ ¬ (FilledCorner h (written ground.cuts ground.l ground.a ground.r))

-- a call of height follows document 01 (a refusal has no place for a height)
pub record FollowsHeight (h : Handed) (r : HeightAnswer) : Type 0 where
  pub turned : Turned h (said r).refusal
  pub answered : (said r).refusal ≡ accepted → Answered h (said r).origin (said r).height

-- an answered plane: the height, the slope east and the slope north of the triangle that the walk ends in, each exact
pub record Grounded (h : Handed) (r : PlaneAnswer) : Type 0 where
  pub ground : Ground h
  pub height : Exactly format ground.z (in_quarters h.m) r.ground.height
  pub east : Exactly format ground.e (area (written ground.cuts ground.l ground.a ground.r)) r.ground.east
  pub north : Exactly format ground.n (area (written ground.cuts ground.l ground.a ground.r)) r.ground.north

-- the floats of a refused plane are plus zero
pub record AllZero (r : PlaneAnswer) : Type 0 where
  pub height : r.ground.height ≡ plus_zero
  pub east : r.ground.east ≡ plus_zero
  pub north : r.ground.north ≡ plus_zero

-- a call of plane follows document 01
pub record FollowsPlane (h : Handed) (r : PlaneAnswer) : Type 0 where
  pub turned : Turned h r.refusal
  pub refused : r.refusal ≢ accepted → AllZero r
  pub answered : r.refusal ≡ accepted → Grounded h r

-- what follows for a call that is answered (`refusal h` is 0), its heights of 16 bits
pub record Told (h : Handed) : Type 0 where
  -- the height times 4N is a whole number of at most 512 · 32767 in size, below 2^24
  pub most : (g : Ground h) → nat_abs g.z ≤ in_quarters largest * highest
  pub below : (g : Ground h) → nat_abs g.z < 2 ^ prec format
  -- the triangle contains the point; its doubled area is 2 to the cuts left
  pub contains : (g : Ground h) → Contains (written g.cuts g.l g.a g.r) (queried h)
  pub doubled : (g : Ground h) → area (written g.cuts g.l g.a g.r) ≡ 2 ^ (2 * h.m - g.cuts)
  -- `ended` is where the walk ends,
  pub ends : let t = (ended h).triangle in Ends h.m (kept_of h) (queried h) (2 * h.m - (ended h).left) t.l t.a t.r
  -- and its weights, read in counter-clockwise order, are the point's barycentric weights in that triangle
  pub even : (ended h).left % 2 ≡ 0 →
      let t = (ended h).triangle in Barycentric h.m (three t.l t.a t.r) (queried h) t.wl t.wa t.wr
  pub odd : (ended h).left % 2 ≡ 1 →
      let t = (ended h).triangle in Barycentric h.m (three t.r t.a t.l) (queried h) t.wr t.wa t.wl
  -- moving one cell east, or north, changes the height z / 4N of the plane by its slope e / d, or n / d, d the doubled area (z is whole there, too:
  -- 4N e / d is)
  pub east : (g : Ground h) (z : ℤ) →
      let t = written g.cuts g.l g.a g.r in
      Plane h.m h.heights t (at (h.x + quarters) h.y) z g.e g.n →
      pos (area t) *ℤ z ≡ pos (area t) *ℤ g.z +ℤ pos (in_quarters h.m) *ℤ g.e
  pub north : (g : Ground h) (z : ℤ) →
      let t = written g.cuts g.l g.a g.r in
      Plane h.m h.heights t (at h.x (h.y + quarters)) z g.e g.n →
      pos (area t) *ℤ z ≡ pos (area t) *ℤ g.z +ℤ pos (in_quarters h.m) *ℤ g.n
