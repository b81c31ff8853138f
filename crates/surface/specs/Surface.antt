-- Demand 3: from what an accepted selection wrote, the triangles cover the square with no crack and no overlap, and every triangle that contains a
-- quarter-cell point gives the very height and origin that the query gives. It is said at every quarter-cell point, by areas, and by a line between any
-- two triangles; of what the calls answer and write, by the promises of `select`, `triangles`, `height` and `plane`; and of the three places of each
-- triangle as they stand in the list, in plain geometry (`Geometry` in aim/specs). The theorem is `one_surface` in proofs/Surface: Called s a marks
-- heights places r places' → OneSurface s.m marks heights r places'. Definitions only.
use Rattle.std.specs.Prelude.{◌≡◌, ◌↔◌, ◌≢◌, ℕ, zero, suc, ◌+◌, ◌*◌, ◌≤◌, ◌<◌, length, ℤ, Float}
use mathlib.Core.List.{List, Memᴰ}
use Rattle.grid.specs.Grid.{side, in_quarters}
use Rattle.grid.specs.Refusal.{accepted}
use Rattle.grid.specs.Turn.{onward, backward, CounterClockwise}
use Rattle.grid.specs.declared.points.Point.{Point}
use Rattle.selection.specs.Selected.{Handed as Surveying, AnswersSelect}
use Rattle.selection.specs.declared.Selected.{Selected}
use Rattle.mesh.specs.Triangles.{Three}
use Rattle.mesh.specs.Meshed.{handed as drawing, entries_each, needed, Meshes}
use Rattle.mesh.specs.Rule.{corners_of, three_at, Proper}
use Rattle.mesh.specs.declared.Meshed.{Meshed}
use Rattle.aim.specs.Geometry.{quartered, Contains, area, Plane}
use Rattle.aim.specs.Quotient.{format, Exactly}
use Rattle.aim.specs.Aimed.{Handed, handed, Origin, surveyed, filled, said, height_at, plane_at}
use Rattle.aim.specs.Rule.{queried, FilledCorner}
use Rattle.aim.specs.declared.HeightAnswer.{HeightAnswer}
use Rattle.aim.specs.declared.PlaneAnswer.{PlaneAnswer}

-- The calls: a selection that accepts, whatever its buffers held; then triangles, on the marks that it wrote, with room enough: three entries for each
-- triangle, by document 01's count, which is their number, since the set is closed. (6N² entries are always enough: `room_enough` in mesh.)
pub record Called (s : Surveying) (a : Selected) (marks : List ℕ) (heights : List ℤ) (places : List ℕ) (r : Meshed) (places' : List ℕ) : Type 0 where
  pub selects : AnswersSelect s a marks heights
  pub accepts : a.refusal ≡ accepted
  pub room : entries_each * needed (drawing marks s.m places) ≤ length places
  pub meshes : Meshes (drawing marks s.m places) r places'

-- from sample p to sample s, the point q, in quarter cells, lies to the left, and not on the line
abbrev pub Leftward : Point → Point → Point → Type 0
Leftward p s q = CounterClockwise (quartered p) (quartered s) q

-- a triangle, its corners in counter-clockwise order, has a point, given in quarter cells, strictly inside: its border is not counted
pub record Encloses (t : Three) (q : Point) : Type 0 where
  pub first : Leftward t.first t.second q
  pub second : Leftward t.second t.third q
  pub third : Leftward t.third t.first q

-- one of the first n triangles in the list contains a point
pub record Covered (m : ℕ) (places : List ℕ) (n : ℕ) (q : Point) : Type 0 where
  pub number : ℕ
  pub written : number < n
  pub contains : Contains (three_at m places number) q

-- What a triangle gives at the queried point, by its own three corners. They turn counter-clockwise, so there is one plane through them (`plane_only` in
-- aim): the height is that of this plane at the point, exactly, z being it times 4N. Filled exactly when a corner that weighs in has a mark of 4 or
-- more, and else Surveyed.
pub record Gives (h : Handed) (t : Three) (o : Origin) (x : Float) : Type 0 where
  pub turns : CounterClockwise t.first t.second t.third
  pub z : ℤ
  pub e : ℤ
  pub n : ℤ
  pub plane : Plane h.m h.heights t (queried h) z e n
  pub exactly : Exactly format z (in_quarters h.m) x
  pub is_filled : (o ≡ filled) ↔ FilledCorner h t
  pub is_surveyed : (o ≡ surveyed) ↔ ¬ (FilledCorner h t)

-- what holds at one queried point, of the first n triangles in the list
pub record SurfaceAt (h : Handed) (places : List ℕ) (n : ℕ) : Type 0 where
  -- height and plane accept the point, and have one height there
  pub height_accepts : (a : HeightAnswer) → said a ≡ height_at h → (said a).refusal ≡ accepted
  pub plane_accepts : (p : PlaneAnswer) → p ≡ plane_at h → p.refusal ≡ accepted
  pub level : (a : HeightAnswer) → said a ≡ height_at h → (p : PlaneAnswer) → p ≡ plane_at h → p.ground.height ≡ (said a).height
  -- it lies in at least one triangle
  pub covered : Covered h.m places n (queried h)
  -- every triangle that contains it, borders counted, gives the very height and origin that the height query gives there
  pub agrees : (a : HeightAnswer) → said a ≡ height_at h → (i : ℕ) → i < n → Contains (three_at h.m places i) (queried h) →
      Gives h (three_at h.m places i) (said a).origin (said a).height
  -- if it is strictly inside one triangle, no other contains it, borders counted: so it is not strictly inside two
  pub once : (i j : ℕ) → i < n → j < n → Encloses (three_at h.m places i) (queried h) → Contains (three_at h.m places j) (queried h) → i ≡ j

-- A line between two triangles, through two points of whole coordinates: no corner of the first is to its left, and none of the second to its right. So
-- they do not overlap, at any point at all.
pub record Parted (t u : Three) : Type 0 where
  pub from : Point
  pub to : Point
  pub distinct : from ≢ to
  pub first : (p : Point) → Memᴰ p (corners_of t) → onward from to p ≤ backward from to p
  pub second : (p : Point) → Memᴰ p (corners_of u) → backward from to p ≤ onward from to p

-- f 0, f 1, .. f (n - 1) added up
abbrev pub total : (ℕ → ℕ) → ℕ → ℕ
total f zero = 0
total f (suc n) = f 0 + total (λ i. f (suc i)) n

-- one surface, by the marks, the heights, and what triangles answered and wrote
pub record OneSurface (m : ℕ) (marks : List ℕ) (heights : List ℤ) (r : Meshed) (places : List ℕ) : Type 0 where
  -- triangles accepts; each of them stands in the list, and has its corners in the square, counter-clockwise, so that containing, enclosing and
  -- areas mean what they say
  pub meshed : r.refusal ≡ accepted
  pub long : entries_each * r.triangles ≤ length places
  pub proper : (i : ℕ) → i < r.triangles → Proper m (three_at m places i)
  -- at every quarter-cell point of the square: it is covered, with one height and one origin, and strictly inside at most one triangle
  pub everywhere : (x y : ℕ) → x ≤ in_quarters m → y ≤ in_quarters m → SurfaceAt (handed marks heights m x y) places r.triangles
  -- the doubled areas add up to twice the square's area, 2N²
  pub areas : total (λ i. area (three_at m places i)) r.triangles ≡ 2 * (side m * side m)
  -- ours: a line parts any two
  pub parted : (i j : ℕ) → i < j → j < r.triangles → Parted (three_at m places i) (three_at m places j)
