-- Height and ground plane as a whole: the refusals, in their order, and the answers. Document 01, "Height at a point", "What a call may
-- turn down". Definitions only.
use Rattle.std.specs.Prelude.{◌≡◌, Bool, cond, not, ◌&&◌, ◌||◌, List, [], ◌∷◌, ◌++◌, ℕ, ◌*◌, ◌^◌, eqb, ltb, length, ℤ, pos, ◌+ℤ◌, ◌-ℤ◌, ◌*ℤ◌, Float}
use Rattle.std.specs.Int.{w16}
use Rattle.std.proofs.Common.{SFits}
use Rattle.grid.specs.Grid.{largest, samples, in_quarters, at, is_void}
use Rattle.grid.specs.Mark.{filled_mark}
use Rattle.grid.specs.Refusal.{accepted, size_above, wrong_length, void_corner, point_beyond, bad_mark}
use Rattle.grid.specs.declared.points.Point.{Point}
use Rattle.survey.specs.Filled.{sample}
use Rattle.selection.specs.Kept.{some}
use Rattle.selection.specs.Marks.{mark_at}
use Rattle.grid.specs.Grid.{corners}
use Rattle.mesh.specs.Triangles.{Three, written}
use Rattle.mesh.specs.Closed.{every, good_at, kept_by}
use Rattle.aim.specs.Quotient.{format, plus_zero, quotient}
use Rattle.aim.specs.Walk.{Weighed, Under, start, walk, met}
use Rattle.aim.specs.declared.HeightAnswer.{HeightAnswer}
use Rattle.aim.specs.declared.HeightAnswer.TheVariants.{Surveyed, Filled, Refused}
use Rattle.aim.specs.declared.GroundPlane.{GroundPlane}
use Rattle.aim.specs.declared.PlaneAnswer.{PlaneAnswer}

-- what either call is handed: the marks and the heights, which it only reads, the size, and the point, in quarter cells
pub record Handed : Type 0 where
  pub marks : List ℕ
  pub heights : List ℤ
  pub m : ℕ
  pub x : ℕ
  pub y : ℕ

abbrev pub handed : List ℕ → List ℤ → ℕ → ℕ → ℕ → Handed
handed marks heights m x y = record { marks = marks; heights = heights; m = m; x = x; y = y }

-- both buffers are exactly (N+1)² long
abbrev pub right_lengths : Handed → Bool
right_lengths h = eqb (length h.marks) (samples h.m) && eqb (length h.heights) (samples h.m)

-- the point lies beyond 4N
abbrev pub beyond : Handed → Bool
beyond h = ltb (in_quarters h.m) h.x || ltb (in_quarters h.m) h.y

-- the triangle in which the walk starts, and where it ends
abbrev pub started : Handed → Weighed
started h = start h.m (at h.x h.y)

unfoldable pub ended : Handed → Under
ended h = walk (kept_by h.m h.marks) (2 * h.m) (started h)

-- the points whose marks are looked at: only the four grid corners and the midpoints that the walk meets
unfoldable pub looked : Handed → List Point
looked h = corners h.m ++ met (kept_by h.m h.marks) (2 * h.m) (started h)

-- the corners of a triangle
abbrev pub corners_of : Weighed → List Point
corners_of t = t.l ∷ t.a ∷ t.r ∷ []

-- a corner of the final triangle has height -32768, whatever its weight
abbrev pub corner_void : Handed → Bool
corner_void h = some (λ p. is_void (sample h.m h.heights p)) (corners_of (ended h).triangle)

-- the first case that holds, in the order 1, 2, 5, 6, 3; or no refusal
unfoldable pub refusal : Handed → ℕ
refusal h =
    cond (ltb largest h.m) size_above
    (cond (not (right_lengths h)) wrong_length
    (cond (beyond h) point_beyond
    (cond (not (every (good_at h.m h.marks) (looked h))) bad_mark
    (cond (corner_void h) void_corner accepted))))

-- the height times 4N: the sum of the corners' heights, each by its weight
unfoldable pub weighted : ℕ → List ℤ → Weighed → ℤ
weighted m heights t =
    pos t.wl *ℤ sample m heights t.l +ℤ pos t.wa *ℤ sample m heights t.a +ℤ pos t.wr *ℤ sample m heights t.r

-- the height
unfoldable pub height_in : ℕ → List ℤ → Weighed → Float
height_in m heights t = quotient format (weighted m heights t) (in_quarters m)

-- a corner of this weight, with this mark, makes the answer filled: the weight is other than zero, and the mark is 4 or more
abbrev pub fills : ℕ → ℕ → Bool
fills w mark = not (eqb w 0) && filled_mark mark

-- Filled exactly when a corner with a weight other than zero carries a mark of 4 or more
unfoldable pub is_filled : ℕ → List ℕ → Weighed → Bool
is_filled m marks t =
    fills t.wl (mark_at m marks t.l) || (fills t.wa (mark_at m marks t.a) || fills t.wr (mark_at m marks t.r))

-- where an answer comes from: there is none, it is surveyed, or it is filled
pub data Origin : Type 0 where
  nowhere surveyed filled : Origin

-- what an answer says in document 01's words: the refusal's number (0, which it leaves free, for none), the origin, and the height
pub record Said : Type 0 where
  pub refusal : ℕ
  pub origin : Origin
  pub height : Float

abbrev pub says : ℕ → Origin → Float → Said
says n o x = record { refusal = n; origin = o; height = x }

-- Surveyed with a height, Filled with a height, or a refusal, which has no height: plus zero stands for it
abbrev pub said : HeightAnswer → Said
said (Surveyed x) = says accepted surveyed x
said (Filled x) = says accepted filled x
said (Refused n) = says n nowhere plus_zero

-- what height answers
unfoldable pub height_at : Handed → Said
height_at h =
    let t = (ended h).triangle in
    cond (eqb (refusal h) accepted)
    (says accepted (cond (is_filled h.m h.marks t) filled surveyed) (height_in h.m h.heights t))
    (says (refusal h) nowhere plus_zero)

-- For the heights of three corners in counter-clockwise order and their y: the slope east of the plane through them, times the triangle's
-- doubled area.
abbrev pub tilt : ℤ → ℤ → ℤ → ℕ → ℕ → ℕ → ℤ
tilt hp hq hw cp cq cw =
    hp *ℤ (pos cq -ℤ pos cw) +ℤ hq *ℤ (pos cw -ℤ pos cp) +ℤ hw *ℤ (pos cp -ℤ pos cq)

-- the slopes times the doubled area of a triangle, its corners in counter-clockwise order: east by their y, and north by their x and in the
-- other order, for seen with x and y exchanged they turn clockwise
unfoldable pub eastward : ℕ → List ℤ → Three → ℤ
eastward m heights t =
    tilt (sample m heights t.first) (sample m heights t.second) (sample m heights t.third) t.first.y t.second.y t.third.y

unfoldable pub northward : ℕ → List ℤ → Three → ℤ
northward m heights t =
    tilt (sample m heights t.third) (sample m heights t.second) (sample m heights t.first) t.third.x t.second.x t.first.x

-- the triangle in which a walk ends, as it is written, counter-clockwise. (`written` goes by the cuts made; these and the cuts left are 2m in
-- all, so both are odd or both even.)
abbrev pub as_written : Under → Three
as_written u = written u.left u.triangle.l u.triangle.a u.triangle.r

-- the plane of the triangle that the walk ends in: the height, and the slopes in units per cell (its doubled area is 2 to the cuts left)
unfoldable pub ground_in : ℕ → List ℤ → Under → GroundPlane
ground_in m heights u = record {
  height = height_in m heights u.triangle;
  east = quotient format (eastward m heights (as_written u)) (2 ^ u.left);
  north = quotient format (northward m heights (as_written u)) (2 ^ u.left);
}

-- the floats of a refused plane are plus zero
abbrev pub no_ground : GroundPlane
no_ground = record { height = plus_zero; east = plus_zero; north = plus_zero }

-- an answer of plane: its number, and its floats
abbrev pub plane_answer : ℕ → (ground : GroundPlane) → PlaneAnswer
plane_answer number p = record { refusal = number; ground = p }

-- what plane answers
unfoldable pub plane_at : Handed → PlaneAnswer
plane_at h = plane_answer (refusal h) (cond (eqb (refusal h) accepted) (ground_in h.m h.heights (ended h)) no_ground)

-- The heights at the corners of the final triangle, from which all is worked out, are signed numbers of 16 bits, as those of a lent `&[i16]` are.
-- (Lists of the definitions may hold any whole numbers, and of a height of 2^40 + 1 no float is exact.)
pub record CornersSixteen (h : Handed) : Type 0 where
  pub left : SFits w16 (sample h.m h.heights (ended h).triangle.l)
  pub apex : SFits w16 (sample h.m h.heights (ended h).triangle.a)
  pub right : SFits w16 (sample h.m h.heights (ended h).triangle.r)

-- the promise of height: what the answer says; and that the heights of an answer have 16 bits
pub record AnswersHeight (h : Handed) (r : HeightAnswer) : Type 0 where
  pub answer : said r ≡ height_at h
  pub sixteen : refusal h ≡ accepted → CornersSixteen h

-- the promise of plane, likewise
pub record AnswersPlane (h : Handed) (r : PlaneAnswer) : Type 0 where
  pub answer : r ≡ plane_at h
  pub sixteen : refusal h ≡ accepted → CornersSixteen h
