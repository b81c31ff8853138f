-- Document 01's sentences about selection, as records. A call meets the promise just where `Follows` holds; of an accepted call `Told` holds
-- besides. Definitions only.
use Rattle.std.specs.Prelude.{◌≡◌, ℕ, suc, ◌*◌, ◌<◌, ◌≤◌, Bool, true, false, not, ◌&&◌, ◌≢◌, ◌⊎◌, ◌↔◌, List, [], ◌∷◌, length, ℤ, pos, ◌+ℤ◌, ◌-ℤ◌, ◌*ℤ◌, unsigned_abs}
use mathlib.Core.List.{Memᴰ}
use Rattle.grid.specs.Grid.{Inside, largest, samples, is_void}
use Rattle.grid.specs.Points.{is_corner, ends, depends_on}
use Rattle.grid.specs.Mark.{for_error, good_mark, kept_mark, filled_mark}
use Rattle.grid.specs.Refusal.{accepted, size_above, wrong_length, void_corner, tolerance_above}
use Rattle.grid.specs.declared.points.Point.{Point}
use Rattle.survey.specs.Filled.{sample, CornersSurveyed}
use Rattle.survey.specs.Rule.{Fills}
use Rattle.selection.specs.Marks.{mark_at, marked_dependence}
use Rattle.selection.specs.Selected.{highest_tolerance, Handed}
use Rattle.selection.specs.declared.Selected.{Selected}

-- a set is closed when it holds the grid corners and, with each point, all it depends on
pub record Closed (m : ℕ) (set : Point → Type 0) : Type 0 where
  pub corners : (p : Point) → is_corner m p ≡ true → set p
  pub depends : (p q : Point) → Inside m p → set p → Memᴰ q (depends_on m p) → set q

-- a set contains every point over tolerance
abbrev pub Contains : ℕ → (Point → Bool) → (Point → Type 0) → Type 0
Contains m over set = (p : Point) → Inside m p → over p ≡ true → set p

-- the least closed set containing every point over tolerance: it is one, and it lies inside every other
pub record Least (m : ℕ) (over : Point → Bool) (set : Point → Type 0) : Type 1 where
  pub closed : Closed m set
  pub contains : Contains m over set
  pub least : (other : Point → Type 0) → Closed m other → Contains m over other → (p : Point) → Inside m p → set p → other p

-- all three buffers are exactly (N+1)² long
pub record Lengths (h : Handed) : Type 0 where
  pub survey : length h.survey ≡ samples h.m
  pub marks : length h.marks ≡ samples h.m
  pub heights : length h.heights ≡ samples h.m

-- each refusal number with its case, where several hold the first in the order 1, 2, 4, 3; and 0 where nothing is turned down
pub data Turned (h : Handed) : ℕ → Type 0 where
  size : largest < h.m → Turned h size_above
  lengths : h.m ≤ largest → ¬ (Lengths h) → Turned h wrong_length
  tolerance : h.m ≤ largest → Lengths h → highest_tolerance < h.tolerance → Turned h tolerance_above
  corner : h.m ≤ largest → Lengths h → h.tolerance ≤ highest_tolerance → ¬ (CornersSurveyed h.m h.survey) → Turned h void_corner
  nothing : h.m ≤ largest → Lengths h → h.tolerance ≤ highest_tolerance → CornersSurveyed h.m h.survey → Turned h accepted

-- on a refusal every count handed back is 0, and the buffers stay untouched
pub record Untouched (h : Handed) (r : Selected) (marks' : List ℕ) (heights' : List ℤ) : Type 0 where
  pub own : r.own ≡ 0
  pub dependent : r.dependent ≡ 0
  pub voids : r.voids ≡ 0
  pub marks : marks' ≡ h.marks
  pub heights : heights' ≡ h.heights

-- so many members of a list are so
pub data SoMany {A : Type 0} (So : A → Type 0) : List A → ℕ → Type 0 where
  none : SoMany So [] 0
  so : {a : A} {l : List A} {n : ℕ} → So a → SoMany So l n → SoMany So (a ∷ l) (suc n)
  other : {a : A} {l : List A} {n : ℕ} → ¬ (So a) → SoMany So l n → SoMany So (a ∷ l) n

-- what an accepted selection, of size m, of this survey, by this test of what is over tolerance, answered and wrote
pub record Selection (m : ℕ) (survey : List ℤ) (over : Point → Bool) (r : Selected) (marks : List ℕ) (heights : List ℤ) : Type 1 where
  -- one byte per sample
  pub long : length marks ≡ samples m
  -- the points kept, those marked 1, 2, 3 or 6, are the least closed set containing every point over tolerance
  pub least : Least m over (λ p. kept_mark (mark_at m marks p) ≡ true)
  -- good marks: 3 at grid corners and 0, 1, 2, 4, 6 elsewhere
  pub good : (p : Point) → Inside m p → good_mark (is_corner m p) (mark_at m marks p) ≡ true
  -- 1: kept for its own error
  pub own_marks : (p : Point) → Inside m p → (mark_at m marks p ≡ for_error) ↔ (over p ≡ true)
  -- plus 4 if the sample was void
  pub void_marks : (p : Point) → Inside m p → filled_mark (mark_at m marks p) ≡ is_void (sample m survey p)
  -- the filled heights
  pub fills : Fills m survey heights
  -- the answer counts the points marked 1, those marked 2 or 6, and the voids
  pub own_count : SoMany (λ k. k ≡ 1) marks r.own
  pub dependent_count : SoMany (λ k. (k ≡ 2) ⊎ (k ≡ 6)) marks r.dependent
  pub void_count : SoMany (λ h. is_void h ≡ true) survey r.voids

-- a point is off its ends by more than t, by the heights written alone: its sample is not void, and |2h - (a + b)| exceeds 2t, h the height
-- at the point, a and b those at its two ends
pub record OffItsEnds (m t : ℕ) (survey heights : List ℤ) (p : Point) : Type 0 where
  pub surveyed : is_void (sample m survey p) ≡ false
  pub off : 2 * t < unsigned_abs (pos 2 *ℤ sample m heights p -ℤ (sample m heights (ends m p).first +ℤ sample m heights (ends m p).second))

-- an accepted selection, by the test of what is over tolerance t: that holds exactly of the points off their ends
pub record ByTolerance (h : Handed) (r : Selected) (marks : List ℕ) (heights : List ℤ) : Type 1 where
  pub over : Point → Bool
  pub exceeds : (p : Point) → Inside h.m p → (over p ≡ true) ↔ OffItsEnds h.m h.tolerance h.survey heights p
  pub selection : Selection h.m h.survey over r marks heights

-- a call follows document 01
pub record Follows (h : Handed) (r : Selected) (marks' : List ℕ) (heights' : List ℤ) : Type 1 where
  pub turned : Turned h r.refusal
  pub refused : r.refusal ≢ accepted → Untouched h r marks' heights'
  pub selected : r.refusal ≡ accepted → ByTolerance h r marks' heights'

-- what a reader may rely on besides: 2 and 6 stand at the points kept only for dependence; the voids are as many as the marks of 4 or more
pub record Told (m : ℕ) (over : Point → Bool) (r : Selected) (marks : List ℕ) : Type 0 where
  pub dependence : (p : Point) → Inside m p →
      marked_dependence (mark_at m marks p) ≡ (not (is_corner m p) && (not (over p) && kept_mark (mark_at m marks p)))
  pub voids : SoMany (λ k. 4 ≤ k) marks r.voids
