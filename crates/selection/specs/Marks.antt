-- The marks that selection writes, and what it counts. Document 01, "Marks". Definitions only.
use Rattle.std.specs.Prelude.{ℕ, ◌+◌, Bool, cond, ◌||◌, List, [], ◌∷◌, ℤ, ◌==◌, slice_index_or}
use Rattle.grid.specs.Grid.{is_void, place, on_grid}
use Rattle.grid.specs.Points.{is_corner}
use Rattle.grid.specs.Mark.{left_out, for_error, for_dependence, for_corner, if_void, void_kept}
use Rattle.grid.specs.declared.points.Point.{Point}
use Rattle.survey.specs.Filled.{sample}
use Rattle.selection.specs.Kept.{kept}

-- 0 left out, 1 kept for its own error, 2 kept only for dependence; plus 4 if the sample was void. (A void is never over
-- tolerance, so 5 does not occur.)
abbrev pub mark_by : Bool → Bool → Bool → ℕ
mark_by isvoid over kept = cond over for_error (cond kept for_dependence left_out) + cond isvoid if_void 0

-- the mark of a point: 3 at a grid corner, elsewhere as above
unfoldable pub mark : ℕ → List ℤ → (Point → Bool) → Point → ℕ
mark m survey over p = cond (is_corner m p) for_corner (mark_by (is_void (sample m survey p)) (over p) (kept m over p))

-- one mark for each sample
unfoldable pub marks_of : ℕ → List ℤ → (Point → Bool) → List ℕ
marks_of m survey over = on_grid m (mark m survey over)

-- the mark that stands at a point, in a list of marks (left out beyond it)
abbrev pub mark_at : ℕ → List ℕ → Point → ℕ
mark_at m marks p = slice_index_or marks (place m p) left_out

-- of how many members of a list f holds
abbrev pub count : {A : Type 0} → (A → Bool) → List A → ℕ
count f [] = 0
count f (a ∷ l) = cond (f a) 1 0 + count f l

-- the answer counts the points marked 1, those marked 2 or 6 (and the voids: `is_void` of the survey)
abbrev pub marked_own : ℕ → Bool
marked_own k = k == for_error

abbrev pub marked_dependence : ℕ → Bool
marked_dependence k = k == for_dependence || k == void_kept
