-- Whether all marks are good, and whether the points that they keep are a closed set. Document 01, "Marks" and "Points, ends and
-- dependencies"; its sentences are `Good` in `Rule` and `Closed` in selection's. All is said of points of the square. Definitions only.
use Rattle.std.specs.Prelude.{Bool, true, not, ◌&&◌, ◌||◌, List, [], ◌∷◌, ℕ}
use Rattle.grid.specs.Points.{is_corner, depends_on}
use Rattle.grid.specs.Mark.{good_mark, kept_mark}
use Rattle.grid.specs.declared.points.Point.{Point}
use Rattle.selection.specs.Marks.{mark_at}
use Rattle.grid.specs.Grid.{corners}
use Rattle.mesh.specs.Triangles.{points}

-- whether f holds of every member of a list
abbrev pub every : {A : Type 0} → (A → Bool) → List A → Bool
every f [] = true
every f (a ∷ l) = f a && every f l

-- the mark that stands at a point is good there
abbrev pub good_at : ℕ → List ℕ → Point → Bool
good_at m marks p = good_mark (is_corner m p) (mark_at m marks p)

-- triangles look at every mark: at each sample it is good
unfoldable pub good_marks : ℕ → List ℕ → Bool
good_marks m marks = every (good_at m marks) (points m)

-- a point is kept if its mark is 1, 2, 3 or 6
abbrev pub kept_by : ℕ → List ℕ → Point → Bool
kept_by m marks p = kept_mark (mark_at m marks p)

-- if this point is kept, so is all it depends on
unfoldable pub supported : ℕ → (Point → Bool) → Point → Bool
supported m kept p = not (kept p) || every kept (depends_on m p)

-- a set is closed when it holds the grid corners and, with each point, all it depends on
unfoldable pub closed : ℕ → (Point → Bool) → Bool
closed m kept = every kept (corners m) && every (supported m kept) (points m)
