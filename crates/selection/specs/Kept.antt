-- The points that selection keeps, for any test of which points are over tolerance. Document 01, "Points, ends and
-- dependencies". That they are the least closed set is stated in `Rule`. Definitions only.
use Rattle.std.specs.Prelude.{ℕ, zero, suc, ◌*◌, Bool, false, ◌||◌, List, [], ◌∷◌}
use Rattle.grid.specs.Points.{is_corner, dependents}
use Rattle.grid.specs.declared.points.Point.{Point}

-- whether f holds of some member of a list
abbrev pub some : {A : Type 0} → (A → Bool) → List A → Bool
some f [] = false
some f (a ∷ l) = f a || some f l

-- a point has a chain of at most d steps: it is over tolerance itself, or one of its dependents has a chain of at most d - 1
unfoldable pub chain : ℕ → ℕ → (Point → Bool) → Point → Bool
chain zero m over p = over p
chain (suc d) m over p = over p || some (chain d m over) (dependents m p)

-- kept: the grid corners, and every point that has a chain. (A step to a dependent lowers the rank by one, and the ranks of
-- points that are no grid corners are below 2m, so no chain is longer.)
unfoldable pub kept : ℕ → (Point → Bool) → Point → Bool
kept m over p = is_corner m p || chain (2 * m) m over p
