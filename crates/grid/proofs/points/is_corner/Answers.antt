-- `grid::points::is_corner` meets its contract: both coordinates are at an end.
use mathlib.Core.Path.{◌≡◌, ◌∙◌}
use mathlib.Core.Bool.{Bool, ◌&&◌}
use Rattle.grid.specs.Points.{is_corner}
use Rattle.grid.proofs.points.is_corner.Goals as goal

-- a test that came out as t is t in its conjunction
came : {a r t : Bool} (b : Bool) → r ≡ a → r ≡ t → (t && b) ≡ (a && b)
came b e f = rw (← e, f)

pub returns-then-is_outermost : goal.returns-then-is_outermost
unfolding is_corner
returns-then-is_outermost c = c.is_outermost-then-is_outermost.ensures ∙ came _ c.is_outermost.ensures c.if-is_outermost.true

pub returns-else-is_outermost : goal.returns-else-is_outermost
unfolding is_corner
returns-else-is_outermost c = c.if-is_outermost.false ∙ came _ c.is_outermost.ensures c.if-is_outermost.false
