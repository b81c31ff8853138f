-- `aim::walk::start` meets its contract: the places of the grid corners, and the weights by the side of the diagonal.
use mathlib.Core.Path.{sym, ◌∙◌}
use borrow.Author.Tests.{leb-true, leb-false}
use Rattle.aim.proofs.Placing.{start_first, start_second}
use Rattle.aim.proofs.walk.start.Goals as goal

pub returns-then-goes_first : goal.returns-then-goes_first
returns-then-goes_first c =
    rw (c.in_quarters.ensures, c.args.g.sound.sided)
    (start_first c.args.g.m c.args.x c.args.y (leb-true c.args.y c.args.x (sym c.goes_first.ensures ∙ c.if-goes_first.true)))

pub returns : goal.returns
returns c =
    rw (c.in_quarters-2.ensures, c.args.g.sound.sided)
    (start_second c.args.g.m c.args.x c.args.y (leb-false c.args.y c.args.x (sym c.goes_first.ensures ∙ c.if-goes_first.false)))
