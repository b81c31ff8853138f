-- `grid::marks::Marks::at` meets its contract: a mark stands at the place of every point of the square.
use Rattle.grid.proofs.Places.{place_below}
use Rattle.grid.proofs.marks.Marks.at.Goals as goal

pub bounds-self-place : goal.bounds-self-place
bounds-self-place c = rw (c.place.ensures, c.args.self.now.whole) (place_below _ _ c.requires)
