-- `grid::Grid::point` meets its contract: a place below the number of samples fits 32 bits.
use Rattle.grid.specs.Grid.{point}
use Rattle.grid.proofs.Grid.point.Goals as goal

pub returns : goal.returns
unfolding point
returns c = rw c.args.self.sound.sided
