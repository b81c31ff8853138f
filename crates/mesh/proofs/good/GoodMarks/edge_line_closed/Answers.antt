-- `mesh::good::GoodMarks::edge_line_closed` meets its contract: its line is a stride, and what it looks at lies beside it.
use Rattle.mesh.proofs.Asked.{edge_stride, edge_told}
use Rattle.mesh.proofs.good.GoodMarks.edge_line_closed.Goals as goal

pub along-requires : goal.along-requires
along-requires c =
    edge_stride c.args.self.now c.args.self.now.grid.sound.sided c.requires.0 c.args.turned c.requires.1 c.unit-u.ensures c.unit-v.ensures
    c.reach-before.ensures c.reach-after.ensures

pub returns : goal.returns
returns c =
    edge_told c.args.self.now c.args.self.now.grid.sound.sided c.requires.0 c.args.turned c.requires.1 c.unit-u.ensures c.unit-v.ensures
    c.reach-before.ensures c.reach-after.ensures c.along.ensures
