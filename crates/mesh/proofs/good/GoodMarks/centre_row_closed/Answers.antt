-- `mesh::good::GoodMarks::centre_row_closed` meets its contract: the row is two strides, each with its own diagonal.
use mathlib.Core.Path.{refl}
use mathlib.Core.Bool.{false}
use native.Mathlib.Omega.{arith}
use Rattle.mesh.specs.Closed.{kept_by}
use Rattle.mesh.proofs.Asked.{other_across, centre_stride, centre_told}
use Rattle.mesh.proofs.Lines.{line_halves}
use Rattle.mesh.proofs.good.GoodMarks.centre_row_closed.Goals as goal

pub along-requires : goal.along-requires
along-requires c =
    centre_stride c.args.self.now c.args.self.now.grid.sound.sided c.requires.0 c.requires.1.line 1 refl c.requires.1.across (omega arith)

pub along-requires-2 : goal.along-requires-2
along-requires-2 c =
    centre_stride c.args.self.now c.args.self.now.grid.sound.sided c.requires.0 c.requires.1.line 3 refl (other_across c.args.self.now c.args.self.now.grid.sound.sided c.requires.0 c.requires.1) refl

pub returns : goal.returns
returns c =
    line_halves c.requires.0 (kept_by c.args.self.now.grid.m c.args.self.now.bytes.now) false c.args.y
    (centre_told c.args.self.now c.args.self.now.grid.sound.sided c.requires.0 c.requires.1.line 1 refl c.requires.1.across (omega arith) c.along.ensures)
    (centre_told c.args.self.now c.args.self.now.grid.sound.sided c.requires.0 c.requires.1.line 3 refl (other_across c.args.self.now c.args.self.now.grid.sound.sided c.requires.0 c.requires.1) refl c.along-2.ensures)
