-- `mesh::good::GoodMarks::between_ends` meets its contract: those between the ends are counted.
use mathlib.Core.Path.{◌∙◌}
use Prim.Native.Nat.{◌+◌, ◌-◌, ◌<◌}
use native.Mathlib.Omega.{arith}
use lib.Pow.{pow_pos}
use Rattle.grid.specs.Grid.{side}
use Rattle.mesh.proofs.Tally.{kept_slice}
use Rattle.mesh.proofs.good.GoodMarks.between_ends.Goals as goal

pub returns : goal.returns
returns c =
    let v = c.args.self.now in
    let some : 0 < side v.grid.m = pow_pos v.grid.m in
    c.from.ensures
    ∙ kept_slice v.bytes.now v.plain (c.args.at + 1) (c.args.at + v.grid.side) (side v.grid.m - 1) (omega (arith, v.grid.sound.sided)) (omega (arith, v.grid.sound.sided))
    c.kept_of.ensures
