-- `mesh::good::GoodMarks::inner_row` meets its contract: those counted twice hold the west end, which counts once.
use mathlib.Core.Path.{refl, ◌∙◌}
use Prim.Native.Nat.{◌+◌}
use native.Mathlib.Omega.{arith}
use Rattle.grid.specs.Grid.{side}
use Rattle.mesh.proofs.Tally.{row_told, kept_there}
use Rattle.mesh.proofs.good.GoodMarks.inner_row.Goals as goal

pub overflow_sub-result : goal.overflow_sub-result
overflow_sub-result c =
    let v = c.args.self.now in
    let twice = c.from.ensures ∙ row_told v.bytes.now v.plain v.grid.m c.args.at v.grid.sound.sided c.requires c.kept_of.ensures in
    let west = kept_there v.bytes.now v.plain c.args.at refl (c.from-west.ensures ∙ c.one_if_kept.ensures) in
    omega (arith, twice, west)

pub returns : goal.returns
returns c =
    let v = c.args.self.now in
    let twice = c.from.ensures ∙ row_told v.bytes.now v.plain v.grid.m c.args.at v.grid.sound.sided c.requires c.kept_of.ensures in
    let west = kept_there v.bytes.now v.plain c.args.at refl (c.from-west.ensures ∙ c.one_if_kept.ensures) in
    let east =
    kept_there v.bytes.now v.plain (c.args.at + side v.grid.m) (omega (arith, v.grid.sound.sided)) (c.from-east.ensures ∙ c.one_if_kept-2.ensures) in
    omega (arith, twice, west, east)
