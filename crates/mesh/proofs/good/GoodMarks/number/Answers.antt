-- `mesh::good::GoodMarks::number` meets its contract. The invariant: the northmost row and the rows below this one are counted.
use native.Mathlib.Omega.{arith}
use mathlib.Core.Path.{refl}
use Prim.Native.Nat.{◌+◌, ◌*◌}
use Rattle.grid.proofs.Places.{samples_small}
use Rattle.mesh.proofs.Tally.{ends_most, row_most, counted_first, counted_next, counted_last, counted_most}
use Rattle.mesh.proofs.good.GoodMarks.number.Goals as goal

pub overflow_add-triangles : goal.overflow_add-triangles
overflow_add-triangles c =
    let v = c.args.self.now in
    let south = ends_most v.bytes.now 0 v.grid.m v.grid.sound.small c.between_ends.ensures in
    record { fits = omega (arith, south) }

pub overflow_add-triangles-2 : goal.overflow_add-triangles-2
overflow_add-triangles-2 c =
    let v = c.args.self.now in
    let n = v.grid.side in
    let south = ends_most v.bytes.now 0 v.grid.m v.grid.sound.small c.between_ends.ensures in
    let north = ends_most v.bytes.now (n * (n + 1)) v.grid.m v.grid.sound.small c.between_ends-2.ensures in
    record { fits = omega (arith, south, north) }

pub loop-at-init : goal.loop-at-init
loop-at-init c =
    let v = c.args.self.now in counted_first v.grid.m v.bytes.now v.grid.sound.sided c.between_ends.ensures c.between_ends-2.ensures

pub overflow_add-triangles-in-loop-at : goal.overflow_add-triangles-in-loop-at
overflow_add-triangles-in-loop-at c =
    let v = c.args.self.now in
    let at = c.loop-at in
    let most = counted_most v.grid.m v.bytes.now v.grid.sound.sided at.invariant (omega arith) in
    let row = row_most v.bytes.now at.at v.grid.m v.grid.sound.small refl refl refl in
    record { fits = omega (arith, most, samples_small v.grid.sound.small, row, c.inner_row-triangles.ensures) }

pub loop-at-preserved : goal.loop-at-preserved
loop-at-preserved c =
    let v = c.args.self.now in
    counted_next v.grid.m v.bytes.now v.grid.sound.sided c.loop-at.invariant c.loop-at-test.true c.inner_row-triangles.ensures

pub returns : goal.returns
returns c =
    let v = c.args.self.now in
    counted_last v.grid.m v.bytes.now v.grid.sound.sided c.loop-at.invariant c.loop-at-test.false

pub returns-2 : goal.returns-2
returns-2 c =
    let v = c.args.self.now in
    let all = counted_next v.grid.m v.bytes.now v.grid.sound.sided c.loop-at.invariant c.loop-at-test.true c.inner_row-triangles.ensures in
    counted_last v.grid.m v.bytes.now v.grid.sound.sided all (omega arith)
