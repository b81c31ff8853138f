-- `mesh::good::GoodMarks::closed` meets its contract: each spacing is asked.
use mathlib.Core.Path.{refl}
use Prim.Native.Nat.{◌^◌}
use Rattle.std.proofs.Common.{rules, arith}
use borrow.Author.Tests.{tests}
use Rattle.std.proofs.lemmas.Iterator.{cases_from_all, YieldsList-from_range}
use Rattle.mesh.specs.Inner.{SpacingClosed}
use Rattle.mesh.specs.Closed.{kept_by}
use Rattle.mesh.proofs.Lines.{spacings_told}
use Rattle.mesh.proofs.good.GoodMarks.closed.Goals as goal

pub returns : goal.returns
returns c =
    let v = c.args.self.now in
    spacings_told v.grid.m (kept_by v.grid.m v.bytes.now) c.all.result
    (cases_from_all _ _ _ (λ j. SpacingClosed v.grid.m (kept_by v.grid.m v.bytes.now) (2 ^ j)) (λ j. ¬ (SpacingClosed v.grid.m (kept_by v.grid.m v.bytes.now) (2 ^ j))) c.all.ensures.ran (YieldsList-from_range 0 v.grid.m v.grid.m refl (omega arith)) (λ x q k. search (rules, tests)) (λ x q k. search (rules, tests)))
