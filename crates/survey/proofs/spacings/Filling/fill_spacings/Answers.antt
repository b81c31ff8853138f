-- `survey::spacings::Filling::fill_spacings` meets its contract. The invariant: the heights are partly filled, and the larger spacings are.
use mathlib.Core.Path.{◌≡◌}
use Prim.Native.Nat.{ℕ, ◌-◌, ◌*◌, ◌^◌, ◌%◌, ◌≤◌, ◌<◌}
use native.Mathlib.Omega.{arith}
use Rattle.grid.specs.Grid.{side, widest, largest}
use Rattle.grid.proofs.Places.{side_small}
use Rattle.survey.specs.Inner.{RowsFilled}
use Rattle.survey.proofs.Leaving.{left_then, left_two, left_so, left_of}
use Rattle.survey.proofs.Partial.{ready_on}
use Rattle.survey.proofs.Rows.{coarser_on}
use Rattle.survey.proofs.Sweep.{no_void}
use Rattle.survey.proofs.spacings.Filling.fill_spacings.Goals as goal

-- the spacing, shifted into 64 bits
abbrev shifted : ℕ → ℕ
shifted k = 1 * 2 ^ (k - 1) % 2 ^ 64

fits : {m k : ℕ} → m ≤ largest → 0 < k → k ≤ m → shifted k ≡ 2 ^ (k - 1)
fits {k = k} small some most = let few : side (k - 1) ≤ widest = side_small {m = k - 1} (omega arith) in omega arith

pub loop-k-preserved : goal.loop-k-preserved
loop-k-preserved c =
    let here = c.loop-k.invariant in
    let even = left_of here (λ m. RowsFilled m c.fill_even_rows.new.self.heights.now (shifted c.loop-k.k) 0) c.fill_even_rows.ensures in
    let two = left_two here c.fill_even_rows.ensures in
    let odd = left_of two (λ m. RowsFilled m c.fill_odd_rows.new.self.heights.now (shifted c.loop-k.k) 1) c.fill_odd_rows.ensures in
    let some = c.loop-k-test.true in
    left_then two c.fill_odd_rows.ensures
    (coarser_on some (fits c.args.self.now.grid.sound.small some c.loop-k.auto.k) here.swept.stand even odd)

pub returns : goal.returns
returns c =
    let here = c.loop-k.invariant in
    let ready = ready_on c.args.self.now.ready here.swept.partly in
    left_so here (no_void _ _ ready.long ready.corners (λ j l. here.swept.stand.filled j (omega arith) l))
