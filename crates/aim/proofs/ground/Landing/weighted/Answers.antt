-- `aim::ground::Landing::weighted` meets its contract: each corner adds at most 2^24, so that the sum of the three is exact in 32 bits.
use mathlib.Core.Path.{◌≡◌}
use native.Mathlib.Omega.{arith}
use lib.IntN.{ℤ, ◌+ℤ◌}
use Rattle.selection.proofs.Exact.{Exact, held, fits}
use Rattle.aim.specs.Inner.{share, weighted_in}
use Rattle.aim.specs.declared.ground.Landing.{Landing}
use Rattle.aim.proofs.Products.{in32, first_two, all_three}
use Rattle.aim.proofs.Bits.{light, share_told}
use Rattle.aim.proofs.ground.Landing.weighted.Goals as goal

module _ (e : Landing) {u v : ℤ} (l : u ≡ share e.heights.now e.end.l) (a : v ≡ share e.heights.now e.end.a) where
  left : Exact u (share e.heights.now e.end.l) 16777216
  left = share_told e.heights.now e.end.l (omega (arith, light e.grid.sound.small e.footing)) e.footing.stored.left l

  apex : Exact v (share e.heights.now e.end.a) 16777216
  apex = share_told e.heights.now e.end.a (omega (arith, light e.grid.sound.small e.footing)) e.footing.stored.apex a

  two : Exact (in32 u +ℤ in32 v) (share e.heights.now e.end.l +ℤ share e.heights.now e.end.a) 33554432
  two = first_two (omega arith) left apex

  three : {w : ℤ} → w ≡ share e.heights.now e.end.r →
      Exact (in32 (in32 u +ℤ in32 v) +ℤ in32 w) (share e.heights.now e.end.l +ℤ share e.heights.now e.end.a +ℤ share e.heights.now e.end.r) 50331648
  three r =
      all_three (omega arith) left apex
      (share_told e.heights.now e.end.r (omega (arith, light e.grid.sound.small e.footing)) e.footing.stored.right r)

pub overflow_add-result : goal.overflow_add-result
overflow_add-result c = fits (two c.args.self.now c.share.ensures c.share-2.ensures) (omega arith)

pub overflow_add-result-2 : goal.overflow_add-result-2
overflow_add-result-2 c = fits (three c.args.self.now c.share.ensures c.share-2.ensures c.share-3.ensures) (omega arith)

pub returns : goal.returns
unfolding weighted_in
returns c = (held (three c.args.self.now c.share.ensures c.share-2.ensures c.share-3.ensures) (omega arith)).same
