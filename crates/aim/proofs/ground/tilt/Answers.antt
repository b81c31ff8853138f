-- `aim::ground::tilt` meets its contract: heights have 16 bits and places along an axis 8, so that three products of the two are exact in 32.
use Prim.Native.Nat.{ℕ, ◌≤◌}
use native.Mathlib.Omega.{arith}
use lib.IntN.{ℤ, pos, ◌+ℤ◌, ◌-ℤ◌, ◌*ℤ◌}
use mir.Syntax.{w16, w32}
use mir.Val.{SFits, to_z, of_z}
use Rattle.grid.specs.Grid.{widest}
use Rattle.aim.specs.Aimed.{tilt}
use Rattle.selection.proofs.Exact.{Exact, handed, held, fits, difference}
use Rattle.aim.proofs.Products.{product, counted, in32, first_two, all_three}
use Rattle.aim.proofs.ground.tilt.Goals as goal

-- the difference of two places, and its product with a height
abbrev apart : ℕ → ℕ → ℤ
apart q w = to_z w32 q -ℤ to_z w32 w

abbrev term : ℤ → ℕ → ℕ → ℤ
term h q w = in32 (to_z w16 (of_z w16 h)) *ℤ in32 (apart q w)

apart_exact : {q w : ℕ} → q ≤ widest → w ≤ widest → Exact (apart q w) (pos q -ℤ pos w) 256
apart_exact k l = difference (counted k (omega arith)) (counted l (omega arith))

term_exact : {h : ℤ} {q w : ℕ} → SFits w16 h → q ≤ widest → w ≤ widest → Exact (term h q w) (h *ℤ (pos q -ℤ pos w)) 8388608
term_exact f k l = product (held (handed f) (omega arith)) (held (apart_exact k l) (omega arith))

module _ {hp hq hw : ℤ} {cp cq cw : ℕ} (fp : SFits w16 hp) (fq : SFits w16 hq) (fw : SFits w16 hw)
    (kp : cp ≤ widest) (kq : cq ≤ widest) (kw : cw ≤ widest) where
  first : Exact (term hp cq cw) (hp *ℤ (pos cq -ℤ pos cw)) 8388608
  first = term_exact fp kq kw

  second : Exact (term hq cw cp) (hq *ℤ (pos cw -ℤ pos cp)) 8388608
  second = term_exact fq kw kp

  third : Exact (term hw cp cq) (hw *ℤ (pos cp -ℤ pos cq)) 8388608
  third = term_exact fw kp kq

  three : Exact (in32 (in32 (term hp cq cw) +ℤ in32 (term hq cw cp))
      +ℤ in32 (term hw cp cq))
      (tilt hp hq hw cp cq cw) 25165824
  three = all_three (omega arith) first second third

pub overflow_add-result : goal.overflow_add-result
overflow_add-result c = fits (first_two (omega arith) (first c.ranges.hp c.ranges.hq c.ranges.hw c.requires.0 c.requires.1 c.requires.2) (second c.ranges.hp c.ranges.hq c.ranges.hw c.requires.0 c.requires.1 c.requires.2)) (omega arith)

pub overflow_mul-result-3 : goal.overflow_mul-result-3
overflow_mul-result-3 c = fits (third c.ranges.hp c.ranges.hq c.ranges.hw c.requires.0 c.requires.1 c.requires.2) (omega arith)

pub overflow_add-result-2 : goal.overflow_add-result-2
overflow_add-result-2 c = fits (three c.ranges.hp c.ranges.hq c.ranges.hw c.requires.0 c.requires.1 c.requires.2) (omega arith)

pub returns : goal.returns
returns c = (held (three c.ranges.hp c.ranges.hq c.ranges.hw c.requires.0 c.requires.1 c.requires.2) (omega arith)).same
