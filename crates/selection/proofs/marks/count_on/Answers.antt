-- `selection::marks::count_on` meets its contract. The invariant: each number counts the marks before this one.
use Rattle.std.proofs.Common.{◌≡◌, ℕ, Bool, true, false, cond, refl, arith}
use mir.Val.{bool_byte}
use Rattle.grid.specs.Mark.{filled_mark}
use Rattle.selection.specs.Marks.{marked_own, marked_dependence}
use Rattle.selection.proofs.Counts.{count_next, count_most, one_most}
use Rattle.selection.proofs.marks.count_on.Goals as goal

-- what was told, as a number, and of what
told : {x : ℕ} (r : Bool) {t : Bool} → x ≡ bool_byte r → r ≡ t → x ≡ cond t 1 0
told true e f = rw (← f) e
told false e f = rw (← f) e

pub loop-mark-preserved : goal.loop-mark-preserved
loop-mark-preserved c =
    let few = c.args.few.now in
    let inv = c.loop-mark.invariant in (
      count_next marked_own few 0 c.loop-mark-test.true inv.0 (told _ c.from-own.ensures refl),
      count_next marked_dependence few 0 c.loop-mark-test.true inv.1 (told _ c.from-dependent.ensures c.is_for_dependence.ensures),
      count_next filled_mark few 0 c.loop-mark-test.true inv.2 (told _ c.from-voids.ensures c.filled.ensures),
    )

pub overflow_add-own : goal.overflow_add-own
overflow_add-own c =
    let most = count_most marked_own c.loop-mark.mark-index c.args.few.now in
    record { fits = omega (arith, c.loop-mark.invariant.0, most, one_most _ (told _ c.from-own.ensures refl), c.loop-mark-test.true, c.requires.few) }

pub overflow_add-dependent : goal.overflow_add-dependent
overflow_add-dependent c =
    let most = count_most marked_dependence c.loop-mark.mark-index c.args.few.now in
    record { fits = omega (arith, c.loop-mark.invariant.1, most, one_most _ (told _ c.from-dependent.ensures refl), c.loop-mark-test.true, c.requires.few) }

pub overflow_add-voids : goal.overflow_add-voids
overflow_add-voids c =
    let most = count_most filled_mark c.loop-mark.mark-index c.args.few.now in
    record { fits = omega (arith, c.loop-mark.invariant.2, most, one_most _ (told _ c.from-voids.ensures refl), c.loop-mark-test.true, c.requires.few) }
