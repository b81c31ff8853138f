-- `selection::marks::mark_all` meets its contract. The invariant: below this spacing every rank is final.
use Rattle.std.proofs.Common.{◌≡◌, arith}
use Rattle.std.proofs.lemmas.Nat.{one_shl}
use Rattle.selection.specs.Marks.{marks_of}
use Rattle.selection.proofs.Ranks.{spacings_begin, spaced, edges_asked, spacings_on, spacings_end}
use Rattle.selection.proofs.marks.mark_all.Goals as goal

pub loop-k-init : goal.loop-k-init
loop-k-init c = spacings_begin _ _ c.mark_corners.ensures

pub invariant_of-sweep : goal.invariant_of-sweep
invariant_of-sweep c =
    let e = one_shl c.loop-k.k 32 (omega (arith, c.args.grid.sound.small)) in record { ready = c.requires.0; spaced = rw e (spaced c.loop-k-test.true) }

pub mark_spacing-requires : goal.mark_spacing-requires
mark_spacing-requires c =
    let e = one_shl c.loop-k.k 32 (omega (arith, c.args.grid.sound.small)) in rw e (edges_asked c.loop-k-test.true c.loop-k.invariant)

pub loop-k-preserved : goal.loop-k-preserved
loop-k-preserved c =
    let e = one_shl c.loop-k.k 32 (omega (arith, c.args.grid.sound.small)) in spacings_on c.loop-k-test.true (rw e at c.mark_spacing.ensures)

pub returns : goal.returns
unfolding marks_of
returns c =
    let last : c.loop-k.k ≡ c.args.grid.m = omega arith in spacings_end (rw last at c.loop-k.invariant)
