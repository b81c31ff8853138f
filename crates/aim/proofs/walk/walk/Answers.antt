-- `aim::walk::walk` meets its contract. The invariant: from where the walk has come it ends where it ends from the start.
use mathlib.Core.Path.{◌≡◌, sym, ap, ◌∙◌}
use Prim.Native.Nat.{ℕ}
use native.Mathlib.Omega.{arith}
use Rattle.mesh.specs.Inner.{kept_place, good_inner}
use Rattle.aim.specs.Inner.{cut_place, half_at}
use Rattle.aim.specs.declared.walk.Reached.{Reached}
use Rattle.aim.proofs.Stepping.{half_left, half_light, half_stands, walk_out, walk_bad, walk_uncut, walk_on}
use Rattle.aim.proofs.walk.walk.Goals as goal

pub returns-then-not-good : goal.returns-then-not-good
returns-then-not-good c =
    let told_good = c.good.ensures ∙ ap (good_inner c.args.marks.now) c.midpoint-c.ensures in
    sym (walk_bad c.args.marks.now c.loop-t.t c.loop-t-test.true (sym told_good ∙ c.if-not-good.true)) ∙ c.loop-t.invariant.2

pub loop-t-smaller : goal.loop-t-smaller
loop-t-smaller c =
    let told_half : c.half-t.result ≡ half_at (cut_place c.loop-t.t) c.loop-t.t = c.half-t.ensures ∙ ap (λ (i : ℕ). half_at i c.loop-t.t) c.midpoint-c.ensures in
    omega (arith, ap (λ (t : Reached). t.left) told_half, half_left c.loop-t.t (cut_place c.loop-t.t), c.loop-t-test.true)

pub loop-t-preserved : goal.loop-t-preserved
loop-t-preserved c =
    let told_good = c.good.ensures ∙ ap (good_inner c.args.marks.now) c.midpoint-c.ensures in
    let told_kept = c.kept.ensures ∙ ap (kept_place c.args.marks.now) c.midpoint-c.ensures in
    let told_half : c.half-t.result ≡ half_at (cut_place c.loop-t.t) c.loop-t.t = c.half-t.ensures ∙ ap (λ (i : ℕ). half_at i c.loop-t.t) c.midpoint-c.ensures in
    let at = c.loop-t in
    rw told_half (
      half_stands c.loop-t.t at.invariant.0,
      half_light c.loop-t.t (cut_place c.loop-t.t) at.invariant.1,
      walk_on c.args.marks.now c.loop-t.t c.loop-t-test.true (sym told_good ∙ c.if-not-good.false) (sym told_kept ∙ c.if-not-kept.false) ∙ at.invariant.2,
    )

pub returns-after-loop-t : goal.returns-after-loop-t
returns-after-loop-t c = sym (walk_out c.args.marks.now c.loop-t.t c.loop-t-test.false) ∙ c.loop-t.invariant.2

pub returns-then-not-kept : goal.returns-then-not-kept
returns-then-not-kept c =
    let told_good = c.good.ensures ∙ ap (good_inner c.args.marks.now) c.midpoint-c.ensures in
    let told_kept = c.kept.ensures ∙ ap (kept_place c.args.marks.now) c.midpoint-c.ensures in
    sym (walk_uncut c.args.marks.now c.loop-t.t c.loop-t-test.true (sym told_good ∙ c.if-not-good.false) (sym told_kept ∙ c.if-not-kept.true)) ∙ c.loop-t.invariant.2
