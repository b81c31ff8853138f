-- `aim::reach` meets its contract: the cases are asked in the call's order, so each answer is that of the case that holds.
use mathlib.Core.Path.{refl, sym, ap, ◌∙◌}
use Prim.Native.Nat.{ℕ}
use Rattle.std.proofs.lemmas.Result.{err_from_is_err_and}
use Rattle.aim.specs.Aimed.{handed}
use Rattle.aim.proofs.Finding.{corners_good, size_refused, length_refused, point_refused, asked, walks, met_refused, passed, sampled, last_refused, lands, footing}
use Rattle.aim.proofs.reach.Goals as goal

pub returns-in_err-samples : goal.returns-in_err-samples
returns-in_err-samples c =
    let h = handed c.args.marks.now c.args.heights.now c.args.m c.args.x c.args.y in
    let r = err_from_is_err_and c.from_residual.result c.from_residual.ensures.1 in
    rw (r.1, r.2) (size_refused h c.in_err-samples.ensures)

pub returns-then-marks-samples : goal.returns-then-marks-samples
returns-then-marks-samples c =
    let h = handed c.args.marks.now c.args.heights.now c.args.m c.args.x c.args.y in
    length_refused h c.in_ok-samples.ensures c.then-marks-samples.either

pub returns-then-most-x : goal.returns-then-most-x
returns-then-most-x c =
    let h = handed c.args.marks.now c.args.heights.now c.args.m c.args.x c.args.y in
    point_refused h c.in_ok-samples.ensures c.if-marks-samples.false c.if-heights-samples.false c.grid_of-grid.ensures c.in_quarters-most.ensures
    c.then-most-x.either

pub walk-requires : goal.walk-requires
walk-requires c =
    let h = handed c.args.marks.now c.args.heights.now c.args.m c.args.x c.args.y in
    let a = asked h c.in_ok-samples.ensures c.if-marks-samples.false c.if-heights-samples.false c.grid_of-grid.ensures c.in_quarters-most.ensures c.if-most-x.false c.if-most-y.false in
    walks a c.grid_of-grid.ensures c.start.ensures

pub returns-in_err-end : goal.returns-in_err-end
returns-in_err-end c =
    let h = handed c.args.marks.now c.args.heights.now c.args.m c.args.x c.args.y in
    let a = asked h c.in_ok-samples.ensures c.if-marks-samples.false c.if-heights-samples.false c.grid_of-grid.ensures c.in_quarters-most.ensures c.if-most-x.false c.if-most-y.false in
    let r = err_from_is_err_and c.from_residual-in_err-end.result c.from_residual-in_err-end.ensures.1 in
    rw (r.1, r.2) (met_refused a c.grid_of-grid.ensures c.start.ensures c.in_err-end.ensures)

pub last_refusal-requires : goal.last_refusal-requires
last_refusal-requires c =
    let h = handed c.args.marks.now c.args.heights.now c.args.m c.args.x c.args.y in
    let a = asked h c.in_ok-samples.ensures c.if-marks-samples.false c.if-heights-samples.false c.grid_of-grid.ensures c.in_quarters-most.ensures c.if-most-x.false c.if-most-y.false in
    sampled a c.grid_of-grid.ensures c.start.ensures c.in_ok-end.ensures

pub returns-in_err-last_refusal : goal.returns-in_err-last_refusal
returns-in_err-last_refusal c =
    let h = handed c.args.marks.now c.args.heights.now c.args.m c.args.x c.args.y in
    let a = asked h c.in_ok-samples.ensures c.if-marks-samples.false c.if-heights-samples.false c.grid_of-grid.ensures c.in_quarters-most.ensures c.if-most-x.false c.if-most-y.false in
    let told = c.corners_good-good.ensures ∙ ap (λ (m : ℕ). corners_good m c.args.marks.now) c.grid_of-grid.ensures in
    let r = err_from_is_err_and c.from_residual-in_err-last_refusal.result c.from_residual-in_err-last_refusal.ensures.1 in
    rw (r.1, r.2) (last_refused a c.grid_of-grid.ensures c.start.ensures c.in_ok-end.ensures told c.in_err-last_refusal.ensures.is)

pub invariant_of-result : goal.invariant_of-result
invariant_of-result c =
    let h = handed c.args.marks.now c.args.heights.now c.args.m c.args.x c.args.y in
    let a = asked h c.in_ok-samples.ensures c.if-marks-samples.false c.if-heights-samples.false c.grid_of-grid.ensures c.in_quarters-most.ensures c.if-most-x.false c.if-most-y.false in
    let p = passed _ _ c.in_ok-last_refusal.ensures.is in
    rw c.grid_of-grid.ensures record {
      footing = footing a c.grid_of-grid.ensures c.start.ensures c.in_ok-end.ensures p.1 (c.in_ok-last_refusal.ensures.stored refl);
    }

pub returns : goal.returns
returns c =
    let h = handed c.args.marks.now c.args.heights.now c.args.m c.args.x c.args.y in
    let a = asked h c.in_ok-samples.ensures c.if-marks-samples.false c.if-heights-samples.false c.grid_of-grid.ensures c.in_quarters-most.ensures c.if-most-x.false c.if-most-y.false in
    let told = c.corners_good-good.ensures ∙ ap (λ (m : ℕ). corners_good m c.args.marks.now) c.grid_of-grid.ensures in
    let p = passed _ _ c.in_ok-last_refusal.ensures.is in
    let l = lands a c.grid_of-grid.ensures c.start.ensures c.in_ok-end.ensures (sym told ∙ p.0) p.1 in
    record { taken = l.0; size = c.grid_of-grid.ensures; marks = refl; heights = refl; end = l.1 }
