-- `mesh::cut::cut_at_centre` and `cut_at_edge` meet their contracts, by the number of cuts left.
use mathlib.Core.Path.{sym, ◌∙◌}
use native.Mathlib.Omega.{arith}
use Rattle.mesh.proofs.Halves.{three_room, halved, some_left, half_corners, half_room, odd_cut, odd_half, even_half, none_put, half_put, both_put}
use Rattle.mesh.proofs.cut.+cutting.Goals as goal
use Rattle.mesh.proofs.cut.+cutting.Goals.{cut_at_centre-then-midpoint_kept, cut_at_centre-else-midpoint_kept, cut_at_edge-then-is_cut+then-even-eq2, cut_at_edge-then-is_cut+else-even-eq2, cut_at_edge-else-is_cut}

pub cut_at_centre-loop-p-init : goal.cut_at_centre-loop-p-init
cut_at_centre-loop-p-init t c =
    let p = c.requires in
    let h = halved c.args.left c.args.at c.args.places.now p.0 c.midpoint-centre.ensures p.1 p.3 in
    (omega arith, none_put h)

pub cut_at_centre-cut_at_edge-next-requires : goal.cut_at_centre-cut_at_edge-next-requires
cut_at_centre-cut_at_edge-next-requires t c =
    let p = c.requires in
    let h = halved c.args.left c.args.at c.args.places.now p.0 c.midpoint-centre.ensures p.1 p.3 in
    let w = c.loop-p in
    let below = c.loop-p-test.true in (
      omega (arith, c.decreases, some_left h),
      (
        half_corners h w.p-index below,
        odd_cut h w.p-index p.2 c.midpoint_kept.ensures ∙ c.if-midpoint_kept.true,
        omega (arith, p.2, some_left h),
        half_room h w.p-index below w.invariant.1,
      ),
    )

pub cut_at_centre-put-next-requires : goal.cut_at_centre-put-next-requires
cut_at_centre-put-next-requires t c =
    let p = c.requires in
    let h = halved c.args.left c.args.at c.args.places.now p.0 c.midpoint-centre.ensures p.1 p.3 in
    let w = c.loop-p in
    let below = c.loop-p-test.true in
    let k = half_corners h w.p-index below in
    let whole = odd_half h w.p-index p.2 (odd_cut h w.p-index p.2 c.midpoint_kept.ensures ∙ c.if-midpoint_kept.false) in
    let room = half_room h w.p-index below w.invariant.1 in
    (omega (arith, k), omega (arith, k), omega (arith, k), three_room w.next whole room)

pub cut_at_centre-loop-p-preserved : goal.cut_at_centre-loop-p-preserved
cut_at_centre-loop-p-preserved t c =
    let p = c.requires in
    let h = halved c.args.left c.args.at c.args.places.now p.0 c.midpoint-centre.ensures p.1 p.3 in
    let w = c.loop-p in
    let whole = odd_half h w.p-index p.2 in
    let told = odd_cut h w.p-index p.2 c.midpoint_kept.ensures in (
      omega (arith, c.loop-p-test.true),
      half_put h w.p-index w.invariant.1
          (elim c.if-midpoint_kept.branch [
            | cut_at_centre-then-midpoint_kept x ↦ rw (x.places-is, x.next-is) x.cut_at_edge-next.ensures
            | cut_at_centre-else-midpoint_kept x ↦ rw (whole (told ∙ x.if-midpoint_kept.false), x.places-is, x.next-is) x.put-next.ensures
          ]),
    )

pub cut_at_centre-returns : goal.cut_at_centre-returns
cut_at_centre-returns t c =
    let p = c.requires in
    let h = halved c.args.left c.args.at c.args.places.now p.0 c.midpoint-centre.ensures p.1 p.3 in
    let w = c.loop-p in
    both_put h w.p-index (omega (arith, w.invariant.0, c.loop-p-test.false)) w.invariant.1

pub cut_at_edge-loop-p-init : goal.cut_at_edge-loop-p-init
cut_at_edge-loop-p-init t c =
    let p = c.requires in
    let h = halved c.args.left c.args.at c.args.places.now p.0 c.midpoint-edge.ensures p.1 p.3 in
    (omega arith, none_put h)

pub cut_at_edge-last_cuts-next-requires : goal.cut_at_edge-last_cuts-next-requires
cut_at_edge-last_cuts-next-requires t c =
    let p = c.requires in
    let h = halved c.args.left c.args.at c.args.places.now p.0 c.midpoint-edge.ensures p.1 p.3 in
    let w = c.loop-p in
    let below = c.loop-p-test.true in
    let two = c.if-even-eq2.true in (
      half_corners h w.p-index below,
      rw two at (sym c.is_cut.ensures ∙ c.if-is_cut.true),
      rw two at (half_room h w.p-index below w.invariant.1),
    )

pub cut_at_edge-cut_at_centre-next-requires : goal.cut_at_edge-cut_at_centre-next-requires
cut_at_edge-cut_at_centre-next-requires t c =
    let p = c.requires in
    let h = halved c.args.left c.args.at c.args.places.now p.0 c.midpoint-edge.ensures p.1 p.3 in
    let w = c.loop-p in
    let below = c.loop-p-test.true in (
      omega (arith, c.decreases, some_left h),
      (
        half_corners h w.p-index below,
        sym c.is_cut.ensures ∙ c.if-is_cut.true,
        omega (arith, p.2, some_left h),
        half_room h w.p-index below w.invariant.1,
      ),
    )

pub cut_at_edge-put-next-requires : goal.cut_at_edge-put-next-requires
cut_at_edge-put-next-requires t c =
    let p = c.requires in
    let h = halved c.args.left c.args.at c.args.places.now p.0 c.midpoint-edge.ensures p.1 p.3 in
    let w = c.loop-p in
    let below = c.loop-p-test.true in
    let k = half_corners h w.p-index below in
    let whole = even_half h w.p-index p.2 (sym c.is_cut.ensures ∙ c.if-is_cut.false) in
    let room = half_room h w.p-index below w.invariant.1 in
    (omega (arith, k), omega (arith, k), omega (arith, k), three_room w.next whole room)

pub cut_at_edge-loop-p-preserved : goal.cut_at_edge-loop-p-preserved
cut_at_edge-loop-p-preserved t c =
    let p = c.requires in
    let h = halved c.args.left c.args.at c.args.places.now p.0 c.midpoint-edge.ensures p.1 p.3 in
    let w = c.loop-p in
    let whole = even_half h w.p-index p.2 in
    let told = sym c.is_cut.ensures in (
      omega (arith, c.loop-p-test.true),
      half_put h w.p-index w.invariant.1
          (elim c.if-is_cut.branch [
            | cut_at_edge-then-is_cut+then-even-eq2 x ↦ rw (x.if-even-eq2.true, x.places-is, x.next-is) x.last_cuts-next.ensures
            | cut_at_edge-then-is_cut+else-even-eq2 x ↦ rw (x.places-is, x.next-is) x.cut_at_centre-next.ensures
            | cut_at_edge-else-is_cut x ↦ rw (whole (told ∙ x.if-is_cut.false), x.places-is, x.next-is) x.put-next.ensures
          ]),
    )

pub cut_at_edge-returns : goal.cut_at_edge-returns
cut_at_edge-returns t c =
    let p = c.requires in
    let h = halved c.args.left c.args.at c.args.places.now p.0 c.midpoint-edge.ensures p.1 p.3 in
    let w = c.loop-p in
    both_put h w.p-index (omega (arith, w.invariant.0, c.loop-p-test.false)) w.invariant.1
