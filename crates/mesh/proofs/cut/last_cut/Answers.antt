-- `mesh::cut::last_cut` meets its contract: the triangle is written as its halves, or as it stands.
use mathlib.Core.Path.{refl, sym, ap, ◌∙◌}
use lib.ListN.{length}
use native.Mathlib.Omega.{arith}
use Rattle.mesh.specs.Inner.{kept_place}
use Rattle.mesh.proofs.Halves.{one_cut, odd_whole, three_room, put_both, put_long}
use Rattle.mesh.proofs.cut.last_cut.Goals as goal

pub put-next-requires : goal.put-next-requires
put-next-requires c =
    let s = c.args in
    let halves =
    one_cut (kept_place s.marks.now) s.l s.a s.r c.midpoint-edge.ensures (sym c.midpoint_kept.ensures ∙ c.if-midpoint_kept.true) in
    let p = c.requires in
    let k = p.0.ends in
    let m = c.midpoint-edge.ensures in
    (omega (arith, k), omega (arith, k, m), omega (arith, k, p.0.apex), omega (arith, p.1, ap length halves))

pub put-requires : goal.put-requires
put-requires c =
    let s = c.args in
    let halves =
    one_cut (kept_place s.marks.now) s.l s.a s.r c.midpoint-edge.ensures (sym c.midpoint_kept.ensures ∙ c.if-midpoint_kept.true) in
    let p = c.requires in
    let k = p.0.ends in
    let put = c.put-next.ensures in (
      omega (arith, k, p.0.apex),
      omega (arith, k, c.midpoint-edge.ensures),
      omega (arith, k),
      omega (arith, p.1, ap length halves, put.behind, put_long put),
    )

pub returns-then-midpoint_kept : goal.returns-then-midpoint_kept
returns-then-midpoint_kept c =
    let s = c.args in
    let halves =
    one_cut (kept_place s.marks.now) s.l s.a s.r c.midpoint-edge.ensures (sym c.midpoint_kept.ensures ∙ c.if-midpoint_kept.true) in
    rw halves (put_both c.put-next.ensures c.put.ensures)

pub put-requires-else-midpoint_kept : goal.put-requires-else-midpoint_kept
put-requires-else-midpoint_kept c =
    let s = c.args in
    let whole = odd_whole (kept_place s.marks.now) 1 s.l s.a s.r (sym c.midpoint_kept.ensures ∙ c.if-midpoint_kept.false) refl in
    let p = c.requires in
    let k = p.0.ends in
    (omega (arith, k), omega (arith, k, p.0.apex), omega (arith, k), three_room _ whole p.1)

pub returns-else-midpoint_kept : goal.returns-else-midpoint_kept
returns-else-midpoint_kept c =
    let s = c.args in
    let whole = odd_whole (kept_place s.marks.now) 1 s.l s.a s.r (sym c.midpoint_kept.ensures ∙ c.if-midpoint_kept.false) refl in
    rw whole c.put-else-midpoint_kept.ensures
