-- `mesh::cut::last_cuts` meets its contract: one half is written behind the other.
use mathlib.Core.Path.{refl}
use native.Mathlib.Omega.{arith}
use Rattle.mesh.proofs.Halves.{halved, half_corners, half_room, none_put, half_put, both_put}
use Rattle.mesh.proofs.cut.last_cuts.Goals as goal

pub last_cut-next-requires : goal.last_cut-next-requires
last_cut-next-requires c =
    let p = c.requires in
    let h = halved 2 c.args.at c.args.places.now p.0 c.midpoint-middle.ensures p.1 p.2 in
    (half_corners h 0 (omega arith), half_room h 0 (omega arith) (none_put h))

pub last_cut-requires : goal.last_cut-requires
last_cut-requires c =
    let p = c.requires in
    let h = halved 2 c.args.at c.args.places.now p.0 c.midpoint-middle.ensures p.1 p.2 in
    (half_corners h 1 (omega arith), half_room h 1 (omega arith) (half_put h 0 (none_put h) c.last_cut-next.ensures))

pub returns : goal.returns
returns c =
    let p = c.requires in
    let h = halved 2 c.args.at c.args.places.now p.0 c.midpoint-middle.ensures p.1 p.2 in
    both_put h 2 refl (half_put h 1 (half_put h 0 (none_put h) c.last_cut-next.ensures) c.last_cut.ensures)
