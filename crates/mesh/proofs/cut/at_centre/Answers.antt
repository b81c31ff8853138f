-- `mesh::cut::at_centre` meets its contract: the triangle is cut, or written as it stands.
use mathlib.Core.Path.{sym, ◌∙◌}
use native.Mathlib.Omega.{arith}
use Rattle.mesh.specs.Inner.{kept_place}
use Rattle.mesh.proofs.Halves.{even_whole, three_room}
use Rattle.mesh.proofs.cut.at_centre.Goals as goal

pub put-requires : goal.put-requires
put-requires c =
    let s = c.args in
    let whole =
    even_whole (kept_place s.marks.now) s.left s.l s.a s.r (sym c.is_cut.ensures ∙ c.if-is_cut.false) c.requires.1 in
    let k = c.requires.0 in
    (omega arith, omega arith, omega arith, three_room c.args.at whole c.requires.2)

pub returns-else-is_cut : goal.returns-else-is_cut
returns-else-is_cut c =
    let s = c.args in
    let whole =
    even_whole (kept_place s.marks.now) s.left s.l s.a s.r (sym c.is_cut.ensures ∙ c.if-is_cut.false) c.requires.1 in
    rw whole c.put.ensures
