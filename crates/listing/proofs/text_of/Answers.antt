-- `listing::text_of` meets its contract: the places hold all the triangles of an accepted input, and the text has room for their lines.
use Rattle.std.proofs.Common.{refl, arith}
use Rattle.listing.proofs.Room.{held, prints}
use Rattle.listing.proofs.text_of.Goals as goal

pub put_answer-requires : goal.put_answer-requires
put_answer-requires c =
    let h = held c.blank_places-places.ensures c.mesh_of-answer.ensures in
    (omega (arith, h.0, c.told-out), omega (arith, h.1))

pub returns : goal.returns
returns c =
    let room = c.blank_places-places.ensures in
    let s = c.mesh_of-answer.ensures in
    prints room s c.put_answer.ensures refl (omega (arith, (held room s).0, c.told-out))
