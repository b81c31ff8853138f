-- `mesh::triangles` meets its contract: past the refusals both starting triangles find room, and what is written for them is the mesh.
use mathlib.Core.Path.{◌≡◌, sym, ◌∙◌}
use native.Mathlib.Omega.{arith}
use Rattle.grid.proofs.Places.{sided}
use Rattle.grid.specs.Refusal.{accepted}
use Rattle.mesh.specs.Inner.{Plain}
use Rattle.mesh.specs.Meshed.{Handed, handed, refusal}
use Rattle.mesh.proofs.Accepted.{Accepted, accepted_handed}
use Rattle.mesh.proofs.Answered.{answer_refusal, places_written, places_refused, refused_other}
use Rattle.mesh.proofs.Closing.{plain_marks}
use Rattle.mesh.proofs.Halves.{put_long}
use Rattle.mesh.proofs.Written.{starts, both_room, both_written}
use Rattle.mesh.proofs.triangles.Goals as goal

plain : {h : Handed} → Accepted h → Plain h.marks
plain {h} a = plain_marks h.m h.marks a.long a.good

pub grid_of-g-requires : goal.grid_of-g-requires
grid_of-g-requires c =
    let h = handed c.args.marks.now c.args.m c.args.places.now in
    let a = accepted_handed h (sym (answer_refusal h c.in-Ok.ensures)) in
    a.small

pub at_centre-next-requires : goal.at_centre-next-requires
at_centre-next-requires c =
    let h = handed c.args.marks.now c.args.m c.args.places.now in
    let a = accepted_handed h (sym (answer_refusal h c.in-Ok.ensures)) in
    let room = both_room h.m h.marks a.closed a.room in
    rw (sided c.grid_of-g.result c.grid_of-g.ensures) ((starts h.m h.marks (plain a) a.small a.long).0, omega arith, omega (arith, room))

pub at_centre-requires : goal.at_centre-requires
at_centre-requires c =
    let h = handed c.args.marks.now c.args.m c.args.places.now in
    let a = accepted_handed h (sym (answer_refusal h c.in-Ok.ensures)) in
    let room = both_room h.m h.marks a.closed a.room in
    let put = rw (sided c.grid_of-g.result c.grid_of-g.ensures) at c.at_centre-next.ensures in
    rw (sided c.grid_of-g.result c.grid_of-g.ensures)
    ((starts h.m h.marks (plain a) a.small a.long).1, omega arith, omega (arith, room, put.behind, put_long put))

pub returns-in-Ok : goal.returns-in-Ok
returns-in-Ok c =
    let h = handed c.args.marks.now c.args.m c.args.places.now in
    let none : refusal h ≡ accepted = sym (answer_refusal h c.in-Ok.ensures) in
    let a = accepted_handed h none in
    let g = (sided c.grid_of-g.result c.grid_of-g.ensures) in
    record {
      answer = c.in-Ok.ensures;
      places =
          both_written h.m h.marks a.closed a.room (rw g at c.at_centre-next.ensures) (rw g at c.at_centre.ensures)
          ∙ sym (places_written h none);
    }

pub returns-in-Err : goal.returns-in-Err
returns-in-Err c =
    let h = handed c.args.marks.now c.args.m c.args.places.now in
    record {
      answer = c.from.ensures ∙ c.in-Err.ensures;
      places = sym (places_refused h (λ e. refused_other c.in-Err.refusal (answer_refusal h c.in-Err.ensures ∙ e)));
    }
