-- `strip::look` meets its contract: what triangles turns down, the strip does; else there is room for the most places, or the ring is counted and
-- compared with the room.
use mathlib.Core.Path.{◌≡◌, sym, ap, ◌∙◌}
use native.Mathlib.Omega.{arith}
use Rattle.grid.specs.Refusal.{no_room}
use Rattle.mesh.specs.Meshed.{Handed, handed, needed, refusal, answer_of}
use Rattle.mesh.specs.declared.Meshed.{Meshed}
use Rattle.mesh.proofs.Answered.{answer_refusal, answer_short as answer_short_of}
use Rattle.strip.specs.Inner.{Refused}
use Rattle.strip.proofs.CodeAnswered.{answering, Shut, plain, fits, asked, shut, turned_down_lem, refused_short, room_found, room_anyway}
use Rattle.strip.proofs.look.Goals as goal

-- triangles has answered r
module _ (h : Handed) {r : Meshed} (e : r ≡ answer_of (asked h)) where
  number : r.refusal ≡ refusal (asked h)
  number = answer_refusal (asked h) e

  -- its refusal is for another reason, or only its room lacks
  other : ¬ (r.refusal ≡ no_room) → Refused h (answering r.refusal 0)
  other k = rw number (turned_down_lem h (λ is. k (number ∙ is)))

  module _ (lacks : r.refusal ≡ no_room) where
    closed : Shut h
    closed = shut h (sym number ∙ lacks)

    -- the number of triangles that was told
    told : r.triangles ≡ needed h
    told = ap (λ (r : Meshed). r.triangles) (e ∙ answer_short_of (asked h) (sym number ∙ lacks))

pub returns-then-listed-from : goal.returns-then-listed-from
returns-then-listed-from c =
    let h = handed c.args.marks.now c.args.m c.args.places.now in
    other h c.triangles-listed.ensures.answer (λ e. c.if-listed-from.true (e ∙ sym c.from.ensures))

pub ring-needed-requires : goal.ring-needed-requires
ring-needed-requires c =
    let h = handed c.args.marks.now c.args.m c.args.places.now in
    let k = closed h c.triangles-listed.ensures.answer (c.if-listed-from.false ∙ c.from.ensures) in
    (k.small, plain k, k.long)

pub overflow_cast-needed : goal.overflow_cast-needed
overflow_cast-needed c =
    let h = handed c.args.marks.now c.args.m c.args.places.now in
    let k = closed h c.triangles-listed.ensures.answer (c.if-listed-from.false ∙ c.from.ensures) in
    fits h k (omega (arith, c.ring-needed.ensures.behind))

pub returns-then-places-needed : goal.returns-then-places-needed
returns-then-places-needed c =
    let h = handed c.args.marks.now c.args.m c.args.places.now in
    let k = closed h c.triangles-listed.ensures.answer (c.if-listed-from.false ∙ c.from.ensures) in
    rw c.into.ensures (refused_short h k (omega (arith, c.ring-needed.ensures.behind)) c.if-places-needed.true)

pub returns-else-places-needed : goal.returns-else-places-needed
returns-else-places-needed c =
    let h = handed c.args.marks.now c.args.m c.args.places.now in
    let k = closed h c.triangles-listed.ensures.answer (c.if-listed-from.false ∙ c.from.ensures) in
    room_found h k (omega (arith, c.ring-needed.ensures.behind)) c.if-places-needed.false

pub returns-else-places-listed : goal.returns-else-places-listed
returns-else-places-listed c =
    let h = handed c.args.marks.now c.args.m c.args.places.now in
    let e = c.triangles-listed.ensures.answer in
    let lacks = c.if-listed-from.false ∙ c.from.ensures in
    room_anyway h (closed h e lacks) (told h e lacks) c.if-places-listed.false
