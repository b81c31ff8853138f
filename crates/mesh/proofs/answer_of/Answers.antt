-- `mesh::answer_of` meets its contract: the cases are asked in the call's order, so each answer is that of the case that holds.
use mathlib.Core.Path.{◌≡◌, sym, ap, ◌∙◌}
use mathlib.Core.Bool.{Bool, true, false, true≢false}
use mathlib.Core.Logic.{◌≢◌}
use Prim.Native.Nat.{ℕ, ◌*◌, ◌≤◌}
use borrow.Author.Tests.{ltb-true, ltb-false}
use lib.ListN.{length}
use Rattle.std.specs.Prelude.{Ok, Err}
use Rattle.std.proofs.lemmas.Result.{err_from_is_err_and}
use Rattle.grid.specs.Grid.{largest, samples}
use Rattle.grid.specs.Refusal.{accepted, wrong_length, bad_mark, not_closed, no_room}
use Rattle.grid.specs.Sizes.{size_answer}
use Rattle.grid.specs.declared.refusals.Refusal.{Refusal}
use Rattle.grid.specs.declared.sizes.Size.{Size}
use Rattle.grid.proofs.Sized.{given, refused}
use Rattle.selection.specs.Rule.{Closed}
use Rattle.mesh.specs.Triangles.{points, number}
use Rattle.mesh.specs.Closed.{every, good_marks, kept_by, supported, closed}
use Rattle.mesh.specs.Inner.{Plain, outcome}
use Rattle.mesh.specs.Meshed.{Handed, handed, kept_of, needed, no_room_for, answer_of}
use Rattle.mesh.specs.Rule.{Good, Kept, size, buffer, mark, unclosed, room, nothing}
use Rattle.mesh.proofs.Closing.{good_marks_lem, plain_marks, closed_set, good_closed}
use Rattle.mesh.proofs.Accepted.{made}
use Rattle.mesh.proofs.Answered.{answering, answer_turned}
use Rattle.mesh.proofs.answer_of.Goals as goal

-- a size that is none
size_refused : (h : Handed) {r : Refusal} → Err r ≡ size_answer h.m → outcome (Err r) ≡ answer_of h
size_refused h {r} e = let large = refused h.m e in rw large.1 (answer_turned h (size large.0))

-- a is the size that m holds
module _ (h : Handed) {a : Size} (e : Ok a ≡ size_answer h.m) where
  small_here : h.m ≤ largest
  small_here = (given h.m e).0

  samples_here : a.samples ≡ samples h.m
  samples_here = ap (λ (s : Size). s.samples) (given h.m e).1

  length_refused : length h.marks ≢ a.samples → answering wrong_length 0 ≡ answer_of h
  length_refused n = answer_turned h (buffer small_here (λ k. n (k ∙ sym samples_here)))

  -- the length was taken; g is the grid
  module _ (l : length h.marks ≡ a.samples) {i : ℕ} (q : i ≡ h.m) where
    long_here : length h.marks ≡ samples h.m
    long_here = l ∙ samples_here

    ready : length h.marks ≡ samples i
    ready = long_here ∙ ap samples (sym q)

    -- r is what the code was told of the marks
    module _ {r : Bool} (b : r ≡ good_marks i h.marks) where
      told_good : r ≡ good_marks h.m h.marks
      told_good = b ∙ ap (λ (i : ℕ). good_marks i h.marks) q

      marks_refused : r ≡ false → answering bad_mark 0 ≡ answer_of h
      marks_refused f =
          answer_turned h
          (mark small_here long_here (λ good. true≢false (sym ((good_marks_lem h.m h.marks).1 good) ∙ sym told_good ∙ f)))

      -- the marks were taken
      module _ (t : r ≡ true) where
        good_all : Good h
        good_all = (good_marks_lem h.m h.marks).0 (sym told_good ∙ t)

        plain_here : Plain h.marks
        plain_here = plain_marks h.m h.marks long_here good_all

        -- v is what the code was told of the set: of good marks it is whether it is closed
        module _ {v : Bool} (w : v ≡ every (supported i (kept_by i h.marks)) (points i)) where
          told_closed : v ≡ closed h.m (kept_of h)
          told_closed =
              w ∙ ap (λ (i : ℕ). every (supported i (kept_by i h.marks)) (points i)) q
              ∙ sym (good_closed h.m h.marks (sym told_good ∙ t))

          set_refused : v ≡ false → answering not_closed 0 ≡ answer_of h
          set_refused f =
              answer_turned h
              (unclosed small_here long_here good_all (λ shut. true≢false (sym ((closed_set h.m (kept_of h)).1 shut) ∙ sym told_closed ∙ f)))

          -- the set was taken; n is the number that the code was told, and k whether the room is lacking
          module _ (u : v ≡ true) {n : ℕ} (c : n ≡ number i (kept_by i h.marks)) {k : Bool} (d : k ≡ no_room_for n (length h.places)) where
            closed_all : Closed h.m (Kept h)
            closed_all = (closed_set h.m (kept_of h)).0 (sym told_closed ∙ u)

            told_number : n ≡ needed h
            told_number = c ∙ ap (λ (i : ℕ). number i (kept_by i h.marks)) q

            needs_told : k ≡ no_room_for (needed h) (length h.places)
            needs_told = d ∙ ap (λ (n : ℕ). no_room_for n (length h.places)) told_number

            room_refused : k ≡ true → answering no_room n ≡ answer_of h
            room_refused f =
                ap (answering no_room) told_number
                ∙ answer_turned h
                (room small_here long_here good_all closed_all (made h closed_all)
                (ltb-true (length h.places) (3 * needed h) (sym needs_told ∙ f)))

            taken : k ≡ false → answering accepted n ≡ answer_of h
            taken f =
                ap (answering accepted) told_number
                ∙ answer_turned h
                (nothing small_here long_here good_all closed_all (made h closed_all)
                (ltb-false (length h.places) (3 * needed h) (sym needs_told ∙ f)))

pub returns-in_err-size : goal.returns-in_err-size
returns-in_err-size c =
    let h = handed c.args.marks.now c.args.m c.args.places.now in
    let p = err_from_is_err_and c.from_residual.result c.from_residual.ensures.1 in
    rw (p.1, p.2) (size_refused h c.in_err-size.ensures)

pub returns-then-marks-size : goal.returns-then-marks-size
returns-then-marks-size c =
    let h = handed c.args.marks.now c.args.m c.args.places.now in length_refused h c.in_ok-size.ensures c.if-marks-size.true

pub returns-then-not-good_marks : goal.returns-then-not-good_marks
returns-then-not-good_marks c =
    let h = handed c.args.marks.now c.args.m c.args.places.now in
    marks_refused h c.in_ok-size.ensures c.if-marks-size.false c.grid_of-g.ensures c.good_marks.ensures c.if-not-good_marks.true

pub invariant_of-good : goal.invariant_of-good
invariant_of-good c =
    let h = handed c.args.marks.now c.args.m c.args.places.now in
    record {
      whole = ready h c.in_ok-size.ensures c.if-marks-size.false c.grid_of-g.ensures;
      plain = plain_here h c.in_ok-size.ensures c.if-marks-size.false c.grid_of-g.ensures c.good_marks.ensures c.if-not-good_marks.false;
    }

pub returns-then-not-closed : goal.returns-then-not-closed
returns-then-not-closed c =
    let h = handed c.args.marks.now c.args.m c.args.places.now in
    set_refused h c.in_ok-size.ensures c.if-marks-size.false c.grid_of-g.ensures c.good_marks.ensures c.if-not-good_marks.false c.closed.ensures c.if-not-closed.true

pub returns-then-lacks_room : goal.returns-then-lacks_room
returns-then-lacks_room c =
    let h = handed c.args.marks.now c.args.m c.args.places.now in
    room_refused h c.in_ok-size.ensures c.if-marks-size.false c.grid_of-g.ensures c.good_marks.ensures c.if-not-good_marks.false c.closed.ensures c.if-not-closed.false c.number-triangles.ensures c.lacks_room.ensures c.if-lacks_room.true

pub returns : goal.returns
returns c =
    let h = handed c.args.marks.now c.args.m c.args.places.now in
    taken h c.in_ok-size.ensures c.if-marks-size.false c.grid_of-g.ensures c.good_marks.ensures c.if-not-good_marks.false c.closed.ensures c.if-not-closed.false c.number-triangles.ensures c.lacks_room.ensures c.if-lacks_room.false
