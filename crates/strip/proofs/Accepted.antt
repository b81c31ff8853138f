-- Each refusal number is given exactly in its own case, and none where nothing is turned down. The first four tests are those of triangles, so these
-- refusals are its own; where none of them says no, the set is closed and has one strip.
use mathlib.Core.Path.{◌≡◌, refl, ap, ◌∙◌, subst}
use mathlib.Core.Bool.{Bool, true, false, cond, not}
use mathlib.Core.List.{List}
use mathlib.Core.Logic.{◌≢◌}
use Prim.Native.Nat.{ℕ}
use native.Mathlib.Omega.{arith}
use lib.Dec.{eqb, ltb}
use lib.ListN.{length}
use borrow.Author.Tests.{lt-ltb, le-ltb, ltb-true, ltb-false, eq-eqb}
use Rattle.grid.specs.Grid.{largest, samples}
use Rattle.grid.specs.Refusal.{accepted, size_above, wrong_length, bad_mark, not_closed, no_room}
use Rattle.selection.specs.Rule.{Closed}
use Rattle.mesh.specs.Triangles.{Three, mesh}
use Rattle.mesh.specs.Closed.{good_marks, closed}
use Rattle.mesh.specs.Meshed.{Handed, kept_of, needed, no_room_for, refusal as refusal_before}
use Rattle.mesh.specs.Rule.{Kept, Turned as TurnedDown, size, buffer, mark, unclosed, room as short, nothing as enough}
use Rattle.mesh.proofs.Leads.{mesh_is, mesh_only}
use Rattle.mesh.proofs.Closing.{good_marks_lem, closed_set}
use Rattle.mesh.proofs.Accepted.{turned as turned_down_lem, turned_only as turned_down_only}
use Rattle.strip.specs.Strip.{placed, strip_of}
use Rattle.strip.specs.Stripped.{strip, refusal}
use Rattle.strip.specs.Rule.{StripOf, Taken, Turned, as_triangles, room, nothing}
use Rattle.strip.proofs.Determined.{strip_only}
use Rattle.strip.proofs.Whole.{one_strip}

-- five tests, the first that says no; another fifth one changes nothing where one before it says no
abbrev first_of : Bool → Bool → Bool → Bool → Bool → ℕ
first_of a b c d e =
    cond a size_above (cond (not b) wrong_length (cond (not c) bad_mark (cond (not d) not_closed (cond e no_room accepted))))

early : (a b c d e k : Bool) → first_of a b c d e ≢ no_room → first_of a b c d e ≢ accepted → first_of a b c d e ≡ first_of a b c d k
early true b c d e k p q = refl
early false false c d e k p q = refl
early false true false d e k p q = refl
early false true true false e k p q = refl
early false true true true true k p q = absurd (p refl)
early false true true true false k p q = absurd (q refl)

module _ (h : Handed) where
  -- a closed set has a strip, and no other
  pub strip_of_lem : Closed h.m (Kept h) → StripOf h (strip h)
  unfolding strip
  strip_of_lem k = record { triangles = mesh h.m (kept_of h); uncut = mesh_is h.m (kept_of h); goes = (one_strip k).goes }

  pub strip_of_only : {s : List ℕ} → StripOf h s → s ≡ strip h
  unfolding strip
  strip_of_only {s} k =
      strip_only _ s k.goes ∙ ap (λ (ts : List Three). strip_of (placed h.m ts)) (mesh_only h.m (kept_of h) k.uncut)

  -- turned down before the room is asked for, as triangles does
  pub refused_early : {n : ℕ} → TurnedDown h n → n ≢ no_room → n ≢ accepted → n ≡ refusal h
  unfolding refusal refusal_before
  refused_early t p q =
      let e = turned_down_only h t in
      e
      ∙ early (ltb largest h.m) (eqb (length h.marks) (samples h.m)) (good_marks h.m h.marks) (closed h.m (kept_of h))
      (no_room_for (needed h) (length h.places)) (ltb (length h.places) (length (strip h))) (λ k. p (e ∙ k)) (λ k. q (e ∙ k))

  -- nothing is said against the marks: only the room is asked for
  refused_late : Taken h → refusal h ≡ cond (ltb (length h.places) (length (strip h))) no_room accepted
  unfolding refusal
  refused_late w =
      rw (
        le-ltb largest h.m w.size,
        eq-eqb (length h.marks) (samples h.m) w.long,
        (good_marks_lem h.m h.marks).1 w.good,
        (closed_set h.m (kept_of h)).1 w.closed,
      )

  -- the number that is given has its case
  pub turned : Turned h (refusal h)
  turned = by (turned_down_lem h)
    where
      before : {n : ℕ} → TurnedDown h n → n ≢ no_room → n ≢ accepted → Turned h (refusal h)
      before t p q = subst (λ (n : ℕ). Turned h n) (refused_early t p q) (as_triangles t p q)

      asked : (b : Bool) → ltb (length h.places) (length (strip h)) ≡ b → Taken h → Turned h (cond b no_room accepted)
      asked true e w = room w (strip_of_lem w.closed) (ltb-true (length h.places) (length (strip h)) e)
      asked false e w = nothing w (strip_of_lem w.closed) (ltb-false (length h.places) (length (strip h)) e)

      behind : Taken h → Turned h (refusal h)
      behind w = rw (refused_late w) (asked (ltb (length h.places) (length (strip h))) refl w)

      by : {n : ℕ} → TurnedDown h n → Turned h (refusal h)
      by (size s) = before (size s) (λ e. omega arith) (λ e. omega arith)
      by (buffer s l) = before (buffer s l) (λ e. omega arith) (λ e. omega arith)
      by (mark s l g) = before (mark s l g) (λ e. omega arith) (λ e. omega arith)
      by (unclosed s l g k) = before (unclosed s l g k) (λ e. omega arith) (λ e. omega arith)
      by (short s l g k w r) = behind (record { size = s; long = l; good = g; closed = k })
      by (enough s l g k w r) = behind (record { size = s; long = l; good = g; closed = k })

  -- and a number that has its case is the one given
  pub turned_only : {n : ℕ} → Turned h n → n ≡ refusal h
  turned_only (as_triangles t p q) = refused_early t p q
  turned_only (room w s l) =
      rw (refused_late w, lt-ltb (length h.places) (length (strip h)) (rw (strip_of_only s) at l))
  turned_only (nothing w s l) =
      rw (refused_late w, le-ltb (length h.places) (length (strip h)) (rw (strip_of_only s) at l))
