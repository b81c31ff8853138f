-- The answer and the buffer at exit, by what triangles answers that is asked without room: of one entry there is never enough, since a mesh has at
-- least two triangles. So it turns down what the strip turns down, and else its own want of room.
use mathlib.Core.Path.{◌≡◌, refl, sym, ap, ◌∙◌}
use mathlib.Core.Bool.{Bool, true, false, cond, not}
use mathlib.Core.Logic.{◌≢◌}
use mathlib.Core.List.{List, [], ◌∷◌}
use Prim.Native.Nat.{ℕ, ◌*◌, ◌≤◌, ◌<◌}
use native.Mathlib.Omega.{arith}
use lib.Dec.{eqb, ltb}
use lib.ListN.{length}
use borrow.Author.Tests.{lt-ltb, le-ltb, ltb-false, eq-eqb, eqb-true, ne_eqb}
use mir.Syntax.{w32}
use mir.Val.{Fits}
use Rattle.grid.specs.Grid.{largest, samples}
use Rattle.grid.specs.Refusal.{accepted, size_above, wrong_length, bad_mark, not_closed, no_room}
use Rattle.grid.specs.declared.points.Point.{Point}
use Rattle.selection.specs.Rule.{Closed}
use Rattle.mesh.specs.Triangles.{mesh, number}
use Rattle.mesh.specs.Closed.{good_marks, closed}
use Rattle.mesh.specs.Inner.{Plain, kept_place}
use Rattle.mesh.specs.Meshed.{Handed, handed, needed, kept_of, written_over}
use Rattle.mesh.specs.Meshed.{refusal as mesh_refusal}
use Rattle.mesh.specs.Rule.{Good, Kept, Turned, size, buffer, mark, unclosed, room, nothing}
use Rattle.mesh.proofs.Accepted.{turned, made_only, refuted}
use Rattle.mesh.proofs.Numbered.{number_triangles}
use Rattle.mesh.proofs.Closing.{good_marks_lem, plain_marks, closed_set}
use Rattle.strip.specs.Inner.{ring_of, laid, outset, Laid, Refused}
use Rattle.strip.specs.Stripped.{strip, refusal, answer_of, places_after}
use Rattle.strip.specs.declared.Stripped.{Stripped}
use Rattle.strip.proofs.Wedge.{placed_long}
use Rattle.strip.proofs.CodeRing.{ring_short}
use Rattle.strip.proofs.CodeLaid.{laid_over}
use Rattle.strip.proofs.Whole.{ring_strip, one_strip}

abbrev pub answering : ℕ → ℕ → Stripped
answering number places = record { refusal = number; places = places }

two_at_least : (m : ℕ) (kept : Point → Bool) → 2 ≤ number m kept
unfolding number
two_at_least m kept = omega arith

-- marks of a closed set
pub record Shut (h : Handed) : Type 0 where
  pub small : h.m ≤ largest
  pub long : length h.marks ≡ samples h.m
  pub good : Good h
  pub closed : Closed h.m (Kept h)

pub plain : {h : Handed} → Shut h → Plain h.marks
plain {h} k = plain_marks h.m h.marks k.long k.good

module _ (h : Handed) where
  -- what the ring lays, which is the strip
  abbrev ring : List ℕ
  ring = laid outset (ring_of (kept_place h.marks) h.m)

  pub fits : Shut h → {count : ℕ} → count ≡ length ring → Fits w32 count
  fits k all = record { fits = omega (arith, all, ring_short h.m h.marks refl (plain k) k.small k.long) }

  ring_is : Shut h → ring ≡ strip h
  unfolding strip
  ring_is k = ring_strip h.m h.marks k.closed

  refusal_room : Shut h → {t : Bool} → ltb (length h.places) (length (strip h)) ≡ t → refusal h ≡ cond t no_room accepted
  unfolding refusal
  refusal_room k e =
      rw (le-ltb largest h.m k.small, eq-eqb (length h.marks) (samples h.m) k.long, (good_marks_lem h.m h.marks).1 k.good, (closed_set h.m (kept_of h)).1 k.closed, e)

  -- the strip is counted, and compared with the room
  module _ (k : Shut h) {needed : ℕ} (all : needed ≡ length ring) where
    long : needed ≡ length (strip h)
    long = all ∙ ap length (ring_is k)

    pub refused_short : length h.places < needed → Refused h (answering no_room needed)
    unfolding answer_of
    refused_short l =
        let e : refusal h ≡ no_room = refusal_room k (lt-ltb (length h.places) (length (strip h)) (omega (arith, long))) in
        record { some = λ none. omega (arith, e, none); answer = rw (e, long) }

    pub room_found : needed ≤ length h.places → refusal h ≡ accepted
    room_found l = refusal_room k (le-ltb (length h.places) (length (strip h)) (omega (arith, long)))

  -- there is room for two places for each triangle, which is the most
  pub room_anyway : Shut h → {triangles : ℕ} → triangles ≡ needed h → 2 * triangles ≤ length h.places → refusal h ≡ accepted
  unfolding strip
  room_anyway k {triangles} e enough =
      refusal_room k
      (le-ltb (length h.places) (length (strip h)) (omega (
        arith,
        (one_strip k.closed).most,
        placed_long h.m (mesh h.m (kept_of h)),
        number_triangles h.m (kept_of h) k.closed,
        e,
      )))

  answer_refusal : {r : Stripped} → r ≡ answer_of h → r.refusal ≡ refusal h
  unfolding answer_of
  answer_refusal e = ap (λ (a : Stripped). a.refusal) e

  refused : {n : ℕ} → refusal h ≡ n → n ≢ accepted → n ≢ no_room → Refused h (answering n 0)
  unfolding answer_of
  refused {n} e taken other =
      record { some = λ none. taken (sym e ∙ none); answer = rw (e, ne_eqb n accepted taken, ne_eqb n no_room other) }

  -- refused, the buffer stays as it was
  pub places_refused : refusal h ≢ accepted → places_after h ≡ h.places
  unfolding places_after
  places_refused taken = rw (ne_eqb (refusal h) accepted taken)

  -- accepted, the strip stands at its beginning
  module _ (ok : refusal h ≡ accepted) where
    taken : Shut h × (length (strip h) ≤ length h.places)
    unfolding refusal
    taken =
        go (ltb largest h.m) refl (eqb (length h.marks) (samples h.m)) refl (good_marks h.m h.marks) refl
        (closed h.m (kept_of h)) refl (ltb (length h.places) (length (strip h))) refl ok
      where
        go : (a : Bool) → ltb largest h.m ≡ a → (b : Bool) → eqb (length h.marks) (samples h.m) ≡ b →
            (c : Bool) → good_marks h.m h.marks ≡ c → (d : Bool) → closed h.m (kept_of h) ≡ d →
            (e : Bool) → ltb (length h.places) (length (strip h)) ≡ e →
            cond a size_above (cond (not b) wrong_length (cond (not c) bad_mark (cond (not d) not_closed (cond e no_room accepted)))) ≡ accepted →
            Shut h × (length (strip h) ≤ length h.places)
        go true s b l c g d k e r ok = absurd (omega (arith, ok))
        go false s false l c g d k e r ok = absurd (omega (arith, ok))
        go false s true l false g d k e r ok = absurd (omega (arith, ok))
        go false s true l true g false k e r ok = absurd (omega (arith, ok))
        go false s true l true g true k true r ok = absurd (omega (arith, ok))
        go false s true l true g true k false r ok = (
          record {
            small = ltb-false largest h.m s;
            long = eqb-true (length h.marks) (samples h.m) l;
            good = (good_marks_lem h.m h.marks).0 g;
            closed = (closed_set h.m (kept_of h)).0 k;
          },
          ltb-false (length h.places) (length (strip h)) r,
        )

    pub taken_shut : Shut h
    taken_shut = taken.0

    pub answer_written : {written : ℕ} → written ≡ length ring → answering accepted written ≡ answer_of h
    unfolding answer_of
    answer_written all = rw (ok, all, ring_is taken_shut)

    pub places_written : {next : ℕ} {after : List ℕ} → Laid ring 0 h.places next after → after ≡ places_after h
    unfolding places_after
    places_written p =
        let is = ring_is taken_shut in
        rw ok (laid_over p (omega (arith, ap length is, taken.1)) ∙ ap (λ (list : List ℕ). written_over list h.places) is)

  -- what triangles was asked, with a buffer of one entry
  abbrev pub asked : Handed
  asked = handed h.marks h.m (0 ∷ [])

  pub shut : mesh_refusal asked ≡ no_room → Shut h
  shut e = by (turned asked) e
    where
      by : {n : ℕ} → Turned asked n → n ≡ no_room → Shut h
      by (size s) e = absurd (omega arith)
      by (buffer s l) e = absurd (omega arith)
      by (mark s l g) e = absurd (omega arith)
      by (unclosed s l g k) e = absurd (omega arith)
      by (room s l g k w r) e = record { small = s; long = l; good = g; closed = k }
      by (nothing s l g k w r) e = absurd (omega arith)

  pub turned_down_lem : mesh_refusal asked ≢ no_room → Refused h (answering (mesh_refusal asked) 0)
  unfolding refusal
  turned_down_lem other = by (turned asked) other
    where
      by : {n : ℕ} → Turned asked n → n ≢ no_room → Refused h (answering n 0)
      by (size s) other = refused (rw (lt-ltb largest h.m s)) (λ e. omega arith) other
      by (buffer s l) other = refused (rw (le-ltb largest h.m s, ne_eqb (length h.marks) (samples h.m) l)) (λ e. omega arith) other
      by (mark s l g) other =
          refused (rw (le-ltb largest h.m s, eq-eqb (length h.marks) (samples h.m) l, refuted (good_marks_lem h.m h.marks) g)) (λ e. omega arith) other
      by (unclosed s l g k) other =
          refused (rw (le-ltb largest h.m s, eq-eqb (length h.marks) (samples h.m) l, (good_marks_lem h.m h.marks).1 g, refuted (closed_set h.m (kept_of h)) k)) (λ e. omega arith) other
      by (room s l g k w r) other = absurd (other refl)
      by (nothing s l g k w r) other =
          absurd (omega (arith, r, made_only asked k w, two_at_least h.m (kept_of h)))
