-- The answer and the buffer at exit: where nothing is turned down, where the buffer is too short, and where anything else is wrong.
-- Their definitions are opened here alone, beside the values that are computed from them.
use mathlib.Core.Path.{◌≡◌, ap, ◌∙◌}
use mathlib.Core.Bool.{cond, ◌||◌}
use mathlib.Core.Logic.{◌≢◌}
use mathlib.Core.List.{List, ◌++◌}
use Prim.Native.Nat.{ℕ, ◌*◌}
use lib.Dec.{eqb}
use lib.ListN.{length, drop}
use borrow.Author.Tests.{ne_eqb}
use native.Mathlib.Omega.{arith}
use Rattle.grid.specs.Refusal.{accepted, no_room}
use Rattle.grid.specs.declared.refusals.Refusal.{Refusal}
use Rattle.grid.specs.declared.refusals.Refusal.TheVariants.{SizeAbove, WrongLength, VoidCorner, ToleranceAbove, PointBeyond, BadMark, NotClosed, NoRoom, InputForm}
use Rattle.mesh.specs.Triangles.{mesh, places_of}
use Rattle.mesh.specs.Meshed.{Handed, kept_of, needed, refusal, answer_of, written_over, places_after}
use Rattle.mesh.specs.Inner.{refused}
use Rattle.mesh.specs.Rule.{Turned}
use Rattle.mesh.specs.declared.Meshed.{Meshed}
use Rattle.mesh.proofs.Accepted.{turned_only}
use Rattle.mesh.proofs.Written.{places_long}

abbrev pub answering : ℕ → ℕ → Meshed
answering number triangles = record { refusal = number; triangles = triangles }

module _ (h : Handed) where
  -- what an accepted call leaves in the buffer
  abbrev pub places_by : List ℕ
  places_by = places_of h.m (mesh h.m (kept_of h)) ++ drop (3 * length (mesh h.m (kept_of h))) h.places

  -- the answer carries the refusal number
  pub answer_refusal : {r : Meshed} → r ≡ answer_of h → r.refusal ≡ refusal h
  unfolding answer_of
  answer_refusal e = ap (λ (a : Meshed). a.refusal) e

  module _ (ok : refusal h ≡ accepted) where
    pub answer_taken : answer_of h ≡ answering accepted (needed h)
    unfolding answer_of
    answer_taken = rw ok

    pub places_written : places_after h ≡ written_over (places_of h.m (mesh h.m (kept_of h))) h.places
    unfolding places_after
    places_written = rw ok

    pub places_taken : places_after h ≡ places_by
    places_taken =
        places_written
        ∙ ap (λ (n : ℕ). places_of h.m (mesh h.m (kept_of h)) ++ drop n h.places) (places_long h.m (mesh h.m (kept_of h)))

  pub answer_short : refusal h ≡ no_room → answer_of h ≡ answering no_room (needed h)
  unfolding answer_of
  answer_short e = rw e

  module _ (no : refusal h ≢ accepted) where
    pub answer_refused : refusal h ≢ no_room → answer_of h ≡ answering (refusal h) 0
    unfolding answer_of
    answer_refused other = rw (ne_eqb (refusal h) accepted no, ne_eqb (refusal h) no_room other)

    pub places_refused : places_after h ≡ h.places
    unfolding places_after
    places_refused = rw (ne_eqb (refusal h) accepted no)

-- by the case that holds
pub answer_turned : (h : Handed) {n : ℕ} → Turned h n → answering n (cond (eqb n accepted || eqb n no_room) (needed h) 0) ≡ answer_of h
unfolding answer_of
answer_turned h t =
    ap (λ (n : ℕ). answering n (cond (eqb n accepted || eqb n no_room) (needed h) 0)) (turned_only h t)

-- a refusal's number is none that accepts
pub refused_other : (r : Refusal) → (refused r).refusal ≢ accepted
refused_other SizeAbove e = absurd (omega arith)
refused_other WrongLength e = absurd (omega arith)
refused_other VoidCorner e = absurd (omega arith)
refused_other ToleranceAbove e = absurd (omega arith)
refused_other PointBeyond e = absurd (omega arith)
refused_other BadMark e = absurd (omega arith)
refused_other NotClosed e = absurd (omega arith)
refused_other (NoRoom n) e = absurd (omega arith)
refused_other InputForm e = absurd (omega arith)
