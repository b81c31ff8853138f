-- Each refusal number is given exactly in its own case, and none where nothing is turned down: what an accepted call was handed. The
-- five tests are asked in the order of the cases, so each case is what its test says where those before it say no; and a closed set
-- makes as many triangles as the document counts.
use mathlib.Core.Path.{◌≡◌, refl, sym, ap, ◌∙◌}
use mathlib.Core.Bool.{Bool, true, false, cond, not, true≢false}
use mathlib.Core.Logic.{◌↔◌}
use Prim.Native.Nat.{ℕ, ◌*◌, ◌≤◌}
use native.Mathlib.Omega.{arith}
use lib.Dec.{eqb, ltb}
use lib.ListN.{length}
use borrow.Author.Tests.{lt-ltb, le-ltb, ltb-true, ltb-false, eq-eqb, eqb-true}
use Rattle.grid.specs.Grid.{largest, samples}
use Rattle.grid.specs.Refusal.{accepted, size_above, wrong_length, bad_mark, not_closed, no_room}
use Rattle.grid.proofs.Sums.{false_by}
use Rattle.selection.specs.Rule.{Closed}
use Rattle.mesh.specs.Triangles.{mesh}
use Rattle.mesh.specs.Closed.{good_marks, closed}
use Rattle.mesh.specs.Meshed.{Handed, kept_of, needed, no_room_for, refusal}
use Rattle.mesh.specs.Rule.{Good, Kept, Makes, Turned, size, buffer, mark, unclosed, room, nothing}
use Rattle.mesh.proofs.Leads.{mesh_is, mesh_only}
use Rattle.mesh.proofs.Numbered.{number_triangles}
use Rattle.mesh.proofs.Closing.{good_marks_lem, closed_set}

-- a test that says P, where it says no
pub refutes : {t : Bool} {P : Type 0} → (t ≡ true) ↔ P → t ≡ false → ¬ P
refutes says none p = true≢false (sym (says.1 p) ∙ none)

pub refuted : {t : Bool} {P : Type 0} → (t ≡ true) ↔ P → ¬ P → t ≡ false
refuted says not_p = false_by _ (λ e. not_p (says.0 e))

module _ (h : Handed) where
  -- what each test says
  small : (ltb largest h.m ≡ false) ↔ (h.m ≤ largest)
  small = (ltb-false largest h.m, le-ltb largest h.m)

  long : (eqb (length h.marks) (samples h.m) ≡ true) ↔ (length h.marks ≡ samples h.m)
  long = (eqb-true (length h.marks) (samples h.m), eq-eqb (length h.marks) (samples h.m))

  good : (good_marks h.m h.marks ≡ true) ↔ Good h
  good = good_marks_lem h.m h.marks

  shut : (closed h.m (kept_of h) ≡ true) ↔ Closed h.m (Kept h)
  shut = closed_set h.m (kept_of h)

  fits : (no_room_for (needed h) (length h.places) ≡ false) ↔ (3 * needed h ≤ length h.places)
  fits = (ltb-false (length h.places) (3 * needed h), le-ltb (length h.places) (3 * needed h))

  -- a closed set makes as many triangles as the document counts
  pub made : Closed h.m (Kept h) → Makes h (needed h)
  made k =
      record { triangles = mesh h.m (kept_of h); uncut = mesh_is h.m (kept_of h); number = sym (number_triangles h.m (kept_of h) k) }

  pub made_only : Closed h.m (Kept h) → {n : ℕ} → Makes h n → n ≡ needed h
  made_only k w = w.number ∙ ap length (mesh_only h.m (kept_of h) w.uncut) ∙ number_triangles h.m (kept_of h) k

  -- the number that is given has its case
  pub turned : Turned h (refusal h)
  unfolding refusal
  turned =
      go (ltb largest h.m) refl (eqb (length h.marks) (samples h.m)) refl (good_marks h.m h.marks) refl
      (closed h.m (kept_of h)) refl (no_room_for (needed h) (length h.places)) refl
    where
      go : (a : Bool) → ltb largest h.m ≡ a → (b : Bool) → eqb (length h.marks) (samples h.m) ≡ b →
          (c : Bool) → good_marks h.m h.marks ≡ c → (d : Bool) → closed h.m (kept_of h) ≡ d →
          (e : Bool) → no_room_for (needed h) (length h.places) ≡ e →
          Turned h (cond a size_above (cond (not b) wrong_length (cond (not c) bad_mark (cond (not d) not_closed (cond e no_room accepted)))))
      go true s b l c g d k e r = size (ltb-true largest h.m s)
      go false s false l c g d k e r = buffer (small.0 s) (refutes long l)
      go false s true l false g d k e r = mark (small.0 s) (long.0 l) (refutes good g)
      go false s true l true g false k e r = unclosed (small.0 s) (long.0 l) (good.0 g) (refutes shut k)
      go false s true l true g true k true r =
          room (small.0 s) (long.0 l) (good.0 g) (shut.0 k) (made (shut.0 k)) (ltb-true (length h.places) (3 * needed h) r)
      go false s true l true g true k false r = nothing (small.0 s) (long.0 l) (good.0 g) (shut.0 k) (made (shut.0 k)) (fits.0 r)

  -- and a number that has its case is the one given
  pub turned_only : {n : ℕ} → Turned h n → n ≡ refusal h
  unfolding refusal
  turned_only (size s) = rw (lt-ltb largest h.m s)
  turned_only (buffer s l) = rw (small.1 s, refuted long l)
  turned_only (mark s l g) = rw (small.1 s, long.1 l, refuted good g)
  turned_only (unclosed s l g k) = rw (small.1 s, long.1 l, good.1 g, refuted shut k)
  turned_only (room s l g k w r) =
      rw (small.1 s, long.1 l, good.1 g, shut.1 k, lt-ltb (length h.places) (3 * needed h) (rw (made_only k w) at r))
  turned_only (nothing s l g k w r) = rw (small.1 s, long.1 l, good.1 g, shut.1 k, fits.1 (rw (made_only k w) at r))

pub record Accepted (h : Handed) : Type 0 where
  pub small : h.m ≤ largest
  pub long : length h.marks ≡ samples h.m
  pub good : Good h
  pub closed : Closed h.m (Kept h)
  pub room : 3 * needed h ≤ length h.places

pub accepted_handed : (h : Handed) → refusal h ≡ accepted → Accepted h
accepted_handed h e = by (turned h) e
  where
    by : {n : ℕ} → Turned h n → n ≡ accepted → Accepted h
    by (size s) e = absurd (omega arith)
    by (buffer s l) e = absurd (omega arith)
    by (mark s l g) e = absurd (omega arith)
    by (unclosed s l g k) e = absurd (omega arith)
    by (room s l g k w r) e = absurd (omega arith)
    by (nothing s l g k w r) e = record { small = s; long = l; good = g; closed = k; room = rw (made_only h k w) at r }

-- where only the room lacks, the set is closed
pub short_closed : (h : Handed) → refusal h ≡ no_room → Closed h.m (Kept h)
short_closed h e = by (turned h) e
  where
    by : {n : ℕ} → Turned h n → n ≡ no_room → Closed h.m (Kept h)
    by (size s) e = absurd (omega arith)
    by (buffer s l) e = absurd (omega arith)
    by (mark s l g) e = absurd (omega arith)
    by (unclosed s l g k) e = absurd (omega arith)
    by (room s l g k w r) e = k
    by (nothing s l g k w r) e = k
