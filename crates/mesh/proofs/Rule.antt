-- The promise of triangles and document 01's sentences mean each other, of any answer and places: what meets the promise follows the
-- sentences, and whatever follows the sentences meets the promise. So the sentences leave nothing open. Then what else holds of what an
-- accepted call wrote, and that the marks of an accepted selection are never turned down.
use mathlib.Core.Path.{◌≡◌, sym, ap, ◌∙◌, subst}
use mathlib.Core.Logic.{◌≢◌, ◌⊎◌, ◌↔◌}
use mathlib.Core.List.{List}
use Prim.Native.Nat.{ℕ, ◌*◌, ◌≤◌, ◌<◌}
use native.Mathlib.Decide.{ℕ_discrete}
use native.Mathlib.Nat.{lt_trans}
use native.Mathlib.Omega.{arith}
use lib.ListN.{length, length-append, get_or, drop}
use lib.IntN.{ℤ}
use Rattle.grid.specs.Grid.{samples}
use Rattle.grid.specs.Refusal.{accepted, no_room}
use Rattle.selection.specs.Selected.{Handed as SelectionHanded, Selects}
use Rattle.selection.specs.declared.Selected.{Selected}
use Rattle.mesh.specs.Triangles.{Three, mesh, places_of}
use Rattle.mesh.specs.Meshed.{Handed, handed, kept_of, entries_each, needed, refusal, answer_of, Meshes}
use Rattle.mesh.specs.Rule.{Turned, Untouched, Meshing, Follows, Same, three_at, Told}
use Rattle.mesh.specs.declared.Meshed.{Meshed}
use Rattle.mesh.proofs.Leads.{mesh_is, mesh_only}
use Rattle.mesh.proofs.Once.{Sides, differ, sides}
use Rattle.mesh.proofs.Pairs.{nth, nth_in, nth_pairs}
use Rattle.mesh.proofs.Proper.{proper}
use Rattle.mesh.proofs.Numbered.{number_triangles, mesh_most}
use Rattle.mesh.proofs.Reading.{three_read, entry_sampled}
use Rattle.mesh.proofs.Written.{places_long}
use Rattle.mesh.proofs.Accepted.{made, made_only, turned, turned_only, short_closed, accepted_handed}
use Rattle.mesh.proofs.Answered.{answering, answer_refusal, answer_taken, places_taken}
use Rattle.mesh.proofs.Answered.{answer_short, answer_refused, places_refused}
use Rattle.mesh.proofs.Selected.{selected_meshed, selected_room}

-- as many as the mesh has
mesh_number : (h : Handed) → refusal h ≡ accepted → needed h ≡ length (mesh h.m (kept_of h))
mesh_number h ok = sym (number_triangles h.m (kept_of h) (accepted_handed h ok).closed)

module _ {h : Handed} {r : Meshed} {places' : List ℕ} (s : Meshes h r places') where
  number : r.refusal ≡ refusal h
  number = answer_refusal h s.answer

  counted : {a : Meshed} → answer_of h ≡ a → r.triangles ≡ a.triangles
  counted e = ap (λ (a : Meshed). a.triangles) (s.answer ∙ e)

  -- refused: nothing but the number, and with 8 the triangles needed
  untouched : r.refusal ≢ accepted → Untouched h r places'
  untouched n =
      let refused : refusal h ≢ accepted = λ e. n (number ∙ e) in
      record {
        none = λ other. counted (answer_refused h refused (λ e. other (number ∙ e)));
        need = λ e. let short = sym number ∙ e in rw (counted (answer_short h short)) (made h (short_closed h short));
        places = s.places ∙ places_refused h refused;
      }

  meshing : r.refusal ≡ accepted → Meshing h r places'
  meshing e =
      let ok = sym number ∙ e in
      record {
        triangles = mesh h.m (kept_of h);
        uncut = mesh_is h.m (kept_of h);
        places = s.places ∙ places_taken h ok;
        answer = counted (answer_taken h ok) ∙ mesh_number h ok;
      }

-- whatever follows the sentences meets the promise: of a refused call
module _ (h : Handed) (r : Meshed) (t : Turned h r.refusal) where
  given : r.refusal ≡ refusal h
  given = turned_only h t

  refused_only : {places' : List ℕ} → r.refusal ≢ accepted → Untouched h r places' → Meshes h r places'
  refused_only n u =
      record { answer = by (ℕ_discrete r.refusal no_room); places = u.places ∙ sym (places_refused h refused) }
    where
      refused : refusal h ≢ accepted
      refused k = n (given ∙ k)

      by : Dec (r.refusal ≡ no_room) → r ≡ answer_of h
      by (yes short) =
          let e = sym given ∙ short in
          (λ i. answering (short i) (made_only h (short_closed h e) (u.need short) i)) ∙ sym (answer_short h e)
      by (no other) = (λ i. answering (given i) (u.none other i)) ∙ sym (answer_refused h refused (λ k. other (given ∙ k)))

  -- and of an accepted one
  meshing_only : {places' : List ℕ} → r.refusal ≡ accepted → Meshing h r places' → Meshes h r places'
  meshing_only e k =
      let ok = sym given ∙ e in
      let is = mesh_only h.m (kept_of h) k.uncut in
      record {
        answer = (λ i. answering (e i) ((k.answer ∙ ap length is ∙ sym (mesh_number h ok)) i)) ∙ sym (answer_taken h ok);
        places = rw is at k.places ∙ sym (places_taken h ok);
      }

pub follows : {h : Handed} {r : Meshed} {places' : List ℕ} → Meshes h r places' ↔ Follows h r places'
follows {h} {r} {places'} = (
  λ s. record { turned = rw (number s) (turned h); refused = untouched s; meshed = meshing s },
  λ f. by f (ℕ_discrete r.refusal accepted),
)
  where
    by : Follows h r places' → Dec (r.refusal ≡ accepted) → Meshes h r places'
    by f (yes e) = meshing_only h r f.turned e (f.meshed e)
    by f (no n) = refused_only h r f.turned n (f.refused n)

-- what an accepted call answered and wrote, as it is read: so many triangles as the mesh has, and those of the mesh, one after another
pub record AsRead (h : Handed) (r : Meshed) (places' : List ℕ) : Type 0 where
  pub many : r.triangles ≡ length (mesh h.m (kept_of h))
  pub read : (i : ℕ) → i < length (mesh h.m (kept_of h)) → three_at h.m places' i ≡ nth (mesh h.m (kept_of h)) i
  pub sampled : (i : ℕ) → i < entries_each * length (mesh h.m (kept_of h)) → get_or places' i 0 < samples h.m
  pub long : entries_each * length (mesh h.m (kept_of h)) ≤ length places'

pub as_read : {h : Handed} {r : Meshed} {places' : List ℕ} → Meshes h r places' → r.refusal ≡ accepted → AsRead h r places'
as_read {h} {r} {places'} s e =
    let k = meshing s e in
    let ts = mesh h.m (kept_of h) in
    let is = mesh_only h.m (kept_of h) k.uncut in
    let behind = drop (entries_each * length ts) h.places in
    record {
      many = k.answer ∙ ap length is;
      read = λ i l. rw (k.places, is) (three_read h.m behind ts (proper h.m (kept_of h)) i l);
      sampled = λ i l. rw (k.places, is) (entry_sampled h.m behind ts (proper h.m (kept_of h)) i l);
      long = rw (k.places, is) (omega (arith, length-append (places_of h.m ts) behind, places_long h.m ts));
    }

-- what else holds of it
pub told : {h : Handed} {r : Meshed} {places' : List ℕ} → Meshes h r places' → r.refusal ≡ accepted → Told h r places'
told {h} {r} {places'} s e =
    record {
      number = counted s (answer_taken h (sym (number s) ∙ e));
      most = rw k.many (mesh_most h.m (kept_of h));
      sampled = λ i l. k.sampled i (rw k.many at l);
      proper = λ i l. let below = rw k.many at l in rw (k.read i below) (proper h.m (kept_of h) (nth ts i) (nth_in ts i below));
      once = λ i j l b same.
          let below = rw k.many at b in
          let u = subst (λ (u : Three). Same (three_at h.m places' i) u) (k.read j below) same in
          differ (nth_pairs Sides ts (sides h.m (kept_of h)) i j l below) (subst (λ (t : Three). Same t (nth ts j)) (k.read i (lt_trans l below)) u);
    }
  where
    k : AsRead h r places'
    k = as_read s e

    ts : List Three
    ts = mesh h.m (kept_of h)

-- of the marks that an accepted selection wrote nothing is turned down but a buffer too short
pub selected : {h : SelectionHanded} {a : Selected} {marks : List ℕ} {heights : List ℤ} → Selects h a marks heights →
    a.refusal ≡ accepted → {places places' : List ℕ} {r : Meshed} → Meshes (handed marks h.m places) r places' →
    ((r.refusal ≡ accepted) ⊎ (r.refusal ≡ no_room))
    × (entries_each * needed (handed marks h.m places) ≤ length places → r.refusal ≡ accepted)
selected s ok {places} k = (
  selected_meshed s ok places (follows.0 k).turned,
  λ fits. number k ∙ selected_room s ok places fits,
)
