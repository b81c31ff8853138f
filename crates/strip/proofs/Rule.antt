-- The promise of the strip and K1's sentences mean each other, of any answer and places: what meets the promise follows the sentences, and whatever
-- follows the sentences meets the promise. So the sentences leave nothing open. And what an accepted call wrote is one strip for the whole ring.
use mathlib.Core.Path.{◌≡◌, refl, sym, ap, ◌∙◌}
use mathlib.Core.Bool.{cond, ◌||◌}
use mathlib.Core.List.{List, [], ◌∷◌}
use mathlib.Core.Logic.{◌≢◌, inl, inr, ⊎_elim, ◌↔◌}
use Prim.Native.Nat.{ℕ, ◌*◌, ◌≤◌}
use native.Mathlib.Omega.{arith}
use borrow.Author.Tests.{ne_eqb}
use lib.Dec.{eqb}
use lib.ListN.{length, take, drop}
use lib.Seq.{take_at}
use Rattle.grid.specs.Grid.{place}
use Rattle.grid.specs.Refusal.{accepted, no_room}
use Rattle.selection.specs.Rule.{Closed}
use Rattle.mesh.specs.Triangles.{Three, mesh, places_of}
use Rattle.mesh.specs.Meshed.{Handed, handed, kept_of, entries_each, written_over, Meshes}
use Rattle.mesh.specs.Rule.{Kept}
use Rattle.mesh.specs.declared.Meshed.{Meshed}
use Rattle.mesh.proofs.Leads.{mesh_only}
use Rattle.mesh.proofs.Rule.{follows as follows_list}
use Rattle.mesh.proofs.Written.{places_long}
use Rattle.strip.specs.Strip.{Corners, corners, placed}
use Rattle.strip.specs.Reading.{AllAlike, read_strip, threes}
use Rattle.strip.specs.Stripped.{triangles_of, strip, refusal, answer_of, places_after, Strips}
use Rattle.strip.specs.Rule.{Told, Turned, as_triangles, room, nothing, Follows, OneStrip}
use Rattle.strip.specs.declared.Stripped.{Stripped}
use Rattle.strip.proofs.Wedge.{placed_long}
use Rattle.strip.proofs.Whole.{one_strip}
use Rattle.strip.proofs.Accepted.{strip_of_lem, strip_of_only, turned, turned_only}

-- the promise by the refusal's number, which the answer carries
record Given (h : Handed) (r : Stripped) (places' : List ℕ) : Type 0 where
  number : r.refusal ≡ refusal h
  counted : r.places ≡ cond (eqb r.refusal accepted || eqb r.refusal no_room) (length (strip h)) 0
  after : places' ≡ cond (eqb r.refusal accepted) (written_over (strip h) h.places) h.places

module _ {h : Handed} {r : Stripped} {places' : List ℕ} where
  given : Strips h r places' → Given h r places'
  unfolding answer_of places_after
  given s =
      let number : r.refusal ≡ refusal h = ap (λ (a : Stripped). a.refusal) s.answer in
      record { number = number; counted = rw number (ap (λ (a : Stripped). a.places) s.answer); after = rw number s.places }

  strips : Given h r places' → Strips h r places'
  unfolding answer_of places_after
  strips g =
      let counted = rw g.number at g.counted in
      record { answer = λ i. record { refusal = g.number i; places = counted i }; places = rw g.number at g.after }

  following : Given h r places' → Follows h r places'
  following g =
      record {
        turned = rw g.number (turned h);
        none = λ p q. rw (ne_eqb r.refusal accepted q, ne_eqb r.refusal no_room p) at g.counted;
        number = λ o k. rw (strip_of_only h k) (⊎_elim (λ e. rw e at g.counted) (λ e. rw e at g.counted) o);
        untouched = λ q. rw (ne_eqb r.refusal accepted q) at g.after;
        written = λ e k. rw (strip_of_only h k) (rw e at g.after);
      }

  followed : Follows h r places' → Given h r places'
  followed f = by refl f.turned
    where
      by : {n : ℕ} → r.refusal ≡ n → Turned h n → Given h r places'
      by e (as_triangles t p q) =
          let p' : r.refusal ≢ no_room = λ k. p (sym e ∙ k) in
          let q' : r.refusal ≢ accepted = λ k. q (sym e ∙ k) in
          record {
            number = turned_only h f.turned;
            counted = rw (ne_eqb r.refusal accepted q', ne_eqb r.refusal no_room p') (f.none p' q');
            after = rw (ne_eqb r.refusal accepted q') (f.untouched q');
          }
      by e (room w k l) =
          record {
            number = turned_only h f.turned;
            counted = rw e (f.number (inl e) (strip_of_lem h w.closed));
            after = rw e (f.untouched (λ k. omega arith));
          }
      by e (nothing w k l) =
          record {
            number = turned_only h f.turned;
            counted = rw e (f.number (inr e) (strip_of_lem h w.closed));
            after = rw e (f.written e (strip_of_lem h w.closed));
          }

  pub follows : Strips h r places' ↔ Follows h r places'
  follows = (λ s. following (given s), λ f. strips (followed f))

-- an accepted call counts the places of the strip, and wrote it
counts : {h : Handed} {r : Stripped} {places' : List ℕ} → Strips h r places' → r.refusal ≡ accepted → r.places ≡ length (strip h)
counts s e = rw e at (given s).counted

wrote : {h : Handed} {r : Stripped} {places' : List ℕ} → Strips h r places' → r.refusal ≡ accepted → take r.places places' ≡ strip h
wrote {h} {r} {places'} s e =
    let after : places' ≡ written_over (strip h) h.places = rw e at (given s).after in
    rw after (take_at (strip h) (drop (length (strip h)) h.places) r.places (sym (counts s e)))

one : {h : Handed} {r : Stripped} {places' : List ℕ} → Strips h r places' → r.refusal ≡ accepted →
    OneStrip (triangles_of h) (take r.places places')
unfolding strip
one {h} {r} {places'} s e = rw (wrote s e) (one_strip (closed (turned h) (sym (given s).number ∙ e)))
  where
    closed : {n : ℕ} → Turned h n → n ≡ accepted → Closed h.m (Kept h)
    closed (as_triangles t p q) k = absurd (q k)
    closed (room w _ l) k = absurd (omega arith)
    closed (nothing w _ l) k = w.closed

-- the plain list, as it is read from its places
threes_placed : (m : ℕ) (ts : List Three) → threes (places_of m ts) ≡ placed m ts
threes_placed m [] = refl
threes_placed m (t ∷ ts) =
    ap (λ (us : List Corners). corners (place m t.first) (place m t.second) (place m t.third) ∷ us) (threes_placed m ts)

-- beside what triangles writes of the same marks, with whichever room: the strip reads back as that list, in at most two places a triangle
beside : {h : Handed} {r : Stripped} {places' : List ℕ} (lent : List ℕ) {n : Meshed} {list : List ℕ} → Strips h r places' → r.refusal ≡ accepted →
    Meshes (handed h.marks h.m lent) n list → n.refusal ≡ accepted →
    AllAlike (read_strip (take r.places places')) (threes (take (3 * n.triangles) list)) × (length (take r.places places') ≤ 2 * n.triangles)
beside {h} {r} {places'} lent {n} {list} s e w f =
    let o = one s e in
    let k = (follows_list.0 w).meshed f in
    let ts : List Three = k.triangles in
    let same : ts ≡ mesh h.m (kept_of h) = mesh_only h.m (kept_of h) k.uncut in
    let entries : length (places_of h.m ts) ≡ 3 * n.triangles = places_long h.m ts ∙ ap (λ (i : ℕ). 3 * i) (sym k.answer) in
    let read : threes (take (3 * n.triangles) list) ≡ triangles_of h =
    ap (λ (l : List ℕ). threes (take (3 * n.triangles) l)) k.places
    ∙ ap threes (take_at (places_of h.m ts) (drop (entries_each * length ts) lent) (3 * n.triangles) entries)
    ∙ threes_placed h.m ts ∙ ap (placed h.m) same in
    let number : length (triangles_of h) ≡ n.triangles = placed_long h.m (mesh h.m (kept_of h)) ∙ ap length (sym same) ∙ sym k.answer in
    (rw read o.reads, rw number at o.most)

pub told : {h : Handed} {r : Stripped} {places' : List ℕ} → Strips h r places' → r.refusal ≡ accepted → Told h r places'
told {h} {r} {places'} s e = record {
  one = one s e;
  listed = λ lent w f. (beside lent s e w f).0;
  short = λ lent w f. omega (arith, counts s e, ap length (wrote s e), (beside lent s e w f).1);
}
