-- What is listed of an input and document 01's sentences mean each other, of any answer and of any places with room: what is listed follows the
-- sentences, and whatever follows the sentences is listed. So every input shows one text, and no second one, whatever the places held.
use mathlib.Core.Path.{◌≡◌, refl, sym, ap, ◌∙◌, subst}
use mathlib.Core.Logic.{◌≢◌, ◌↔◌}
use mathlib.Core.List.{List}
use Prim.Native.Nat.{ℕ, ◌*◌}
use native.Mathlib.Nat.{le_of_eq}
use native.Mathlib.Omega.{arith}
use native.Mathlib.Decide.{ℕ_discrete}
use lib.ListN.{replicate, length-replicate}
use lib.IntN.{pos}
use borrow.Author.Tests.{eq-eqb}
use Rattle.std.specs.Prelude.{Result, Ok, Err}
use Rattle.grid.specs.Grid.{samples}
use Rattle.grid.specs.Refusal.{accepted, number}
use Rattle.grid.specs.Sizes.{size_of}
use Rattle.grid.specs.declared.refusals.Refusal.{Refusal}
use Rattle.frame.specs.Frame.{largest_framed, number_of, size_in, framed, survey_in}
use Rattle.frame.specs.Frame.{answer_of as frame_answer, refusal as form_refusal}
use Rattle.frame.specs.Rule.{Follows}
use Rattle.frame.specs.declared.Frame.{Frame}
use Rattle.grid.proofs.Refused.{refused}
use Rattle.frame.proofs.Accepted.{accepted_input}
use Rattle.frame.proofs.Rule.{follows, row_by_row, rows_only}
use Rattle.selection.specs.Selected.{marks_after, heights_after}
use Rattle.selection.specs.Selected.{answer_of as selection_answer}
use Rattle.selection.specs.declared.Selected.{Selected}
use Rattle.selection.proofs.Answered.{marks_taken}
use Rattle.selection.proofs.Answered.{answer_refusal as selection_refusal}
use Rattle.mesh.specs.Meshed.{entries_each, written_over, Meshes}
use Rattle.mesh.specs.Meshed.{handed as meshing}
use Rattle.mesh.specs.declared.Meshed.{Meshed}
use Rattle.listing.specs.Program.{selected, refusal, answer_in, places_in}
use Rattle.listing.specs.Text.{text_of, text_in}
use Rattle.listing.specs.Inner.{Roomy, Lists}
use Rattle.listing.specs.Rule.{Refuses, Selecting, result_of, Runs, form, selection, triangles, Printed, Shows}
use Rattle.listing.proofs.Cases.{refusal_form, refusal_selection, answer_refused, places_refused}
use Rattle.listing.proofs.Steps.{meshed_answer, input_refused, lists_meshes, refused_in, meshed_in}
use Rattle.listing.proofs.Printed.{printed, printed_only}
use Rattle.listing.proofs.Room.{text_listed}

-- the call of triangles, where it turns nothing down
taken : (t : Meshed) → t.refusal ≡ accepted → result_of t ≡ Ok t.triangles
taken t e = rw (eq-eqb t.refusal accepted e)

-- what is listed follows the sentences
module _ {input places : List ℕ} (room : Roomy places) {r : Result ℕ ℕ} {places' : List ℕ} (s : Lists input places r places') where
  refuses : {n : ℕ} → refusal input ≡ n → n ≢ accepted → Refuses n places r places'
  refuses e n =
      let other : refusal input ≢ accepted = λ z. n (sym e ∙ z) in
      record {
        number = s.answer ∙ answer_refused input other ∙ ap Err e;
        untouched = s.written ∙ ap (λ l. written_over l places) (places_refused input other);
      }

  module _ (ok : form_refusal input ≡ accepted) where
    -- selection of what an accepted input carries
    abbrev answer : Selected
    answer = selection_answer (selected input)

    carried : Follows input (Ok (framed input))
    carried = (follows input).0 (sym (accepted_input input ok).carried)

    selecting : Selecting input (framed input) answer (marks_after (selected input))
    selecting =
        let n = samples (size_in input) in
        record {
          survey = survey_in input;
          rows = row_by_row input;
          marks = replicate n 0;
          marks_long = length-replicate n 0;
          heights = replicate n (pos 0);
          heights_long = length-replicate n (pos 0);
          heights' = heights_after (selected input);
          selects = record { answer = refl; marks = refl; heights = refl };
        }

    number_selection : refusal input ≡ answer.refusal
    number_selection = refusal_selection input ok ∙ sym (selection_refusal (selected input))

    past : Dec (answer.refusal ≡ accepted) → Runs input places r places'
    past (no n) = selection carried selecting n (refuses number_selection n)
    past (yes e) =
        let marked = marks_taken (selected input) (sym (selection_refusal (selected input)) ∙ e) in
        let ok = number_selection ∙ e in
        let whole = lists_meshes input places room ok s in
        let t = meshed_answer input places in
        triangles carried selecting e
        (subst (λ marks. Meshes (meshing marks (size_in input) places) t places') (sym marked) whole.0)
        (whole.2 ∙ sym (taken t whole.1))

  pub lists_runs : Runs input places r places'
  lists_runs = by (frame_answer input) refl
    where
      by : (a : Result Frame Refusal) → frame_answer input ≡ a → Runs input places r places'
      by (Err e) k =
          let n = refused e in
          let own : form_refusal input ≡ number e = ap number_of k in
          form ((follows input).0 (sym k)) (refuses (refusal_form input (λ z. n (sym own ∙ z)) ∙ own) n)
      by (Ok f) k = past (ap number_of k) (ℕ_discrete (selection_answer (selected input)).refusal accepted)

-- and whatever follows them is listed: the code's own steps are such a run, so the laws of its steps serve here too
module _ {input : List ℕ} {f : Frame} (k : Follows input (Ok f)) {a : Selected} {marks' : List ℕ} (c : Selecting input f a marks') where
  given : frame_answer input ≡ Ok f
  given = sym ((follows input).1 k)

  surveyed : c.survey ≡ survey_in input
  surveyed = rows_only c.rows

  selection_lists : (places : List ℕ) → a.refusal ≢ accepted → Lists input places (Err a.refusal) places
  selection_lists places = refused_in input given surveyed c.marks c.heights c.marks_long c.heights_long c.selects places

  triangles_list : a.refusal ≡ accepted → (places : List ℕ) → Roomy places → {t : Meshed} {places' : List ℕ} →
      Meshes (meshing marks' f.m places) t places' → (t.refusal ≡ accepted) × Lists input places (Ok t.triangles) places'
  triangles_list = meshed_in input given surveyed c.marks c.heights c.marks_long c.heights_long c.selects

pub runs_lists : {input places : List ℕ} {r : Result ℕ ℕ} {places' : List ℕ} → Roomy places → Runs input places r places' →
    Lists input places r places'
runs_lists {input} {places} room (form {e} k d) =
    rw (d.number, d.untouched) (input_refused input places (sym ((follows input).1 k)))
runs_lists {input} {places} room (selection k c n d) = rw (d.number, d.untouched) (selection_lists k c places n)
runs_lists {input} {places} room (triangles {t = a} k c z t e) =
    let listed = triangles_list k c z places room t in rw (e ∙ taken a listed.0) listed.1

pub runs : {input places : List ℕ} {r : Result ℕ ℕ} {places' : List ℕ} → Roomy places → Lists input places r places' ↔ Runs input places r places'
runs room = (lists_runs room, runs_lists room)

-- what is printed of two runs is the same, whatever their places held
pub runs_alike : {input a b : List ℕ} → Roomy a → Roomy b → {r s : Result ℕ ℕ} {a' b' : List ℕ} → Runs input a r a' → Runs input b s b' →
    text_of r a' ≡ text_of s b'
runs_alike room_a room_b p q = text_listed room_a (runs_lists room_a p) ∙ sym (text_listed room_b (runs_lists room_b q))

-- every input shows its text, whatever places with room held before
pub text_shows_over : (input places : List ℕ) → Roomy places → Shows input (text_in input)
text_shows_over input places room =
    let s : Lists input places (answer_in input) (written_over (places_in input) places) = record { answer = refl; written = refl } in
    record {
      answer = answer_in input;
      before = places;
      room = omega (arith, room);
      after = written_over (places_in input) places;
      runs = lists_runs room s;
      printed = subst (Printed (answer_in input) (written_over (places_in input) places)) (text_listed room s) (printed _ _);
    }

pub text_shows : (input : List ℕ) → Shows input (text_in input)
text_shows input =
    let n : ℕ = entries_each * (size_of largest_framed).triangles in
    let places : List ℕ = replicate n 0 in
    text_shows_over input places (le_of_eq (sym (length-replicate {A = ℕ} n 0)))

-- and no second one
pub shows_text : {input text : List ℕ} → Shows input text → text ≡ text_in input
shows_text s =
    let room : Roomy s.before = omega (arith, s.room) in printed_only s.printed ∙ text_listed room (runs_lists room s.runs)

pub shows_only : {input a b : List ℕ} → Shows input a → Shows input b → a ≡ b
shows_only s t = shows_text s ∙ sym (shows_text t)
