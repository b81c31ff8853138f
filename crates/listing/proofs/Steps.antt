-- The code's steps list the input's answer and places: where the input is refused, where selection refuses it, and where its triangles are
-- written. Selection refuses by the lengths of the buffers that it is lent alone, so it does not matter what they hold.
use mathlib.Core.Path.{◌≡◌, refl, sym, ap, ◌∙◌, subst}
use mathlib.Core.Logic.{◌≢◌}
use mathlib.Core.List.{List}
use Prim.Native.Nat.{ℕ}
use lib.ListN.{length, length-replicate}
use lib.IntN.{ℤ, pos}
use Rattle.grid.specs.Grid.{samples}
use Rattle.grid.specs.Refusal.{accepted, number}
use Rattle.grid.specs.declared.refusals.Refusal.{Refusal}
use Rattle.std.specs.Prelude.{Result, Ok, Err}
use Rattle.frame.specs.Frame.{number_of, size_in, tolerance_in, survey_in}
use Rattle.frame.specs.Frame.{answer_of as frame_answer, refusal as form_refusal}
use Rattle.frame.specs.declared.Frame.{Frame}
use Rattle.grid.proofs.Refused.{refused}
use Rattle.frame.proofs.Answered.{frame_is}
use Rattle.selection.specs.Error.{over}
use Rattle.selection.specs.Marks.{marks_of}
use Rattle.selection.specs.Selected.{Handed as Selecting, marks_by, Selects}
use Rattle.selection.specs.Selected.{handed as selecting, refusal as selection_refusal}
use Rattle.selection.specs.declared.Selected.{Selected}
use Rattle.selection.proofs.Answered.{marks_taken}
use Rattle.selection.proofs.Answered.{answer_refusal as selection_refusal_lem}
use Rattle.mesh.specs.Meshed.{answer_of, Meshes, written_over}
use Rattle.mesh.specs.Meshed.{Handed as Meshing}
use Rattle.mesh.specs.Meshed.{handed as meshing}
use Rattle.mesh.specs.declared.Meshed.{Meshed}
use Rattle.listing.specs.Program.{selected, refusal}
use Rattle.listing.specs.Inner.{Roomy, Lists}
use Rattle.listing.proofs.Cases.{refusal_form, refusal_selection, answer_refused, places_refused}
use Rattle.listing.proofs.Enough.{meshed, enough_answer, enough_places}

module _ (input places : List ℕ) where
  abbrev pub meshed_answer : Meshed
  meshed_answer = answer_of (meshed input places)

  pub lists_refused : {n : ℕ} → n ≡ refusal input → n ≢ accepted → Lists input places (Err n) places
  lists_refused e n =
      let other : refusal input ≢ accepted = λ z. n (e ∙ z) in
      record {
        answer = ap Err e ∙ sym (answer_refused input other);
        written = ap (λ l. written_over l places) (sym (places_refused input other));
      }

  pub input_refused : {e : Refusal} → frame_answer input ≡ Err e → Lists input places (Err (number e)) places
  input_refused {e} k =
      let n = refused e in
      let own : form_refusal input ≡ number e = ap number_of k in
      lists_refused (sym (refusal_form input (λ z. n (sym own ∙ z)) ∙ own)) n

  module _ (room : Roomy places) (ok : refusal input ≡ accepted) {places' : List ℕ} where
    lists_meshed : {t : Meshed} → Meshes (meshed input places) t places' → (t.refusal ≡ accepted) × Lists input places (Ok t.triangles) places'
    lists_meshed k =
        let e = enough_answer input places room ok k.answer in
        (e.0, record { answer = e.1; written = k.places ∙ enough_places input places room ok })

    -- and what is listed is what the triangles of the marks are that selection writes
    pub lists_meshes : {r : Result ℕ ℕ} → Lists input places r places' →
        Meshes (meshed input places) meshed_answer places' × (meshed_answer.refusal ≡ accepted) × (r ≡ Ok meshed_answer.triangles)
    lists_meshes s =
        let e = enough_answer input places room ok refl in
        (record { answer = refl; places = s.written ∙ sym (enough_places input places room ok) }, e.0, s.answer ∙ sym e.1)

-- selection refuses by the lengths of its buffers alone
by_lengths : (h : Selecting) (marks : List ℕ) (heights : List ℤ) → length h.marks ≡ length marks → length h.heights ≡ length heights →
    selection_refusal h ≡ selection_refusal (selecting h.survey h.m h.tolerance marks heights)
unfolding selection_refusal
by_lengths h marks heights e f = rw (e, f)

-- what the code was told: the frame, the survey in it, and the lengths of the buffers for marks and heights
module _ (input : List ℕ) {f : Frame} (k : frame_answer input ≡ Ok f) where
  pub size : f.m ≡ size_in input
  size = ap (λ (f : Frame). f.m) (frame_is input k)

  tolerated : f.tolerance ≡ tolerance_in input
  tolerated = ap (λ (f : Frame). f.tolerance) (frame_is input k)

module _ (input : List ℕ) {f : Frame} (k : frame_answer input ≡ Ok f) {survey : List ℤ} (s : survey ≡ survey_in input)
    (marks : List ℕ) (heights : List ℤ) (marks_long : length marks ≡ samples f.m) (heights_long : length heights ≡ samples f.m) where
  -- selection of the same survey, with buffers as long
  same : selection_refusal (selecting survey f.m f.tolerance marks heights) ≡ refusal input
  same =
      let many : samples f.m ≡ samples (size_in input) = ap samples (size input k) in
      (λ i. selection_refusal (selecting (s i) (size input k i) (tolerated input k i) marks heights))
      ∙ by_lengths (selecting (survey_in input) (size_in input) (tolerance_in input) marks heights) _ _
      (marks_long ∙ many ∙ sym (length-replicate (samples (size_in input)) 0))
      (heights_long ∙ many ∙ sym (length-replicate (samples (size_in input)) (pos 0)))
      ∙ sym (refusal_selection input (ap number_of k))

  module _ {a : Selected} {marks' : List ℕ} {heights' : List ℤ}
      (t : Selects (selecting survey f.m f.tolerance marks heights) a marks' heights') where
    same_number : a.refusal ≡ refusal input
    same_number = ap (λ (a : Selected). a.refusal) t.answer ∙ selection_refusal_lem (selecting survey f.m f.tolerance marks heights) ∙ same

    pub refused_in : (places : List ℕ) → a.refusal ≢ accepted → Lists input places (Err a.refusal) places
    refused_in places other = lists_refused input places same_number other

    module _ (e : a.refusal ≡ accepted) where
      marked : marks' ≡ marks_by (selected input)
      marked =
          t.marks ∙ marks_taken (selecting survey f.m f.tolerance marks heights) (same ∙ sym same_number ∙ e)
          ∙ (λ i. marks_of (size input k i) (s i) (over (size input k i) (s i) (tolerated input k i)))

      pub meshed_in : (places : List ℕ) → Roomy places → {t : Meshed} {places' : List ℕ} → Meshes (meshing marks' f.m places) t places' →
          (t.refusal ≡ accepted) × Lists input places (Ok t.triangles) places'
      meshed_in places room {t} {places'} h =
          lists_meshed input places room (sym same_number ∙ e)
          (subst (λ (g : Meshing). Meshes g t places') (λ i. meshing (marked i) (size input k i) places) h)
