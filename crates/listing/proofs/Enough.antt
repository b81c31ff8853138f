-- Of what an accepted selection writes triangles turn down nothing but a buffer too short, and room for the most triangles of a frame is
-- never too short. So they answer and write, over whatever the buffer held, the triangles of the input.
use mathlib.Core.Path.{◌≡◌, refl, sym, ap, ◌∙◌}
use mathlib.Core.List.{List}
use Prim.Native.Nat.{ℕ, ◌*◌, ◌≤◌}
use native.Mathlib.Nat.{mul-le-mul}
use native.Mathlib.Omega.{arith}
use lib.ListN.{length}
use lib.Pow.{pow_mono}
use Rattle.grid.specs.Refusal.{accepted}
use Rattle.grid.specs.Sizes.{size_of}
use Rattle.frame.specs.Frame.{largest_framed, size_in}
use Rattle.frame.proofs.Accepted.{accepted_input}
use Rattle.selection.specs.Selected.{marks_by, heights_after, Selects}
use Rattle.selection.specs.Selected.{answer_of as selection_answer, refusal as selection_refusal}
use Rattle.selection.proofs.Answered.{marks_taken}
use Rattle.selection.proofs.Answered.{answer_refusal as selection_refusal_lem}
use Rattle.mesh.specs.Meshed.{Handed, handed, entries_each, needed, written_over, answer_of, places_after}
use Rattle.mesh.specs.Meshed.{refusal as mesh_refusal}
use Rattle.mesh.proofs.Answered.{places_written}
use Rattle.mesh.proofs.Answered.{answer_taken as mesh_taken}
use Rattle.mesh.proofs.Selected.{selected_room, room_enough}
use Rattle.mesh.specs.declared.Meshed.{Meshed}
use Rattle.std.specs.Prelude.{Ok}
use Rattle.listing.specs.Program.{selected, refusal, answer_in, places_in}
use Rattle.listing.specs.Inner.{Roomy}
use Rattle.listing.proofs.Cases.{refusal_selection, answer_taken, places_taken, formed}

-- what triangles are handed: the marks that selection writes, the size, and the buffer for the places
abbrev pub meshed : List ℕ → List ℕ → Handed
meshed input places = handed (marks_by (selected input)) (size_in input) places

-- the most triangles of the program's sizes
pub triangles_most : {m : ℕ} → m ≤ largest_framed → (size_of m).triangles ≤ (size_of largest_framed).triangles
triangles_most {m} l = omega (arith, mul-le-mul (pow_mono l) (pow_mono l))

module _ (input places : List ℕ) (room : Roomy places) (ok : refusal input ≡ accepted) where
  chosen : selection_refusal (selected input) ≡ accepted
  chosen = sym (refusal_selection input (formed input ok)) ∙ ok

  selects : Selects (selected input) (selection_answer (selected input)) (marks_by (selected input)) (heights_after (selected input))
  selects = record { answer = refl; marks = sym (marks_taken (selected input) chosen); heights = refl }

  answered : (selection_answer (selected input)).refusal ≡ accepted
  answered = selection_refusal_lem (selected input) ∙ chosen

  fits : entries_each * needed (meshed input places) ≤ length places
  fits = room_enough selects answered places (omega (arith, room, triangles_most (accepted_input input (formed input ok)).small))

  taken : mesh_refusal (meshed input places) ≡ accepted
  taken = selected_room selects answered places fits

  pub enough_answer : {t : Meshed} → t ≡ answer_of (meshed input places) → (t.refusal ≡ accepted) × (Ok t.triangles ≡ answer_in input)
  enough_answer e =
      let is = e ∙ mesh_taken (meshed input places) taken in
      (ap (λ (t : Meshed). t.refusal) is, (λ i. Ok (is i).triangles) ∙ sym (answer_taken input ok))

  pub enough_places : places_after (meshed input places) ≡ written_over (places_in input) places
  enough_places = places_written (meshed input places) taken ∙ ap (λ l. written_over l places) (sym (places_taken input ok))
