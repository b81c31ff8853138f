-- The refusal, the answer and the places of an input by cases: where nothing is turned down and where something is. No law elsewhere
-- opens their definitions.
use mathlib.Core.Path.{◌≡◌, sym, ◌∙◌}
use mathlib.Core.Logic.{◌≢◌}
use mathlib.Core.List.{List, []}
use Prim.Native.Nat.{ℕ}
use native.Mathlib.Decide.{ℕ_discrete}
use borrow.Author.Tests.{eq-eqb, ne_eqb}
use Rattle.grid.specs.Refusal.{accepted}
use Rattle.frame.specs.Frame.{size_in}
use Rattle.frame.specs.Frame.{refusal as form_refusal}
use Rattle.selection.specs.Selected.{refusal as selection_refusal}
use Rattle.mesh.specs.Triangles.{mesh, places_of, number}
use Rattle.std.specs.Prelude.{Ok, Err}
use Rattle.listing.specs.Program.{selected, refusal, kept_in, answer_in, places_in}

module _ (input : List ℕ) where
  -- the input's own refusal
  pub refusal_form : form_refusal input ≢ accepted → refusal input ≡ form_refusal input
  unfolding refusal
  refusal_form n = rw (ne_eqb (form_refusal input) accepted n)

  -- selection's own
  pub refusal_selection : form_refusal input ≡ accepted → refusal input ≡ selection_refusal (selected input)
  unfolding refusal
  refusal_selection e = rw (eq-eqb (form_refusal input) accepted e)

  pub answer_taken : refusal input ≡ accepted → answer_in input ≡ Ok (number (size_in input) (kept_in input))
  unfolding answer_in
  answer_taken e = rw (eq-eqb (refusal input) accepted e)

  pub places_taken : refusal input ≡ accepted → places_in input ≡ places_of (size_in input) (mesh (size_in input) (kept_in input))
  unfolding places_in
  places_taken e = rw (eq-eqb (refusal input) accepted e)

  pub answer_refused : refusal input ≢ accepted → answer_in input ≡ Err (refusal input)
  unfolding answer_in
  answer_refused n = rw (ne_eqb (refusal input) accepted n)

  pub places_refused : refusal input ≢ accepted → places_in input ≡ []
  unfolding places_in
  places_refused n = rw (ne_eqb (refusal input) accepted n)

  -- an accepted input is of the right form
  pub formed : refusal input ≡ accepted → form_refusal input ≡ accepted
  formed ok = by (ℕ_discrete (form_refusal input) accepted)
    where
      by : Dec (form_refusal input ≡ accepted) → form_refusal input ≡ accepted
      by (yes e) = e
      by (no n) = sym (refusal_form n) ∙ ok
