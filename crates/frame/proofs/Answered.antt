-- The answers and the survey at exit, where nothing is turned down and where something is. No law elsewhere opens their definitions.
use mathlib.Core.Path.{◌≡◌, sym, ap, ◌∙◌}
use mathlib.Core.Logic.{◌≢◌}
use mathlib.Core.List.{List}
use Prim.Native.Nat.{ℕ}
use lib.IntN.{ℤ, pos}
use borrow.Author.Tests.{ne_eqb}
use Rattle.std.specs.Prelude.{Ok, Err}
use Rattle.grid.specs.declared.refusals.Refusal.{Refusal}
use Rattle.grid.specs.Grid.{samples, place}
use Rattle.grid.specs.Refusal.{accepted}
use Rattle.grid.proofs.OnGrid.{is_on_grid}
use Rattle.grid.proofs.Places.{place_point}
use Rattle.frame.specs.Frame.{number_of, framed, answer_of, size_in, height_at, survey_in, Handed, heights_answer, heights_refusal, survey_after, Surveys}
use Rattle.frame.specs.Inner.{Copied}
use Rattle.frame.specs.declared.Frame.{Frame}
use Rattle.grid.proofs.Refused.{refused}
use Rattle.frame.proofs.Accepted.{accepted_input}

module _ (input : List ℕ) where
  -- what is answered with no refusal
  pub frame_is : {f : Frame} → answer_of input ≡ Ok f → f ≡ framed input
  frame_is {f} e = let k : Ok f ≡ Ok (framed input) = sym e ∙ (accepted_input input (ap number_of e)).carried in cc

  -- a survey of (N+1)² entries, each the height at its place, is the one that the input holds
  pub survey_is : {survey : List ℤ} → Copied input (samples (size_in input)) survey → survey ≡ survey_in input
  unfolding survey_in
  survey_is {survey} c =
      let m = size_in input in
      is_on_grid m (λ p. height_at input (place m p)) (pos 0) survey c.long
      (λ i l. c.each i l ∙ ap (height_at input) (sym (place_point m i)))

module _ (h : Handed) where
  pub survey_taken : heights_refusal h ≡ accepted → survey_after h ≡ survey_in h.input
  unfolding survey_after
  survey_taken ok = rw ok

  pub survey_refused : heights_refusal h ≢ accepted → survey_after h ≡ h.survey
  unfolding survey_after
  survey_refused n = rw (ne_eqb (heights_refusal h) accepted n)

  -- so these meet the promise
  pub turned_down : {r : Refusal} → heights_answer h ≡ Err r → Surveys h (Err r) h.survey
  turned_down {r} e = record { answer = sym e; survey = sym (survey_refused (λ z. refused r (sym (ap number_of e) ∙ z))) }

  pub surveyed : heights_answer h ≡ Ok tt → {survey' : List ℤ} → survey' ≡ survey_in h.input → Surveys h (Ok tt) survey'
  surveyed e s = record { answer = sym e; survey = s ∙ sym (survey_taken (ap number_of e)) }
