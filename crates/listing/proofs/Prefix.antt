-- What is printed of the bytes that the program reads, at most one more than the longest frame has, is what is printed of the whole input:
-- an accepted input is read whole, and any other is refused with the same number.
use mathlib.Core.Path.{◌≡◌, sym, ap, ◌∙◌}
use mathlib.Core.Logic.{◌≢◌}
use mathlib.Core.List.{List}
use Prim.Native.Nat.{ℕ, suc}
use native.Mathlib.Omega.{arith}
use native.Mathlib.Decide.{ℕ_discrete}
use lib.Seq.{take_all}
use Rattle.grid.specs.Refusal.{accepted}
use Rattle.std.specs.Prelude.{Err}
use Rattle.frame.specs.Frame.{longest, number_of}
use Rattle.frame.specs.Frame.{refusal as form_refusal}
use Rattle.frame.proofs.Accepted.{accepted_input}
use Rattle.frame.proofs.Seen.{seen, seen_answer, total_most}
use Rattle.listing.specs.Program.{refusal}
use Rattle.listing.specs.Text.{text_of, text_in}
use Rattle.listing.proofs.Cases.{refusal_form, answer_refused, places_refused}

module _ (input : List ℕ) where
  same : form_refusal (seen input) ≡ form_refusal input
  same = ap number_of (seen_answer input)

  whole : form_refusal input ≡ accepted → seen input ≡ input
  whole e =
      let a = accepted_input input e in
      take_all (suc longest) input (omega (arith, a.long, total_most a.small))

  -- refused with the same number
  alike : form_refusal input ≢ accepted → refusal (seen input) ≡ refusal input
  alike n = refusal_form (seen input) (λ e. n (sym same ∙ e)) ∙ same ∙ sym (refusal_form input n)

  pub seen_text : text_in (seen input) ≡ text_in input
  seen_text = by (ℕ_discrete (form_refusal input) accepted)
    where
      by : Dec (form_refusal input ≡ accepted) → text_in (seen input) ≡ text_in input
      by (yes e) = ap text_in (whole e)
      by (no n) =
          let e = alike n in
          let other : refusal input ≢ accepted = λ k. n (sym (refusal_form input n) ∙ k) in
          let down : refusal (seen input) ≢ accepted = λ k. other (sym e ∙ k) in
          let answer = answer_refused (seen input) down ∙ ap Err e ∙ sym (answer_refused input other) in
          let places = places_refused (seen input) down ∙ sym (places_refused input other) in
          λ i. text_of (answer i) (places i)
