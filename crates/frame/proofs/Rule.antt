-- The promises of `read` and `heights` and document 01's sentences mean each other, of any answer and survey: what meets a promise
-- follows the sentences, and whatever follows the sentences meets the promise. So the sentences leave nothing open.
use mathlib.Core.Path.{◌≡◌, refl, sym, ap, ◌∙◌}
use mathlib.Core.Logic.{◌↔◌}
use mathlib.Core.List.{List}
use Prim.Native.Nat.{ℕ, ◌+◌, ◌*◌}
use native.Mathlib.Decide.{ℕ_discrete}
use lib.IntN.{ℤ, pos}
use Rattle.std.specs.Prelude.{⊤, Result}
use Rattle.grid.specs.declared.refusals.Refusal.{Refusal}
use Rattle.grid.specs.Grid.{place, point}
use Rattle.grid.specs.Refusal.{accepted}
use Rattle.grid.specs.declared.points.Point.{Point}
use Rattle.grid.proofs.OnGrid.{length_on_grid, on_grid_point}
use Rattle.grid.proofs.Places.{place_point, point_inside}
use Rattle.frame.specs.Bytes.{number_at, signed}
use Rattle.frame.specs.Frame.{heights_at, height_bytes, tolerance_at, size_in, number_of, framed, answer_of}
use Rattle.frame.specs.Frame.{height_at, survey_in, Handed, heights_answer, survey_after, Surveys}
use Rattle.frame.specs.Rule.{Carries, Follows, HeightAt, RowByRow, FollowsHeights}
use Rattle.frame.specs.declared.Frame.{Frame}
use Rattle.frame.proofs.Numbers.{two_is, four_is, signed_is, signed_only}
use Rattle.frame.proofs.Accepted.{turned, turned_only, roomy, turned_heights, heights_only, roomy_heights}
use Rattle.frame.proofs.Numbered.{alike}
use Rattle.frame.proofs.Answered.{frame_is, survey_is, survey_taken, survey_refused}

-- `read`
module _ (input : List ℕ) where
  carries : Carries input (framed input)
  carries = record { m = refl; tolerance = four_is input tolerance_at }

  carries_only : {f : Frame} → Carries input f → f ≡ framed input
  carries_only k = λ i. record { m = k.m i; tolerance = (k.tolerance ∙ sym (four_is input tolerance_at)) i }

  pub follows : {r : Result Frame Refusal} → (r ≡ answer_of input) ↔ Follows input r
  follows {r} = (
    λ s.
        record {
          turned = rw s (turned input);
          framed = λ f e. rw (frame_is input (sym s ∙ e)) carries;
        },
    λ k.
        alike r (answer_of input) (turned_only input k.turned) (roomy input (turned input))
        (λ x y e f. carries_only (k.framed x e) ∙ sym (frame_is input f)),
  )

-- the height at a place is there, and no other number is
pub height_is : (input : List ℕ) (i : ℕ) {z : ℤ} → z ≡ height_at input i → HeightAt input i z
height_is input i e =
    let n = number_at input (heights_at + height_bytes * i) height_bytes in
    record { bits = n; two = two_is input (heights_at + height_bytes * i); signed = rw e (signed_is n) }

pub height_only : {input : List ℕ} {i : ℕ} {z : ℤ} → HeightAt input i z → z ≡ height_at input i
height_only {input} {i} k = signed_only k.signed ∙ ap signed (k.two ∙ sym (two_is input (heights_at + height_bytes * i)))

-- the survey that the input holds is row by row, and no other is
pub row_by_row : (input : List ℕ) → RowByRow input (survey_in input)
unfolding survey_in place
row_by_row input =
    let m = size_in input in
    let f : Point → ℤ = λ p. height_at input (place m p) in
    record { long = length_on_grid m f; each = λ p k. height_is input (place m p) (on_grid_point m f (pos 0) p k) }

pub rows_only : {input : List ℕ} {survey : List ℤ} → RowByRow input survey → survey ≡ survey_in input
unfolding place
rows_only {input} {survey} k =
    survey_is input
    (record {
      long = k.long;
      each = λ i l.
          rw (place_point (size_in input) i) at (height_only (k.each (point (size_in input) i) (point_inside (size_in input) i l)));
    })

-- the same of `heights`
module _ {h : Handed} {r : Result ⊤ Refusal} {survey' : List ℤ} where
  pub follows_heights : Surveys h r survey' ↔ FollowsHeights h r survey'
  follows_heights = (
    λ s.
        record {
          turned = rw s.answer (turned_heights h);
          refused = λ n. s.survey ∙ survey_refused h (λ e. n (ap number_of s.answer ∙ e));
          surveyed = λ e. rw (s.survey ∙ survey_taken h (sym (ap number_of s.answer) ∙ e)) (row_by_row h.input);
        },
    λ f.
        record {
          answer = alike r (heights_answer h) (heights_only h f.turned) (roomy_heights h (turned_heights h)) (λ x y e g. refl);
          survey = by f (ℕ_discrete (number_of r) accepted);
        },
  )
    where
      by : FollowsHeights h r survey' → Dec (number_of r ≡ accepted) → survey' ≡ survey_after h
      by f (yes e) = rows_only (f.surveyed e) ∙ sym (survey_taken h (sym (heights_only h f.turned) ∙ e))
      by f (no n) = f.refused n ∙ sym (survey_refused h (λ e. n (heights_only h f.turned ∙ e)))
