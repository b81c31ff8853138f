-- The answer and the buffers at exit, where nothing is turned down and where something is. No law elsewhere opens their definitions.
use Rattle.std.proofs.Common.{◌≡◌, ℕ, ◌≢◌, List, ℤ, sym, ap, ◌∙◌, ne_eqb}
use native.Mathlib.Decide.{ℕ_discrete}
use Rattle.grid.specs.Grid.{is_void}
use Rattle.grid.specs.Refusal.{accepted}
use Rattle.survey.specs.Filled.{filled}
use Rattle.selection.specs.Error.{over}
use Rattle.selection.specs.Marks.{count, marked_own, marked_dependence}
use Rattle.selection.specs.Selected.{Handed, refusal, marks_by, answer_of, marks_after, heights_after, Selects}
use Rattle.selection.specs.Inner.{counted}
use Rattle.selection.specs.declared.Selected.{Selected}
use Rattle.selection.proofs.Accepted.{accepted_handed}
use Rattle.selection.proofs.Counted.{count_voids}

-- what an accepted call answers, and what a refused one does
abbrev pub taken : Handed → Selected
taken h = record {
  refusal = accepted;
  own = count marked_own (marks_by h);
  dependent = count marked_dependence (marks_by h);
  voids = count is_void h.survey;
}

abbrev pub refused : Handed → Selected
refused h = record { refusal = refusal h; own = 0; dependent = 0; voids = 0 }

module _ (h : Handed) (ok : refusal h ≡ accepted) where
  pub answer_taken : answer_of h ≡ taken h
  unfolding answer_of
  answer_taken = rw ok

  pub marks_taken : marks_after h ≡ marks_by h
  unfolding marks_after
  marks_taken = rw ok

  pub heights_taken : heights_after h ≡ filled h.m h.survey
  unfolding heights_after
  heights_taken = rw ok

  -- what the code leaves: the marks, the filled heights, and what is counted from the marks
  pub completed : {answer : Selected} {marks : List ℕ} {heights : List ℤ} → marks ≡ marks_by h → heights ≡ filled h.m h.survey →
      answer ≡ counted marks → Selects h answer marks heights
  completed em eh ea =
      let a = accepted_handed h ok in
      let voids = count_voids h.m h.survey a.lengths.survey (over h.m h.survey h.tolerance) a.corners in
      record {
        answer = ea ∙ ap counted em ∙ rw voids (sym answer_taken);
        marks = em ∙ sym marks_taken;
        heights = eh ∙ sym heights_taken;
      }

module _ (h : Handed) (no : refusal h ≢ accepted) where
  pub answer_refused : answer_of h ≡ refused h
  unfolding answer_of
  answer_refused = rw (ne_eqb (refusal h) accepted no)

  pub marks_refused : marks_after h ≡ h.marks
  unfolding marks_after
  marks_refused = rw (ne_eqb (refusal h) accepted no)

  pub heights_refused : heights_after h ≡ h.heights
  unfolding heights_after
  heights_refused = rw (ne_eqb (refusal h) accepted no)

-- the answer carries the refusal number
pub answer_refusal : (h : Handed) → (answer_of h).refusal ≡ refusal h
answer_refusal h = by (ℕ_discrete (refusal h) accepted)
  where
    by : Dec (refusal h ≡ accepted) → (answer_of h).refusal ≡ refusal h
    by (yes e) = ap (λ (a : Selected). a.refusal) (answer_taken h e) ∙ sym e
    by (no n) = ap (λ (a : Selected). a.refusal) (answer_refused h n)
