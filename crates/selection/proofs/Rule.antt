-- What the promise of selection means, in the document's sentences, of any answer and buffers that meet it; and whatever follows
-- those sentences meets the promise. So the sentences leave nothing open.
use Rattle.std.proofs.Common.{◌≡◌, ℕ, ◌*◌, ◌≤◌, Bool, true, false, cond, ◌≢◌, ◌↔◌, List, get_or, ℤ, sym, refl, ap, ◌∙◌, subst, ⊎_elim, ltb-true, lt-ltb, eq-eqb, eqb-true}
use native.Mathlib.Decide.{ℕ_discrete}
use Rattle.grid.specs.Grid.{Inside, point, is_void}
use Rattle.grid.specs.Points.{is_corner}
use Rattle.grid.specs.Mark.{left_out, for_error, for_corner, good_mark, kept_mark, filled_mark}
use Rattle.grid.specs.Refusal.{accepted}
use Rattle.grid.specs.declared.points.Point.{Point}
use Rattle.grid.proofs.Dependence.{depends_rank}
use Rattle.grid.proofs.Numbers.{good_elsewhere}
use Rattle.grid.proofs.OnGrid.{on_grid_point, is_on_grid}
use Rattle.grid.proofs.Places.{place_point, point_inside}
use Rattle.grid.proofs.Spaced.{corner_inside}
use Rattle.survey.specs.Filled.{filled}
use Rattle.survey.proofs.Rule.{filled_fills, fills_only}
use Rattle.selection.specs.Error.{over}
use Rattle.selection.specs.Kept.{kept}
use Rattle.selection.specs.Marks.{mark_by, mark, marks_of, mark_at, count, marked_own, marked_dependence}
use Rattle.selection.specs.Selected.{Handed, refusal, marks_by, Selects}
use Rattle.selection.specs.Rule.{Least, Turned, Untouched, SoMany, Selection, OffItsEnds, ByTolerance, Follows, Told}
use Rattle.selection.specs.declared.Selected.{Selected}
use Rattle.selection.proofs.Least.{kept_least, least_only}
use Rattle.selection.proofs.Marked.{kept_mark_lem, good_mark_lem, mark_own, mark_dependent, void_mark, own_surveyed, corners_within}
use Rattle.selection.proofs.Within.{exceeding_filled}
use Rattle.selection.proofs.Accepted.{turned, turned_only, accepted_handed}
use Rattle.selection.proofs.Counted.{marks_long_lem, count_voids}
use Rattle.selection.proofs.Counting.{counted, counted_only, own_says, dependence_says, filled_says}
use Rattle.selection.proofs.Answered.{taken, refused, answer_taken, marks_taken, heights_taken}
use Rattle.selection.proofs.Answered.{answer_refused, marks_refused, heights_refused, answer_refusal}

-- a set that has the same points of the square is least too
least_alike : {m : ℕ} {over : Point → Bool} {set same : Point → Type 0} → ((p : Point) → Inside m p → set p ↔ same p) →
    Least m over set → Least m over same
least_alike {m} alike l =
    record {
      closed = record {
        corners = λ p e. (alike p (corner_inside m p e)).0 (l.closed.corners p e);
        depends = λ p q h s i. (alike q (depends_rank m p q h i).0).0 (l.closed.depends p q h ((alike p h).1 s) i);
      };
      contains = λ p h o. (alike p h).0 (l.contains p h o);
      least = λ other c o p h s. l.least other c o p h ((alike p h).1 s);
    }

module _ (h : Handed) where
  abbrev is_over : Point → Bool
  is_over = over h.m h.survey h.tolerance

  abbrev heights_by : List ℤ
  heights_by = filled h.m h.survey

  -- the mark that stands at a point is its own
  mark_at_lem : (p : Point) → Inside h.m p → mark_at h.m (marks_by h) p ≡ mark h.m h.survey is_over p
  unfolding marks_of
  mark_at_lem p k = on_grid_point h.m (mark h.m h.survey is_over) left_out p k

  module _ (ok : refusal h ≡ accepted) where
    kept_at_lem : (p : Point) → Inside h.m p → kept_mark (mark_at h.m (marks_by h) p) ≡ kept h.m is_over p
    kept_at_lem p k = ap kept_mark (mark_at_lem p k) ∙ kept_mark_lem h.m h.survey is_over (own_surveyed h.m h.survey (2 * h.tolerance)) p k

    own_at : (p : Point) → Inside h.m p → marked_own (mark_at h.m (marks_by h) p) ≡ is_over p
    own_at p k =
        let limit = 2 * h.tolerance in
        ap marked_own (mark_at_lem p k)
        ∙ mark_own h.m h.survey is_over (own_surveyed h.m h.survey limit) (corners_within h.m h.survey limit) p

    selection_of : Selection h.m h.survey is_over (taken h) (marks_by h) heights_by
    selection_of =
        record {
          long = marks_long_lem h.m h.survey is_over;
          least = least_alike (λ p k. (λ e. kept_at_lem p k ∙ e, λ e. sym (kept_at_lem p k) ∙ e)) (kept_least h.m is_over);
          good = λ p k. rw (mark_at_lem p k) (good_mark_lem h.m h.survey is_over (own_surveyed h.m h.survey (2 * h.tolerance)) p);
          own_marks = λ p k. (λ e. sym (own_at p k) ∙ eq-eqb _ for_error e, λ e. eqb-true _ for_error (own_at p k ∙ e));
          void_marks = λ p k. rw (mark_at_lem p k) (void_mark h.m h.survey is_over (accepted_handed h ok).corners p);
          fills = filled_fills h.m h.survey;
          own_count = counted marked_own _ own_says (marks_by h);
          dependent_count = counted marked_dependence _ dependence_says (marks_by h);
          void_count = counted is_void _ (λ x. (λ e. e, λ e. e)) h.survey;
        }

    off : (p : Point) → is_over p ≡ true → OffItsEnds h.m h.tolerance h.survey heights_by p
    off p e =
        let known = own_surveyed h.m h.survey (2 * h.tolerance) p e in
        record { surveyed = known; off = ltb-true (2 * h.tolerance) _ (exceeding_filled h.m h.survey (2 * h.tolerance) p refl known ∙ e) }

    over_off : (p : Point) → OffItsEnds h.m h.tolerance h.survey heights_by p → is_over p ≡ true
    over_off p o =
        sym (exceeding_filled h.m h.survey (2 * h.tolerance) p refl o.surveyed) ∙ lt-ltb (2 * h.tolerance) _ o.off

    told_of : Told h.m is_over (taken h) (marks_by h)
    told_of =
        let a = accepted_handed h ok in
        record {
          dependence = λ p k. rw (kept_at_lem p k) (ap marked_dependence (mark_at_lem p k) ∙ mark_dependent h.m h.survey is_over p);
          voids =
              subst (SoMany (λ k. 4 ≤ k) (marks_by h)) (count_voids h.m h.survey a.lengths.survey is_over a.corners)
              (counted filled_mark _ filled_says (marks_by h));
        }

module _ {h : Handed} {r : Selected} {marks : List ℕ} {heights : List ℤ} (s : Selects h r marks heights) where
  number : r.refusal ≡ refusal h
  number = ap (λ (a : Selected). a.refusal) s.answer ∙ answer_refusal h

  -- the number given has its case
  pub turned_down_lem : Turned h r.refusal
  turned_down_lem = rw number (turned h)

  -- refused: nothing but the number
  pub untouched : r.refusal ≢ accepted → Untouched h r marks heights
  untouched n =
      let no : refusal h ≢ accepted = λ e. n (number ∙ e) in
      let zero : r ≡ refused h = s.answer ∙ answer_refused h no in
      record {
        own = ap (λ (a : Selected). a.own) zero;
        dependent = ap (λ (a : Selected). a.dependent) zero;
        voids = ap (λ (a : Selected). a.voids) zero;
        marks = s.marks ∙ marks_refused h no;
        heights = s.heights ∙ heights_refused h no;
      }

  -- accepted: the document's sentences, and what follows for a reader
  pub selection : r.refusal ≡ accepted → Selection h.m h.survey (over h.m h.survey h.tolerance) r marks heights
  selection e =
      let ok = sym number ∙ e in
      rw (s.answer ∙ answer_taken h ok, s.marks ∙ marks_taken h ok, s.heights ∙ heights_taken h ok) (selection_of h ok)

  by_tolerance : r.refusal ≡ accepted → ByTolerance h r marks heights
  by_tolerance e =
      let ok = sym number ∙ e in
      record {
        over = is_over h;
        exceeds = λ p k. rw (s.heights ∙ heights_taken h ok) (off h ok p, over_off h ok p);
        selection = selection e;
      }

  pub told : r.refusal ≡ accepted → Told h.m (over h.m h.survey h.tolerance) r marks
  told e = let ok = sym number ∙ e in rw (s.answer ∙ answer_taken h ok, s.marks ∙ marks_taken h ok) (told_of h ok)

-- two tests that hold alike are the same
pub same_test : (a b : Bool) → (a ≡ true) ↔ (b ≡ true) → a ≡ b
same_test true b e = sym (e.0 refl)
same_test false true e = e.1 refl
same_test false false e = refl

-- the mark that says what k says
abbrev alike : ℕ → ℕ
alike k = mark_by (filled_mark k) (marked_own k) (kept_mark k)

-- a good mark is told by what it says: whether it keeps its point, whether for its own error, and whether the sample was void
good_told : (corner : Bool) (k : ℕ) → good_mark corner k ≡ true → k ≡ cond corner for_corner (alike k)
good_told true k e = eqb-true k for_corner e
good_told false k e =
    ⊎_elim (⊎_elim (⊎_elim (⊎_elim (is 0 refl) (is 1 refl)) (is 2 refl)) (is 4 refl)) (is 6 refl) (good_elsewhere k e)
  where
    is : (n : ℕ) → n ≡ alike n → k ≡ n → k ≡ alike k
    is n told e = rw e told

-- whatever follows the document's sentences meets the promise: of a refused call
pub refused_only : (h : Handed) {r : Selected} {marks : List ℕ} {heights : List ℤ} → Turned h r.refusal → r.refusal ≢ accepted →
    Untouched h r marks heights → Selects h r marks heights
refused_only h {r} t n u =
    let e : r.refusal ≡ refusal h = turned_only h t in
    let no : refusal h ≢ accepted = λ k. n (e ∙ k) in
    let zero : r ≡ refused h = λ i. record { refusal = e i; own = u.own i; dependent = u.dependent i; voids = u.voids i } in
    record {
      answer = zero ∙ sym (answer_refused h no);
      marks = u.marks ∙ sym (marks_refused h no);
      heights = u.heights ∙ sym (heights_refused h no);
    }

-- and of an accepted one
module _ (h : Handed) {r : Selected} {marks : List ℕ} {heights : List ℤ} (ok : refusal h ≡ accepted)
    (s : Selection h.m h.survey (over h.m h.survey h.tolerance) r marks heights) where
  mark_is : (p : Point) → Inside h.m p → mark_at h.m marks p ≡ mark h.m h.survey (is_over h) p
  unfolding mark
  mark_is p k =
      let m = h.m in
      let own : marked_own (mark_at m marks p) ≡ is_over h p =
      same_test _ _ (λ e. (s.own_marks p k).0 (eqb-true _ for_error e), λ e. eq-eqb _ for_error ((s.own_marks p k).1 e)) in
      let keeps : kept_mark (mark_at m marks p) ≡ kept m (is_over h) p =
      same_test _ _ (least_only m (is_over h) _ _ s.least (kept_least m (is_over h)) p k) in
      good_told (is_corner m p) (mark_at m marks p) (s.good p k)
      ∙ (λ i. cond (is_corner m p) for_corner (mark_by (s.void_marks p k i) (own i) (keeps i)))

  marks_by_lem : marks ≡ marks_by h
  unfolding marks_of
  marks_by_lem =
      is_on_grid h.m (mark h.m h.survey (is_over h)) left_out marks s.long
      (λ i l. ap (λ (n : ℕ). get_or marks n left_out) (sym (place_point h.m i)) ∙ mark_is (point h.m i) (point_inside h.m i l))

  answer_by : r.refusal ≡ accepted → r ≡ taken h
  answer_by e =
      λ i.
      record {
        refusal = e i;
        own = (counted_only marked_own _ own_says s.own_count ∙ ap (count marked_own) marks_by_lem) i;
        dependent = (counted_only marked_dependence _ dependence_says s.dependent_count ∙ ap (count marked_dependence) marks_by_lem) i;
        voids = counted_only is_void _ (λ x. (λ e. e, λ e. e)) s.void_count i;
      }

selection_only : (h : Handed) {r : Selected} {marks : List ℕ} {heights : List ℤ} → Turned h r.refusal → r.refusal ≡ accepted →
    Selection h.m h.survey (over h.m h.survey h.tolerance) r marks heights → Selects h r marks heights
selection_only h t e s =
    let ok = sym (turned_only h t) ∙ e in
    record {
      answer = answer_by h ok s e ∙ sym (answer_taken h ok);
      marks = marks_by_lem h ok s ∙ sym (marks_taken h ok);
      heights = fills_only h.m h.survey (accepted_handed h ok).corners _ s.fills ∙ sym (heights_taken h ok);
    }

-- by whichever test: it holds of the same points of the square
module _ (h : Handed) {r : Selected} {marks : List ℕ} {heights : List ℤ} (ok : refusal h ≡ accepted) (b : ByTolerance h r marks heights) where
  written : heights ≡ heights_by h
  written = fills_only h.m h.survey (accepted_handed h ok).corners _ b.selection.fills

  same_over : (p : Point) → Inside h.m p → b.over p ≡ is_over h p
  same_over p k = let e = rw written at (b.exceeds p k) in same_test _ _ (λ o. over_off h ok p (e.0 o), λ o. e.1 (off h ok p o))

  by_over : Selection h.m h.survey (is_over h) r marks heights
  by_over =
      let s = b.selection in
      record {
        long = s.long;
        least = record {
          closed = s.least.closed;
          contains = λ p k o. s.least.contains p k (same_over p k ∙ o);
          least = λ other c o p k i. s.least.least other c (λ q l t. o q l (sym (same_over q l) ∙ t)) p k i;
        };
        good = s.good;
        own_marks = λ p k. (λ e. sym (same_over p k) ∙ (s.own_marks p k).0 e, λ e. (s.own_marks p k).1 (same_over p k ∙ e));
        void_marks = s.void_marks;
        fills = s.fills;
        own_count = s.own_count;
        dependent_count = s.dependent_count;
        void_count = s.void_count;
      }

-- the promise and document 01's sentences mean each other, of any answer and buffers
pub follows : {h : Handed} {r : Selected} {marks : List ℕ} {heights : List ℤ} → Selects h r marks heights ↔ Follows h r marks heights
follows {h} {r} {marks} {heights} = (there, λ f. back f (ℕ_discrete r.refusal accepted))
  where
    there : Selects h r marks heights → Follows h r marks heights
    there s = record { turned = turned_down_lem s; refused = untouched s; selected = by_tolerance s }

    back : Follows h r marks heights → Dec (r.refusal ≡ accepted) → Selects h r marks heights
    back f (yes e) = selection_only h f.turned e (by_over h (sym (turned_only h f.turned) ∙ e) (f.selected e))
    back f (no n) = refused_only h f.turned n (f.refused n)
