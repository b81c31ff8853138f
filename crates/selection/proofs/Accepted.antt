-- Each refusal number is given exactly in its own case, and none where nothing is turned down: what an accepted call was handed.
-- The four tests are asked in the order of the cases, so each case is what its test says where those before it say no.
use Rattle.std.proofs.Common.{◌≡◌, ℕ, ◌≤◌, Bool, true, false, cond, not, ◌&&◌, eqb, ltb, length, sym, refl, ◌∙◌, true≢false, arith, ltb-false, ltb-true, le-ltb, lt-ltb, eq-eqb, eqb-true}
use mathlib.Core.Bool.{and-eq-true_iff}
use Rattle.grid.specs.Grid.{largest, samples}
use Rattle.grid.specs.Refusal.{accepted, size_above, wrong_length, void_corner, tolerance_above}
use Rattle.grid.proofs.Sums.{false_by}
use Rattle.survey.specs.Filled.{CornersSurveyed}
use Rattle.selection.specs.Selected.{highest_tolerance, Handed, corner_void, right_lengths, refusal}
use Rattle.selection.specs.Rule.{Lengths, Turned, size, lengths, tolerance, corner, nothing}
use Rattle.selection.proofs.Corners.{corners_surveyed, corners_void}

module _ (h : Handed) where
  pub lengths_right : right_lengths h ≡ true → Lengths h
  lengths_right e =
      let n = samples h.m in
      let others = eqb (length h.marks) n && eqb (length h.heights) n in
      let r = (and-eq-true_iff (eqb (length h.survey) n) others).0 e in
      let q = (and-eq-true_iff (eqb (length h.marks) n) (eqb (length h.heights) n)).0 r.1 in
      record {
        survey = eqb-true (length h.survey) n r.0;
        marks = eqb-true (length h.marks) n q.0;
        heights = eqb-true (length h.heights) n q.1;
      }

  pub right_lengths_lem : Lengths h → right_lengths h ≡ true
  right_lengths_lem l =
      let n = samples h.m in
      rw (eq-eqb (length h.survey) n l.survey, eq-eqb (length h.marks) n l.marks, eq-eqb (length h.heights) n l.heights)

  -- the number that is given has its case
  pub turned : Turned h (refusal h)
  unfolding refusal
  turned =
      go (ltb largest h.m) refl (right_lengths h) refl (ltb highest_tolerance h.tolerance) refl (corner_void h.m h.survey) refl
    where
      go : (a : Bool) → ltb largest h.m ≡ a → (b : Bool) → right_lengths h ≡ b → (c : Bool) → ltb highest_tolerance h.tolerance ≡ c →
          (d : Bool) → corner_void h.m h.survey ≡ d →
          Turned h (cond a size_above (cond (not b) wrong_length (cond c tolerance_above (cond d void_corner accepted))))
      go true a b eb c ec d ed = size (ltb-true largest h.m a)
      go false a false eb c ec d ed = lengths (ltb-false largest h.m a) (λ l. true≢false (sym (right_lengths_lem l) ∙ eb))
      go false a true eb true ec d ed =
          tolerance (ltb-false largest h.m a) (lengths_right eb) (ltb-true highest_tolerance h.tolerance ec)
      go false a true eb false ec true ed =
          corner (ltb-false largest h.m a) (lengths_right eb) (ltb-false highest_tolerance h.tolerance ec) (corners_void h.m h.survey ed)
      go false a true eb false ec false ed =
          nothing (ltb-false largest h.m a) (lengths_right eb) (ltb-false highest_tolerance h.tolerance ec) (corners_surveyed h.m h.survey ed)

  -- and a number that has its case is the one given
  pub turned_only : {n : ℕ} → Turned h n → n ≡ refusal h
  unfolding refusal
  turned_only (size l) = rw (lt-ltb largest h.m l)
  turned_only (lengths s n) = rw (le-ltb largest h.m s, false_by (right_lengths h) (λ e. n (lengths_right e)))
  turned_only (tolerance s l t) = rw (le-ltb largest h.m s, right_lengths_lem l, lt-ltb highest_tolerance h.tolerance t)
  turned_only (corner s l t v) =
      rw (le-ltb largest h.m s, right_lengths_lem l, le-ltb highest_tolerance h.tolerance t)
      (by (corner_void h.m h.survey) refl)
    where
      by : (d : Bool) → corner_void h.m h.survey ≡ d → void_corner ≡ cond d void_corner accepted
      by true e = refl
      by false e = absurd (v (corners_surveyed h.m h.survey e))
  turned_only (nothing s l t c) =
      rw (le-ltb largest h.m s, right_lengths_lem l, le-ltb highest_tolerance h.tolerance t)
      (by (corner_void h.m h.survey) refl)
    where
      by : (d : Bool) → corner_void h.m h.survey ≡ d → accepted ≡ cond d void_corner accepted
      by true e = absurd (corners_void h.m h.survey e c)
      by false e = refl

pub record Accepted (h : Handed) : Type 0 where
  pub small : h.m ≤ largest
  pub lengths : Lengths h
  pub tolerance : h.tolerance ≤ highest_tolerance
  pub corners : CornersSurveyed h.m h.survey

pub accepted_handed : (h : Handed) → refusal h ≡ accepted → Accepted h
accepted_handed h e = by (turned h) e
  where
    by : {n : ℕ} → Turned h n → n ≡ accepted → Accepted h
    by (size l) e = absurd (omega arith)
    by (lengths s n) e = absurd (omega arith)
    by (tolerance s l t) e = absurd (omega arith)
    by (corner s l t v) e = absurd (omega arith)
    by (nothing s l t c) e = record { small = s; lengths = l; tolerance = t; corners = c }
