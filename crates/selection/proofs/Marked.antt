-- What a point's mark says: whether it is kept, kept for its own error or only for dependence, and whether its sample was void.
-- Each by the four tests a mark rests on. Being over tolerance meets what is asked of `over`: no void is, and no grid corner.
use Rattle.std.proofs.Common.{◌≡◌, ℕ, Bool, true, false, cond, not, ◌&&◌, ltb, List, ℤ, pos, ◌+ℤ◌, ◌*ℤ◌, nat_abs, sym, refl, ap, ◌∙◌, true≢false, arith, ltb-true, le-ltb}
use lib.IntN.{suc_ℤ-*ℤ, zero-*ℤ, +ℤ_idl, +ℤ_invr}
use Rattle.grid.specs.Grid.{is_void, Inside}
use Rattle.grid.specs.Points.{is_corner, ends}
use Rattle.grid.specs.Mark.{for_corner, good_mark, kept_mark, filled_mark}
use Rattle.grid.specs.declared.points.Point.{Point}
use Rattle.grid.proofs.Parity.{kind_corner}
use Rattle.survey.specs.Filled.{sample, filled, CornersSurveyed}
use Rattle.selection.specs.Error.{doubled_error, error_by, exceeding}
use Rattle.selection.specs.Kept.{kept}
use Rattle.selection.specs.Marks.{mark_by, mark, marked_own, marked_dependence}
use Rattle.grid.specs.Inner.{keeps}
use Rattle.grid.proofs.Keeping.{keeps_good}
use Rattle.selection.proofs.Least.{corner_kept, over_kept}
use Rattle.selection.proofs.Within.{void_within, exceeding_filled}

-- the mark by the four tests: grid corner, void, over tolerance, kept
abbrev mark_from : Bool → Bool → Bool → Bool → ℕ
mark_from corner isvoid over kept = cond corner for_corner (mark_by isvoid over kept)

kept_from_lem : (c v o k : Bool) → (o ≡ true → v ≡ false) → (o ≡ true → k ≡ true) → (c ≡ true → k ≡ true) → kept_mark (mark_from c v o k) ≡ k
kept_from_lem true v o k own held corner = sym (corner refl)
kept_from_lem false true true k own held corner = absurd (true≢false (own refl))
kept_from_lem false false true k own held corner = sym (held refl)
kept_from_lem false true false true own held corner = refl
kept_from_lem false true false false own held corner = refl
kept_from_lem false false false true own held corner = refl
kept_from_lem false false false false own held corner = refl

good_from : (c v o k : Bool) → (o ≡ true → v ≡ false) → good_mark c (mark_from c v o k) ≡ true
good_from true v o k own = refl
good_from false true true k own = absurd (true≢false (own refl))
good_from false false true k own = refl
good_from false true false true own = refl
good_from false true false false own = refl
good_from false false false true own = refl
good_from false false false false own = refl

own_from : (c v o k : Bool) → (o ≡ true → v ≡ false) → (c ≡ true → o ≡ false) → marked_own (mark_from c v o k) ≡ o
own_from true v o k own corner = sym (corner refl)
own_from false true true k own corner = absurd (true≢false (own refl))
own_from false false true k own corner = refl
own_from false true false true own corner = refl
own_from false true false false own corner = refl
own_from false false false true own corner = refl
own_from false false false false own corner = refl

dependent_from : (c v o k : Bool) → marked_dependence (mark_from c v o k) ≡ (not c && (not o && k))
dependent_from true v o k = refl
dependent_from false true true k = refl
dependent_from false false true k = refl
dependent_from false true false true = refl
dependent_from false true false false = refl
dependent_from false false false true = refl
dependent_from false false false false = refl

void_from : (c v o k : Bool) → (c ≡ true → v ≡ false) → filled_mark (mark_from c v o k) ≡ v
void_from true v o k corner = sym (corner refl)
void_from false true true k corner = refl
void_from false false true k corner = refl
void_from false true false true corner = refl
void_from false true false false corner = refl
void_from false false false true corner = refl
void_from false false false false corner = refl

-- no void is over tolerance
abbrev pub OwnSurveyed : ℕ → List ℤ → (Point → Bool) → Type 0
OwnSurveyed m survey over = (p : Point) → over p ≡ true → is_void (sample m survey p) ≡ false

-- no grid corner is over tolerance
abbrev pub CornersWithin : ℕ → (Point → Bool) → Type 0
CornersWithin m over = (p : Point) → is_corner m p ≡ true → over p ≡ false

module _ (m : ℕ) (survey : List ℤ) (over : Point → Bool) where
  -- a mark of 1, 2, 3 or 6: kept
  pub kept_mark_lem : OwnSurveyed m survey over → (p : Point) → Inside m p → kept_mark (mark m survey over p) ≡ kept m over p
  unfolding mark
  kept_mark_lem own p h =
      kept_from_lem (is_corner m p) (is_void (sample m survey p)) (over p) (kept m over p) (own p) (over_kept m over p h) (corner_kept m over p)

  -- every mark is good
  pub good_mark_lem : OwnSurveyed m survey over → (p : Point) → good_mark (is_corner m p) (mark m survey over p) ≡ true
  unfolding mark
  good_mark_lem own p = good_from (is_corner m p) (is_void (sample m survey p)) (over p) (kept m over p) (own p)

  pub keeps_mark : OwnSurveyed m survey over → (p : Point) → keeps (mark m survey over p) ≡ kept_mark (mark m survey over p)
  keeps_mark own p = keeps_good (is_corner m p) (mark m survey over p) (good_mark_lem own p)

  -- a mark of 1: over tolerance
  pub mark_own : OwnSurveyed m survey over → CornersWithin m over → (p : Point) → marked_own (mark m survey over p) ≡ over p
  unfolding mark
  mark_own own corner p = own_from (is_corner m p) (is_void (sample m survey p)) (over p) (kept m over p) (own p) (corner p)

  -- a mark of 2 or 6: no grid corner, not over tolerance, and kept
  pub mark_dependent : (p : Point) → marked_dependence (mark m survey over p) ≡ (not (is_corner m p) && (not (over p) && kept m over p))
  unfolding mark
  mark_dependent p = dependent_from (is_corner m p) (is_void (sample m survey p)) (over p) (kept m over p)

  -- a mark of 4 or more: void
  pub void_mark : CornersSurveyed m survey → (p : Point) → filled_mark (mark m survey over p) ≡ is_void (sample m survey p)
  unfolding mark
  void_mark surveyed p = void_from (is_corner m p) (is_void (sample m survey p)) (over p) (kept m over p) (surveyed p)

-- a height that is its own two ends has no error
no_error : (h : ℤ) → doubled_error h h h ≡ 0
no_error h =
    let once : pos 1 *ℤ h ≡ h = suc_ℤ-*ℤ (pos 0) h ∙ ap (λ (k : ℤ). k +ℤ h) (zero-*ℤ h) ∙ +ℤ_idl h in
    let twice : pos 2 *ℤ h ≡ h +ℤ h = suc_ℤ-*ℤ (pos 1) h ∙ ap (λ (k : ℤ). k +ℤ h) once in
    rw twice (ap nat_abs (+ℤ_invr (h +ℤ h)))

module _ (m : ℕ) (survey : List ℤ) (limit : ℕ) where
  pub own_surveyed : OwnSurveyed m survey (exceeding m survey limit)
  unfolding exceeding error_by
  own_surveyed p e = go (is_void (sample m survey p)) _ e
    where
      go : (t : Bool) (n : ℕ) → ltb limit (cond t 0 n) ≡ true → t ≡ false
      go true n e = absurd (omega (arith, ltb-true limit 0 e))
      go false n e = refl

  pub corners_within : CornersWithin m (exceeding m survey limit)
  unfolding ends
  corners_within p e = go (is_void (sample m survey p)) refl
    where
      none : ltb limit (doubled_error (sample m (filled m survey) p) (sample m (filled m survey) (ends m p).first) (sample m (filled m survey) (ends m p).second)) ≡ false
      none = rw (kind_corner m p e, no_error (sample m (filled m survey) p)) (le-ltb limit 0 (omega arith))

      go : (t : Bool) → is_void (sample m survey p) ≡ t → exceeding m survey limit p ≡ false
      go true v = void_within m survey limit p v
      go false n = sym (exceeding_filled m survey limit p refl n) ∙ none
