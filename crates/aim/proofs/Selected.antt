-- With the marks and heights that an accepted selection wrote no point of the square is turned down: the marks are good, and no filled
-- height is void. By document 01's sentences about selection, which any selection meets.
use mathlib.Core.Path.{◌≡◌, sym, ap, ◌∙◌}
use mathlib.Core.Bool.{true, false, true≢false}
use mathlib.Core.List.{List}
use mathlib.Core.Logic.{⊎_elim, ◌↔◌}
use Prim.Native.Nat.{ℕ, ◌≤◌}
use lib.IntN.{ℤ}
use Rattle.grid.specs.Grid.{in_quarters, is_void, Inside}
use Rattle.grid.specs.Refusal.{accepted}
use Rattle.grid.specs.declared.points.Point.{Point}
use Rattle.grid.proofs.Cutting.{corners_inside}
use Rattle.grid.proofs.Spaced.{corner_inside}
use Rattle.survey.specs.Filled.{sample}
use Rattle.survey.specs.Rule.{Sixteen}
use Rattle.survey.proofs.Rule.{fills_only, filled_not_void}
use Rattle.selection.specs.Selected.{Handed as SelectionHanded, Selects}
use Rattle.selection.specs.declared.Selected.{Selected}
use Rattle.selection.proofs.Accepted.{accepted_handed, turned_only as selected_only}
use Rattle.selection.proofs.Rule.{turned_down_lem, selection}
use Rattle.mesh.specs.Triangles.{Three}
use Rattle.aim.specs.Aimed.{Handed, handed, refusal, Said, said, height_at, plane_at}
use Rattle.aim.specs.Geometry.{SomeCorner}
use Rattle.aim.specs.Rule.{Within, Good, VoidAt, queried, FilledCorner, nothing}
use Rattle.aim.specs.declared.HeightAnswer.{HeightAnswer}
use Rattle.aim.specs.declared.PlaneAnswer.{PlaneAnswer}
use Rattle.aim.proofs.Accepted.{turned_only, end}
use Rattle.aim.proofs.Grounds.{weighs, with_corners}
use Rattle.aim.proofs.Answered.{height_number, plane_number}

module _ {s : SelectionHanded} {a : Selected} {marks : List ℕ} {heights : List ℤ} (small : Sixteen s.survey)
    (k : Selects s a marks heights) (ok : a.refusal ≡ accepted) where
  -- no height written is void
  written : (p : Point) → Inside s.m p → is_void (sample s.m heights p) ≡ false
  written p h =
      let t = accepted_handed s (sym (selected_only s (turned_down_lem k)) ∙ ok) in
      let is = fills_only s.m s.survey t.corners heights (selection k ok).fills in
      rw is (filled_not_void s.m s.survey t.corners t.lengths.survey small p h)

  module _ (x y : ℕ) (east : x ≤ in_quarters s.m) (north : y ≤ in_quarters s.m) where
    abbrev asked : Handed
    asked = handed marks heights s.m x y

    within : Within asked
    within = record { east = east; north = north }

    good : Good asked
    good =
        let all = (selection k ok).good in
        record { corners = λ p c. all p (corner_inside s.m p c); midpoints = λ c m. all c m.sample }

    pub selected : refusal asked ≡ accepted
    selected =
        let t = accepted_handed s (sym (selected_only s (turned_down_lem k)) ∙ ok) in
        let inside = corners_inside (weighs asked within).triangle in
        sym
        (turned_only asked
        (nothing t.small (record { marks = (selection k ok).long; heights = (selection k ok).fills.long }) within good (end asked within).ends
        (λ v. ⊎_elim (never inside.left) (λ v. ⊎_elim (never inside.top) (never inside.right) v) v)))
      where
        never : {p : Point} → Inside s.m p → ¬ (VoidAt asked p)
        never {p} i v = true≢false (sym v ∙ written p i)

    -- so neither call gives a refusal
    pub height_selected : (r : HeightAnswer) → said r ≡ height_at asked → (said r).refusal ≡ accepted
    height_selected r e = ap (λ (t : Said). t.refusal) e ∙ height_number asked ∙ selected

    pub plane_selected : (r : PlaneAnswer) → r ≡ plane_at asked → r.refusal ≡ accepted
    plane_selected r e = ap (λ (t : PlaneAnswer). t.refusal) e ∙ plane_number asked ∙ selected

    -- and a triangle's corners make an answer filled just where one that weighs in it was void in the survey
    pub filled_void : (t : Three) → Inside s.m t.first → Inside s.m t.second → Inside s.m t.third →
        FilledCorner asked t ↔ SomeCorner (λ p. is_void (sample s.m s.survey p) ≡ true) t (queried asked)
    filled_void t i j l =
        let same = (selection k ok).void_marks in (
          λ f. with_corners (λ e. sym (same t.first i) ∙ e) (λ e. sym (same t.second j) ∙ e) (λ e. sym (same t.third l) ∙ e) f,
          λ v. with_corners (λ e. same t.first i ∙ e) (λ e. same t.second j ∙ e) (λ e. same t.third l ∙ e) v,
        )
