-- The mark of a point that is no grid corner rests on whether its dependents' marks keep them: where those are final, so is this.
use Rattle.std.proofs.Common.{◌≡◌, ℕ, Bool, true, false, ◌||◌, List, ℤ, sym, refl, ap, ◌∙◌}
use mathlib.Core.List.{Memᴰ}
use Rattle.grid.specs.Grid.{is_void, Inside}
use Rattle.grid.specs.Points.{is_corner, dependents}
use Rattle.grid.specs.declared.points.Point.{Point}
use Rattle.survey.specs.Filled.{sample}
use Rattle.selection.specs.Error.{exceeding}
use Rattle.selection.specs.Kept.{some, kept}
use Rattle.selection.specs.Marks.{mark_by, mark}
use Rattle.grid.specs.Inner.{keeps}
use Rattle.selection.specs.Inner.{kept_at, Final, mark_over}
use Rattle.selection.proofs.Some.{some_cong}
use Rattle.selection.proofs.Chain.{dependent_below, kept_step}
use Rattle.selection.proofs.Marked.{own_surveyed, kept_mark_lem, keeps_mark}

module _ {m : ℕ} (survey : List ℤ) (limit : ℕ) (p : Point) (h : Inside m p) (inner : is_corner m p ≡ false) {marks : List ℕ}
    (final : Final m (mark_over m survey limit) (λ q. Memᴰ q (dependents m p)) marks) where
  kept_by_lem : kept m (exceeding m survey limit) p ≡ (exceeding m survey limit p || some (kept_at m marks) (dependents m p))
  kept_by_lem =
      let over = exceeding m survey limit in
      let own = own_surveyed m survey limit in
      kept_step m over p h inner
      ∙ ap (λ (t : Bool). over p || t)
      (some_cong (kept m over) (kept_at m marks) (dependents m p)
      (λ q i.
      let b = dependent_below m p q h inner i in
      sym (ap keeps (final.right q b.0 i) ∙ keeps_mark m survey over own q ∙ kept_mark_lem m survey over own q b.0)))

  pub judged : {t : Bool} → t ≡ some (kept_at m marks) (dependents m p) →
      mark_by (is_void (sample m survey p)) (exceeding m survey limit p) t ≡ mark_over m survey limit p
  unfolding mark
  judged {t} e = rw (inner, kept_by_lem, ← e) (by (exceeding m survey limit p))
    where
      by : (o : Bool) → mark_by (is_void (sample m survey p)) o t ≡ mark_by (is_void (sample m survey p)) o (o || t)
      by true = refl
      by false = refl
