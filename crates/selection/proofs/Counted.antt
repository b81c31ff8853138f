-- The marks of 4 or more are as many as the voids of the survey.
-- A survey as long as the samples are many has one entry for each sample, as the marks have, and they agree at each.
use Rattle.std.proofs.Common.{◌≡◌, ℕ, zero, suc, ◌+◌, Bool, cond, List, length, ℤ, sym, refl, ap, ◌∙◌}
use Rattle.grid.specs.Grid.{void, is_void, samples, point, entries, on_grid}
use Rattle.grid.specs.Mark.{filled_mark}
use Rattle.grid.specs.declared.points.Point.{Point}
use Rattle.grid.proofs.OnGrid.{length_on_grid, is_on_grid}
use Rattle.survey.specs.Filled.{sample, CornersSurveyed}
use Rattle.survey.proofs.Reading.{sample_place}
use Rattle.selection.specs.Error.{over}
use Rattle.selection.specs.Marks.{mark, marks_of, count}
use Rattle.selection.proofs.Marked.{void_mark}

module _ {A B : Type 0} (f : A → Bool) (g : B → Bool) where
  count_entries : (a : ℕ → A) (b : ℕ → B) (i n : ℕ) → ((k : ℕ) → f (a k) ≡ g (b k)) → count f (entries a i n) ≡ count g (entries b i n)
  count_entries a b i zero same = refl
  count_entries a b i (suc n) same = λ j. cond (same i j) 1 0 + count_entries a b (suc i) n same j

  -- tests that agree at every point count alike
  count_on_grid : (m : ℕ) (a : Point → A) (b : Point → B) → ((p : Point) → f (a p) ≡ g (b p)) → count f (on_grid m a) ≡ count g (on_grid m b)
  unfolding on_grid
  count_on_grid m a b same = count_entries (λ i. a (point m i)) (λ i. b (point m i)) 0 (samples m) (λ i. same (point m i))

-- there are as many marks as samples
pub marks_long_lem : (m : ℕ) (survey : List ℤ) (over : Point → Bool) → length (marks_of m survey over) ≡ samples m
unfolding marks_of
marks_long_lem m survey over = length_on_grid m (mark m survey over)

module _ (m : ℕ) (survey : List ℤ) (long : length survey ≡ samples m) where
  -- a survey has one sample for each point
  survey_on_grid : survey ≡ on_grid m (sample m survey)
  survey_on_grid = is_on_grid m (sample m survey) void survey long (λ i _. sym (sample_place m survey i))

  pub count_voids : (over : Point → Bool) → CornersSurveyed m survey → count filled_mark (marks_of m survey over) ≡ count is_void survey
  unfolding marks_of
  count_voids over surveyed =
      count_on_grid filled_mark is_void m (mark m survey over) (sample m survey) (void_mark m survey over surveyed)
      ∙ ap (count is_void) (sym survey_on_grid)
