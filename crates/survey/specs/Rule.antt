-- Document 01's sentences about filled heights, as one record: what `filled` is proved to mean; and the promise of `fill`. Definitions only.
use Rattle.std.specs.Prelude.{◌≡◌, true, false, List, ℕ, ◌<◌, length, get_or, ℤ}
use Rattle.std.specs.Int.{w16}
use Rattle.std.proofs.Common.{SFits}
use Rattle.grid.specs.Grid.{void, is_void, samples, Inside}
use Rattle.grid.specs.Points.{is_corner, ends}
use Rattle.grid.specs.declared.points.Point.{Point}
use Rattle.survey.specs.Filled.{floor_mean, sample, filled}

-- heights are the filled heights of a survey: one for each sample; a surveyed sample keeps its height; the height of a void
-- is the floor of the mean of its two ends' heights, voids among them. (A grid corner has no ends: where one is
-- void, which selection refuses, this says nothing of its height.)
pub record Fills (m : ℕ) (survey heights : List ℤ) : Type 0 where
  pub long : length heights ≡ samples m
  pub surveyed : (p : Point) → Inside m p → is_void (sample m survey p) ≡ false → sample m heights p ≡ sample m survey p
  pub voids : (p : Point) → Inside m p → is_corner m p ≡ false → is_void (sample m survey p) ≡ true →
      sample m heights p ≡ floor_mean (sample m heights (ends m p).first) (sample m heights (ends m p).second)

-- each sample is a signed number of 16 bits, as those of a lent `&[i16]` are
abbrev pub Sixteen : List ℤ → Type 0
Sixteen survey = (i : ℕ) → i < length survey → SFits w16 (get_or survey i void)

-- the promise of fill: the filled heights; and that each sample of the survey has 16 bits
pub record FilledFrom (m : ℕ) (survey heights : List ℤ) : Type 0 where
  pub is : heights ≡ filled m survey
  pub sixteen : Sixteen survey
