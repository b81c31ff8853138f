-- When a point's own error exceeds a limit: a void's never does, and a surveyed point's is read from the filled heights.
use Rattle.std.proofs.Common.{◌≡◌, ℕ, true, false, ltb, List, ℤ, arith, le-ltb}
use Rattle.grid.specs.Grid.{is_void}
use Rattle.grid.specs.Points.{ends}
use Rattle.grid.specs.declared.points.Point.{Point}
use Rattle.survey.specs.Filled.{sample, filled}
use Rattle.selection.specs.Error.{doubled_error, error_by, exceeding}

module _ (m : ℕ) (survey : List ℤ) (limit : ℕ) (p : Point) where
  pub void_within : is_void (sample m survey p) ≡ true → exceeding m survey limit p ≡ false
  unfolding exceeding error_by
  void_within v = rw v (le-ltb limit 0 (omega arith))

  pub exceeding_filled : {heights : List ℤ} → heights ≡ filled m survey → is_void (sample m survey p) ≡ false →
      ltb limit (doubled_error (sample m heights p) (sample m heights (ends m p).first) (sample m heights (ends m p).second))
      ≡ exceeding m survey limit p
  unfolding exceeding error_by
  exceeding_filled e n = rw (e, n)
