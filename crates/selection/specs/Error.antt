-- The error of a point, and when it is over tolerance. Document 01, "Points, ends and dependencies". Definitions only.
use Rattle.std.specs.Prelude.{ℕ, ◌*◌, Bool, cond, List, ℤ, pos, ◌+ℤ◌, ◌-ℤ◌, ◌*ℤ◌, nat_lt, unsigned_abs}
use Rattle.grid.specs.Grid.{is_void}
use Rattle.grid.specs.Points.{ends}
use Rattle.grid.specs.declared.points.Point.{Point}
use Rattle.survey.specs.Filled.{sample, filled}

-- |2h - (sum of the ends' heights)|
abbrev pub doubled_error : ℤ → ℤ → ℤ → ℕ
doubled_error h a b = unsigned_abs ((pos 2 *ℤ h) -ℤ (a +ℤ b))

-- a point's own doubled error by a list of heights, and 0 for a void. (A grid corner has no ends: `ends` gives the corner itself
-- twice, so its error is 0.)
unfoldable pub error_by : ℕ → List ℤ → List ℤ → Point → ℕ
error_by m survey heights p =
    cond (is_void (sample m survey p)) 0
    (doubled_error (sample m heights p) (sample m heights (ends m p).first) (sample m heights (ends m p).second))

-- by the filled heights
abbrev pub own_doubled_error : ℕ → List ℤ → Point → ℕ
own_doubled_error m survey = error_by m survey (filled m survey)

-- it exceeds a limit
unfoldable pub exceeding : ℕ → List ℤ → ℕ → Point → Bool
exceeding m survey limit p = nat_lt limit (own_doubled_error m survey p)

-- a point is over tolerance t when its own doubled error exceeds 2t
abbrev pub over : ℕ → List ℤ → ℕ → Point → Bool
over m survey t = exceeding m survey (2 * t)
