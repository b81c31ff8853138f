-- The filled heights: every sample's height, found from its ends' heights where it is void. Document 01, "Points, ends and
-- dependencies". Definitions only.
use Rattle.std.specs.Prelude.{◌≡◌, true, false, cond, List, ℕ, zero, suc, ◌/◌, get_or, ℤ, pos, negsuc, ◌+ℤ◌}
use Rattle.grid.specs.Grid.{void, is_void, place, on_grid}
use Rattle.grid.specs.Points.{is_corner, ends}
use Rattle.grid.specs.declared.points.Point.{Point}

-- half a whole number, the floor, downward (`negsuc n` is -(n + 1))
abbrev pub floor_half : ℤ → ℤ
floor_half (pos n) = pos (n / 2)
floor_half (negsuc n) = negsuc (n / 2)

-- the floor of the mean of two heights: -3 and -4 give -4
abbrev pub floor_mean : ℤ → ℤ → ℤ
floor_mean a b = floor_half (a +ℤ b)

-- the sample of a point (void beyond the list)
unfoldable pub sample : ℕ → List ℤ → Point → ℤ
sample m survey p = get_or survey (place m p) void

-- the height of a point, by way of at most d ends in a row: its sample if surveyed; of a void the floor of the mean of its
-- two ends' heights, voids among them; with no step left, its sample as it stands
unfoldable pub height_by : ℕ → ℕ → List ℤ → Point → ℤ
height_by zero m survey p = sample m survey p
height_by (suc d) m survey p =
    cond (is_void (sample m survey p))
    (floor_mean (height_by d m survey (ends m p).first) (height_by d m survey (ends m p).second))
    (sample m survey p)

-- the height of a point: a step to an end at least doubles the spacing, so within m steps a grid corner is reached
unfoldable pub height_of : ℕ → List ℤ → Point → ℤ
height_of m survey p = height_by m m survey p

-- the filled heights of a survey
unfoldable pub filled : ℕ → List ℤ → List ℤ
filled m survey = on_grid m (height_of m survey)

-- no grid corner is void
abbrev pub CornersSurveyed : ℕ → List ℤ → Type 0
CornersSurveyed m survey = (p : Point) → is_corner m p ≡ true → is_void (sample m survey p) ≡ false
