-- Values of document 01, computed from the definitions: means rounded downward, and the filled heights of grid V.
use mathlib.Core.Path.{◌≡◌, refl}
use mathlib.Core.List.{List, [], ◌∷◌}
use lib.IntN.{ℤ, pos, negsuc}
use Rattle.grid.specs.Grid.{void, place, point, on_grid}
use Rattle.grid.specs.Points.{level, spacing, units, is_corner, kind, ends}
use Rattle.survey.specs.Filled.{floor_mean, sample, height_by, height_of, filled}

-- -3 and -4 give -4
pub downward : floor_mean (negsuc 2) (negsuc 3) ≡ negsuc 3
downward = refl

pub upward_not : floor_mean (pos 3) (pos 4) ≡ pos 3
upward_not = refl

pub across_zero : floor_mean (negsuc 0) (pos 0) ≡ negsuc 0
across_zero = refl

-- V: corners (0,0) -3 and (2,2) -4, middle void, the rest 0
abbrev v : ℤ → List ℤ
v middle = negsuc 2 ∷ pos 0 ∷ pos 0 ∷ pos 0 ∷ middle ∷ pos 0 ∷ pos 0 ∷ pos 0 ∷ negsuc 3 ∷ []

pub filled_v : filled 1 (v void) ≡ v (negsuc 3)
unfolding filled height_of height_by sample on_grid place point ends kind units spacing level is_corner
filled_v = refl
