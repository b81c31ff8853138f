-- Values of plain geometry, worked out by hand on Q's five triangles: which way they turn, their areas, which points they contain and enclose, the
-- plane of one of them, and a sum. No definition of cutting, of walking or of weights stands in them: a slip in `Turn`, `Geometry` or `Surface`
-- that the laws share with the definitions is noticed here.
use mathlib.Core.Path.{◌≡◌, refl}
use mathlib.Core.List.{List, [], ◌∷◌, map}
use Prim.Native.Nat.{ℕ}
use native.Mathlib.Omega.{arith}
use lib.IntN.{ℤ, pos, negsuc}
use Rattle.grid.specs.Grid.{at, place, point}
use Rattle.grid.specs.Turn.{onward, backward}
use Rattle.survey.specs.Filled.{sample}
use Rattle.mesh.specs.Triangles.{Three, three}
use Rattle.mesh.specs.Rule.{three_at}
use Rattle.aim.specs.Geometry.{Contains, area, Plane, WeighsIn, Barycentric}
use Rattle.surface.specs.Surface.{Encloses, total}

-- twice the signed area: from the south-west corner by the south-east to the north-east one counter-clockwise, and back; (3, 2) across (2, 6) is 14
pub turns : (onward (at 0 0) (at 1 0) (at 1 1) ≡ 1) × (backward (at 0 0) (at 1 0) (at 1 1) ≡ 0) × (onward (at 1 1) (at 1 0) (at 0 0) ≡ 0)
    × (backward (at 1 1) (at 1 0) (at 0 0) ≡ 1) × (onward (at 2 1) (at 5 3) (at 4 7) ≡ 45) × (backward (at 2 1) (at 5 3) (at 4 7) ≡ 31)
turns = (refl, refl, refl, refl, refl, refl)

-- the list of example 12, read three places in a row
abbrev list : List ℕ
list = 0 ∷ 1 ∷ 4 ∷ 4 ∷ 1 ∷ 2 ∷ 8 ∷ 4 ∷ 2 ∷ 6 ∷ 4 ∷ 8 ∷ 0 ∷ 4 ∷ 6 ∷ []

pub read : map (three_at 1 list) (0 ∷ 1 ∷ 2 ∷ 3 ∷ 4 ∷ [])
    ≡ three (at 0 0) (at 1 0) (at 1 1) ∷ three (at 1 1) (at 1 0) (at 2 0) ∷ three (at 2 2) (at 1 1) (at 2 0) ∷ three (at 0 2) (at 1 1) (at 2 2)
    ∷ three (at 0 0) (at 1 1) (at 0 2) ∷ []
unfolding point
read = refl

-- their doubled areas, which add up to twice the square's, 2 · 2²
pub doubled : map (λ i. area (three_at 1 list i)) (0 ∷ 1 ∷ 2 ∷ 3 ∷ 4 ∷ []) ≡ 1 ∷ 1 ∷ 2 ∷ 2 ∷ 2 ∷ []
unfolding point
doubled = refl

pub summed : total (λ i. area (three_at 1 list i)) 5 ≡ 8
unfolding point
summed = refl

-- the first triangle, in quarter cells: (3, 1) is strictly inside, (2, 0) on its border, (1, 2) and (5, 1) are not in it
abbrev first : Three
first = three (at 0 0) (at 1 0) (at 1 1)

pub inside : Encloses first (at 3 1)
inside = record { first = omega arith; second = omega arith; third = omega arith }

pub border : Contains first (at 2 0) × ¬ (Encloses first (at 2 0))
border = (record { first = omega arith; second = omega arith; third = omega arith }, λ e. omega (arith, e.first))

pub outside : ¬ (Contains first (at 1 2)) × ¬ (Contains first (at 5 1))
outside = (λ c. omega (arith, c.third), λ c. omega (arith, c.second))

-- with heights 0, 10 and 0 at its corners, N being 2: at (3, 1) the height is 40 / 8, and the slopes are 10 and -10 over the doubled area, 1
abbrev grid_q : List ℤ
grid_q = pos 0 ∷ pos 10 ∷ pos 0 ∷ pos 0 ∷ pos 0 ∷ pos 0 ∷ pos 0 ∷ pos 0 ∷ pos 0 ∷ []

pub plane : Plane 1 grid_q first (at 3 1) (pos 40) (pos 10) (negsuc 9)
unfolding sample place
plane = record { first = refl; second = refl; third = refl }

-- (3, 1) weighs 2, 4 and 2 of 8; on the border, at (2, 0), the third corner weighs nothing
pub weights : Barycentric 1 first (at 3 1) 2 4 2
weights = record { sum = refl; east = refl; north = refl; first_turn = refl; second_turn = refl; third_turn = refl }

pub weighs : WeighsIn (λ p. Unit {0}) (at 2 0) (at 0 0) (at 1 0) (at 1 1) × ¬ (WeighsIn (λ p. Unit {0}) (at 2 0) (at 1 1) (at 0 0) (at 1 0))
weighs = (record { weighs = λ e. omega (arith, e); holds = tt }, λ w. w.weighs refl)
