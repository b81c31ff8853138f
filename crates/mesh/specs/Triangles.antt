-- The triangles that cutting leaves, for any set of kept points, in the order in which they are written; and how many a closed set has.
-- Document 01, "Triangles"; its sentences are in `Rule`. Definitions only.
use Rattle.std.specs.Prelude.{Bool, cond, not, ◌&&◌, ◌||◌, List, [], ◌∷◌, ◌++◌, ℕ, zero, suc, ◌+◌, ◌*◌}
use Rattle.grid.specs.Grid.{side, at, place, on_grid, midpoint}
use Rattle.grid.specs.Points.{odd, outermost, is_corner}
use Rattle.grid.specs.declared.points.Point.{Point}
use Rattle.selection.specs.Marks.{count}

-- a triangle as it is written: its three corners, in their order
pub record Three : Type 0 where
  pub first : Point
  pub second : Point
  pub third : Point

abbrev pub three : Point → Point → Point → Three
three p q w = record { first = p; second = q; third = w }

-- (l, a, r) is written l, a, r after an even number of cuts; r, a, l after an odd number
abbrev pub written : ℕ → Point → Point → Point → Three
written cuts l a r = cond (odd cuts) (three r a l) (three l a r)

-- The uncut triangles, each as it is written, that (l, a, r) leads to by at most k more cuts in a row, after so many that made it: a
-- triangle whose l-r midpoint is a kept sample is cut there, at c, into (l, c, a), then (a, c, r). (In `mesh` the midpoint is a sample
-- where k is above 0, and none where k is 0.)
unfoldable pub uncut : (Point → Bool) → ℕ → ℕ → Point → Point → Point → List Three
uncut kept zero cuts l a r = written cuts l a r ∷ []
uncut kept (suc k) cuts l a r =
    cond (kept (midpoint l r))
    (uncut kept k (suc cuts) l (midpoint l r) a ++ uncut kept k (suc cuts) a (midpoint l r) r)
    (written cuts l a r ∷ [])

-- The square starts as ((0,0),(N,0),(N,N)), then ((N,N),(0,N),(0,0)). No triangle is made by more than 2m cuts.
unfoldable pub mesh : ℕ → (Point → Bool) → List Three
mesh m kept =
    uncut kept (2 * m) 0 (at 0 0) (at (side m) 0) (at (side m) (side m))
    ++ uncut kept (2 * m) 0 (at (side m) (side m)) (at 0 (side m)) (at 0 0)

-- the entries for a list of triangles: three sample places each
abbrev pub places_of : ℕ → List Three → List ℕ
places_of m [] = []
places_of m (t ∷ ts) = place m t.first ∷ place m t.second ∷ place m t.third ∷ places_of m ts

-- the grid's points, in the order of their places
abbrev pub points : ℕ → List Point
points m = on_grid m (λ p. p)

-- in an outermost column or row
abbrev pub on_border : ℕ → Point → Bool
on_border m p = outermost m p.x || outermost m p.y

-- a kept point inside, not on the border; a kept border point that is no grid corner
abbrev pub kept_inside : ℕ → (Point → Bool) → Point → Bool
kept_inside m kept p = kept p && not (on_border m p)

abbrev pub kept_border : ℕ → (Point → Bool) → Point → Bool
kept_border m kept p = kept p && (on_border m p && not (is_corner m p))

-- the number of triangles of a closed set: 2, plus 2 for each kept point inside, plus 1 for each kept border point that is no grid corner
unfoldable pub number : ℕ → (Point → Bool) → ℕ
number m kept = 2 + 2 * count (kept_inside m kept) (points m) + count (kept_border m kept) (points m)
