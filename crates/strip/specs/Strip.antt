-- One strip for the whole ring of triangles. Document 02, K1. Definitions only.
use Rattle.std.specs.Prelude.{Bool, cond, not, ◌||◌, List, [], ◌∷◌, ℕ, eqb}
use Rattle.grid.specs.Grid.{place}
use Rattle.mesh.specs.Triangles.{Three}

-- a triangle by the places of its corners, in their order
pub record Corners : Type 0 where
  pub first : ℕ
  pub second : ℕ
  pub third : ℕ

abbrev pub corners : ℕ → ℕ → ℕ → Corners
corners p q w = record { first = p; second = q; third = w }

-- the triangles of a plain list, by their places
abbrev pub placed : ℕ → List Three → List Corners
placed m [] = []
placed m (t ∷ ts) = corners (place m t.first) (place m t.second) (place m t.third) ∷ placed m ts

-- whether a place is a corner of a triangle
abbrev pub has : Corners → ℕ → Bool
has t p = eqb p t.first || eqb p t.second || eqb p t.third

-- of a triangle with two places among its corners, the third corner
abbrev pub other_than : ℕ → ℕ → Corners → ℕ
other_than p q t =
    cond (not (eqb t.first p || eqb t.first q)) t.first
    (cond (not (eqb t.second p || eqb t.second q)) t.second t.third)

-- The same triangle, turning the same way, begun at the corner that the next one does not have: so its way out, the side that it shares with
-- the next, is its last two places.
abbrev pub begun : Corners → Corners → Corners
begun t next =
    cond (not (has next t.first)) t
    (cond (not (has next t.second)) (corners t.second t.third t.first) (corners t.third t.first t.second))

-- How the strip goes on from a running pair, an older place and a newer one: the side by which it comes into the next triangle. The new place is
-- that triangle's third corner. Where the newer place is not on its way out, the side that it shares with the triangle after it, a turn is
-- needed: the older place is repeated before the new one, and nowhere else. The last triangle needs no turn.
unfoldable pub going_on : ℕ → ℕ → List Corners → List ℕ
going_on older newer [] = []
going_on older newer (t ∷ []) = other_than older newer t ∷ []
going_on older newer (t ∷ next ∷ ts) =
    let new = other_than older newer t in
    cond (has next newer) (new ∷ going_on newer new (next ∷ ts)) (older ∷ new ∷ going_on older new (next ∷ ts))

-- the strip of a list of triangles, of which a mesh has at least two: the first, begun so that its way out is its last two places, and on from there
unfoldable pub strip_of : List Corners → List ℕ
strip_of [] = []
strip_of (t ∷ []) = t.first ∷ t.second ∷ t.third ∷ []
strip_of (t ∷ next ∷ ts) =
    let b = begun t next in b.first ∷ b.second ∷ b.third ∷ going_on b.second b.third (next ∷ ts)
