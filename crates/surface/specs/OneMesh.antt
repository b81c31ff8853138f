-- One mesh: what demand 3 says of heights and origins, over any m and any kept set that is `Restricted`, of the triangles that cutting leaves. It is
-- said of any heights, of any property of a corner, and of any number f at each sample. Definitions only.
use Rattle.std.specs.Prelude.{◌≡◌, Bool, true, ◌↔◌, ℕ, suc, ◌+◌, ◌*◌, ℤ}
use mathlib.Core.List.{List, Memᴰ}
use Rattle.grid.specs.Grid.{midpoint}
use Rattle.grid.specs.Hierarchy.{Triangle}
use Rattle.grid.specs.declared.points.Point.{Point}
use Rattle.mesh.specs.Triangles.{Three, mesh}
use Rattle.aim.specs.Geometry.{OfSquare, Contains, Plane, SomeCorner, Barycentric}

-- No leg's midpoint is kept without the cut: where the midpoint of a side at the apex is kept, so is that of the longest side. A closed set is so
-- (`restricted`). (With two cuts left or more the legs' midpoints are samples.)
pub record Restricted (m : ℕ) (kept : Point → Bool) : Type 0 where
  pub left : {k : ℕ} {l a r : Point} → Triangle m (suc (suc k)) l a r → kept (midpoint l a) ≡ true → kept (midpoint l r) ≡ true
  pub right : {k : ℕ} {l a r : Point} → Triangle m (suc (suc k)) l a r → kept (midpoint a r) ≡ true → kept (midpoint l r) ≡ true

-- a triangle of the mesh that contains a point, borders counted
pub record Holding (m : ℕ) (kept : Point → Bool) (q : Point) (t : Three) : Type 0 where
  pub written : Memᴰ t (mesh m kept)
  pub contains : Contains t q

-- a point's whole weights at the corners of a triangle
pub record Weights (m : ℕ) (t : Three) (q : Point) : Type 0 where
  pub first : ℕ
  pub second : ℕ
  pub third : ℕ
  pub are : Barycentric m t q first second third

-- what f comes to in a triangle, by weights at its corners
abbrev pub weighed : (Point → ℕ) → {m : ℕ} {t : Three} {q : Point} → Weights m t q → ℕ
weighed f {t = t} w = w.first * f t.first + w.second * f t.second + w.third * f t.third

-- Every point of the square has whole weights in each triangle that holds it, and any two such triangles agree at it: in what any f comes to, in
-- the height of the planes through their corners, and in whether something holds of a corner that weighs in.
pub record Continuous (m : ℕ) (kept : Point → Bool) : Type 1 where
  pub weights : (q : Point) → OfSquare m q → (t : Three) → Holding m kept q t → Weights m t q
  pub same : (q : Point) → OfSquare m q → (t s : Three) → Holding m kept q t → Holding m kept q s → (w : Weights m t q) (v : Weights m s q) →
      (f : Point → ℕ) → weighed f w ≡ weighed f v
  pub level : (q : Point) → OfSquare m q → (t s : Three) → Holding m kept q t → Holding m kept q s → (heights : List ℤ) {z e n z' e' n' : ℤ} →
      Plane m heights t q z e n → Plane m heights s q z' e' n' → z ≡ z'
  pub origin : (q : Point) → OfSquare m q → (t s : Three) → Holding m kept q t → Holding m kept q s → (Holds : Point → Type 0) →
      SomeCorner Holds t q ↔ SomeCorner Holds s q
