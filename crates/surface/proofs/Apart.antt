-- No point that one triangle of the mesh encloses is in another, borders counted: the two halves of a triangle lie on different sides of the line
-- from its apex to its cut, and the two that the square starts as on different sides of its diagonal.
use mathlib.Core.Path.{◌≡◌}
use mathlib.Core.Bool.{Bool}
use Prim.Native.Nat.{ℕ, ◌+◌, ◌*◌, ◌%◌}
use native.Mathlib.Decide.{ℕ_discrete}
use native.Mathlib.Omega.{arith}
use Rattle.grid.specs.Grid.{side, at, midpoint}
use Rattle.grid.specs.Hierarchy.{Triangle, first, second, first_half, second_half}
use Rattle.grid.specs.declared.points.Point.{Point}
use Rattle.grid.proofs.Parity.{even_false, odd_true}
use Rattle.mesh.specs.Triangles.{Three, written, uncut, mesh}
use Rattle.mesh.proofs.Pairs.{Pairs, Across, Halves, pairs_mesh}
use Rattle.aim.specs.Geometry.{Contains}
use Rattle.surface.specs.Surface.{Encloses}
use Rattle.surface.proofs.Within.{contains_grows, encloses_grows, grown}

module _ (q : Point) where
  -- neither contains the point where the other encloses it
  pub record Apart (t u : Three) : Type 0 where
    pub first : Encloses t q → ¬ (Contains u q)
    pub second : Encloses u q → ¬ (Contains t q)

  -- a point is not to the left of a line both ways
  halves : (k : ℕ) (l c a r : Point) → Apart (written k l c a) (written k a c r)
  halves k l c a r = by (ℕ_discrete (k % 2) 0)
    where
      by : Dec (k % 2 ≡ 0) → Apart (written k l c a) (written k a c r)
      by (yes e) =
          rw (even_false k e)
          (record { first = λ i j. omega (arith, i.second, j.first); second = λ i j. omega (arith, i.first, j.second) })
      by (no n) =
          rw (odd_true k (omega arith))
          (record { first = λ i j. omega (arith, i.first, j.second); second = λ i j. omega (arith, i.second, j.first) })

  starts : (m : ℕ) → Apart (written (2 * m) (at 0 0) (at (side m) 0) (at (side m) (side m))) (written (2 * m) (at (side m) (side m)) (at 0 (side m)) (at 0 0))
  starts m =
      rw (even_false (2 * m) (omega arith))
      (record { first = λ i j. omega (arith, i.third, j.third); second = λ i j. omega (arith, i.third, j.third) })

  -- so it is with what they lead to
  module _ (m : ℕ) (kept : Point → Bool) where
    below : (k cuts : ℕ) {l a r l' a' r' : Point} → Triangle m k l a r → Triangle m k l' a' r' → k + cuts ≡ 2 * m →
        Apart (written k l a r) (written k l' a' r') → Across Apart (uncut kept k cuts l a r) (uncut kept k cuts l' a' r')
    below k cuts t t' all apart u v i j = record {
      first = λ e c. apart.first (grown (encloses_grows q) kept k cuts t all i e) (grown (contains_grows q) kept k cuts t' all j c);
      second = λ e c. apart.second (grown (encloses_grows q) kept k cuts t' all j e) (grown (contains_grows q) kept k cuts t all i c);
    }

    halves_apart : Halves Apart m kept
    halves_apart k cuts l a r t all = below k cuts (first_half t) (second_half t) all (halves k l (midpoint l r) a r)

    pub apart : Pairs Apart (mesh m kept)
    apart = pairs_mesh Apart m kept halves_apart (below (2 * m) 0 first second (omega arith) (starts m))
