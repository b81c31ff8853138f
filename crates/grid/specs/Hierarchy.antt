-- The triangles that cutting at every sample passes through. Document 01, "Triangles". Definitions only.
use Rattle.std.specs.Prelude.{◌≡◌, false, ℕ, suc, ◌+◌, ◌*◌, ◌%◌}
use Rattle.grid.specs.Grid.{side, at, midpoint, Inside}
use Rattle.grid.specs.Points.{is_corner, units}
use Rattle.grid.specs.declared.points.Point.{Point}

-- (l, a, r), apex a and longest side l to r, is a triangle with k cuts left: one of the two that the square starts as, with
-- 2m; or a half, the first or the second, of one with k + 1 cuts left, cut at the midpoint of its longest side. (With no cut left
-- that midpoint is no sample.)
pub data Triangle (m : ℕ) : ℕ → Point → Point → Point → Type 0 where
  first : Triangle m (2 * m) (at 0 0) (at (side m) 0) (at (side m) (side m))
  second : Triangle m (2 * m) (at (side m) (side m)) (at 0 (side m)) (at 0 0)
  first_half : {k : ℕ} {l a r : Point} → Triangle m (suc k) l a r → Triangle m k l (midpoint l r) a
  second_half : {k : ℕ} {l a r : Point} → Triangle m (suc k) l a r → Triangle m k a (midpoint l r) r

-- A triangle cut at a block centre gives halves cut at edge midpoints, and the other way about: a cut at c that leaves its halves k
-- further cuts is at a centre point (x/s and y/s both odd) where k is odd, and at an edge point (exactly one of them odd) where k is even.
pub record Stage (m k : ℕ) (c : Point) : Type 0 where
  pub sample : Inside m c
  pub inner : is_corner m c ≡ false
  pub at_centre : k % 2 ≡ 1 → ((units m c).across % 2 ≡ 1) × ((units m c).up % 2 ≡ 1)
  pub at_edge : k % 2 ≡ 0 → ((units m c).across + (units m c).up) % 2 ≡ 1

-- Apex a, longest side l to r: the two sides at the apex are equally long and at a right angle. What lies from l to a lies from a to r,
-- turned by a quarter, counter-clockwise where k is even and clockwise where k is odd.
pub record Apex (k : ℕ) (l a r : Point) : Type 0 where
  pub even : k % 2 ≡ 0 → (r.x + a.y ≡ a.x + l.y) × (r.y + l.x ≡ a.y + a.x)
  pub odd : k % 2 ≡ 1 → (r.x + l.y ≡ a.x + a.y) × (r.y + a.x ≡ a.y + l.x)
