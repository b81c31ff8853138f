-- The doubled areas of the mesh add up to 2N²: a triangle with k cuts left has the doubled area 2 to the k, and so have the uncut triangles that it
-- leads to, together.
use mathlib.Core.Path.{◌≡◌, refl, ap, ◌∙◌}
use mathlib.Core.Bool.{Bool, true, false, cond}
use mathlib.Core.List.{List, [], ◌∷◌, ◌++◌}
use Prim.Native.Nat.{ℕ, zero, suc, ◌+◌, ◌*◌, ◌^◌, ◌<◌}
use native.Mathlib.Nat.{pow-suc}
use native.Mathlib.Omega.{arith}
use lib.ListN.{length}
use Rattle.grid.specs.Grid.{side, at, midpoint}
use Rattle.grid.specs.Hierarchy.{Triangle, first, second, first_half, second_half}
use Rattle.grid.specs.declared.points.Point.{Point}
use Rattle.grid.proofs.Turning.{square_side}
use Rattle.mesh.specs.Triangles.{Three, written, uncut, mesh}
use Rattle.mesh.proofs.Pairs.{nth}
use Rattle.aim.specs.Geometry.{area}
use Rattle.aim.proofs.Passages.{same_order}
use Rattle.aim.proofs.Weights.{area_power}
use Rattle.surface.specs.Surface.{total}

-- the doubled areas of a list of triangles
abbrev pub area_of : List Three → ℕ
area_of [] = 0
area_of (t ∷ ts) = area t + area_of ts

area_append : (ts us : List Three) → area_of (ts ++ us) ≡ area_of ts + area_of us
area_append [] us = omega arith
area_append (t ∷ ts) us = omega (arith, area_append ts us)

module _ (m : ℕ) (kept : Point → Bool) where
  area_uncut : (k cuts : ℕ) {l a r : Point} → Triangle m k l a r → k + cuts ≡ 2 * m → area_of (uncut kept k cuts l a r) ≡ 2 ^ k
  unfolding uncut
  area_uncut zero cuts {l} {a} {r} t all = omega (arith, ap area (same_order m 0 cuts l a r all), area_power t)
  area_uncut (suc k) cuts {l} {a} {r} t all =
      by (kept (midpoint l r)) (uncut kept k (suc cuts) l (midpoint l r) a) (uncut kept k (suc cuts) a (midpoint l r) r)
      (area_uncut k (suc cuts) (first_half t) (omega arith)) (area_uncut k (suc cuts) (second_half t) (omega arith))
    where
      by : (b : Bool) (ts us : List Three) → area_of ts ≡ 2 ^ k → area_of us ≡ 2 ^ k → area_of (cond b (ts ++ us) (written cuts l a r ∷ [])) ≡ 2 ^ suc k
      by true ts us e f = omega (arith, area_append ts us, pow-suc 2 k)
      by false ts us e f = omega (arith, ap area (same_order m (suc k) cuts l a r all), area_power t)

  pub area_mesh : area_of (mesh m kept) ≡ 2 * (side m * side m)
  unfolding mesh
  area_mesh =
      area_append (uncut kept (2 * m) 0 (at 0 0) (at (side m) 0) (at (side m) (side m)))
      (uncut kept (2 * m) 0 (at (side m) (side m)) (at 0 (side m)) (at 0 0))
      ∙ (λ i. area_uncut (2 * m) 0 first (omega arith) i + area_uncut (2 * m) 0 second (omega arith) i)
      ∙ omega (arith, square_side m)

-- numbers that are the same each add up to the same
same_total : (f g : ℕ → ℕ) (n : ℕ) → ((i : ℕ) → i < n → f i ≡ g i) → total f n ≡ total g n
same_total f g zero same = refl
same_total f g (suc n) same =
    λ i. same 0 (omega arith) i + same_total (λ j. f (suc j)) (λ j. g (suc j)) n (λ j l. same (suc j) (omega arith)) i

-- those of the triangles of a list, one after another
total_area : (ts : List Three) → total (λ i. area (nth ts i)) (length ts) ≡ area_of ts
total_area [] = refl
total_area (t ∷ ts) = ap (λ (n : ℕ). area t + n) (total_area ts)

pub areas : (m : ℕ) (kept : Point → Bool) (t : ℕ → Three) → ((i : ℕ) → i < length (mesh m kept) → t i ≡ nth (mesh m kept) i) →
    total (λ i. area (t i)) (length (mesh m kept)) ≡ 2 * (side m * side m)
areas m kept t is =
    let ts = mesh m kept in
    same_total (λ i. area (t i)) (λ i. area (nth ts i)) (length ts) (λ i l. ap area (is i l)) ∙ total_area ts ∙ area_mesh m kept
