-- A relation between any two triangles of the mesh, one and another written behind it. Where it holds between those of the two halves of every
-- triangle, it holds throughout.
use mathlib.Core.Path.{◌≡◌, refl}
use mathlib.Core.Bool.{Bool, true, false, cond}
use mathlib.Core.List.Memᴰ
use mathlib.Core.List.{List, [], ◌∷◌, ◌++◌, Memᴰ}
use mathlib.Core.Logic.{⊎_elim}
use Prim.Native.Nat.{ℕ, zero, suc, ◌+◌, ◌*◌, ◌<◌}
use native.Mathlib.Nat.{not-suc-le-zero, le_of_suc-le-suc}
use native.Mathlib.Omega.{arith}
use lib.ListN.{length, get_or}
use Rattle.grid.specs.Grid.{side, at, midpoint}
use Rattle.grid.specs.Hierarchy.{Triangle, first, second, first_half, second_half}
use Rattle.grid.specs.declared.points.Point.{Point}
use Rattle.mesh.specs.Triangles.{Three, three, written, uncut, mesh}
use Rattle.mesh.proofs.Every.{at_in}

-- triangle i of a list (beyond it, three times the south-west corner)
abbrev pub nth : List Three → ℕ → Three
nth ts i = get_or ts i (three (at 0 0) (at 0 0) (at 0 0))

pub nth_in : (ts : List Three) (i : ℕ) → i < length ts → Memᴰ (nth ts i) ts
nth_in ts i l = at_in ts i (three (at 0 0) (at 0 0) (at 0 0)) l

module _ (R : Three → Three → Type 0) where
  -- of any two triangles of a list
  abbrev pub Pairs : List Three → Type 0
  Pairs [] = Unit {0}
  Pairs (t ∷ ts) = ((u : Three) → Memᴰ u ts → R t u) × Pairs ts

  -- of any one of a list and any one of another
  abbrev pub Across : List Three → List Three → Type 0
  Across ts us = (t u : Three) → Memᴰ t ts → Memᴰ u us → R t u

  both : (ts us : List Three) → Pairs ts → Pairs us → Across ts us → Pairs (ts ++ us)
  both [] us o o' d = o'
  both (t ∷ ts) us o o' d = (
    λ u i. ⊎_elim (o.0 u) (d t u (Memᴰ.head refl)) (Memᴰ.append_cases ts i),
    both ts us o.1 o' (λ v u i. d v u (Memᴰ.tail i)),
  )

  pub nth_pairs : (ts : List Three) → Pairs ts → (i j : ℕ) → i < j → j < length ts → R (nth ts i) (nth ts j)
  nth_pairs [] o i j l h = absurd (not-suc-le-zero h)
  nth_pairs (t ∷ ts) o i zero l h = absurd (not-suc-le-zero l)
  nth_pairs (t ∷ ts) o zero (suc j) l h = o.0 (nth ts j) (nth_in ts j (le_of_suc-le-suc h))
  nth_pairs (t ∷ ts) o (suc i) (suc j) l h = nth_pairs ts o.1 i j (le_of_suc-le-suc l) (le_of_suc-le-suc h)

  module _ (m : ℕ) (kept : Point → Bool) where
    -- between the two halves, which so many cuts made
    abbrev pub Halves : Type 0
    Halves =
        (k cuts : ℕ) (l a r : Point) → Triangle m (suc k) l a r → k + cuts ≡ 2 * m →
        Across (uncut kept k cuts l (midpoint l r) a) (uncut kept k cuts a (midpoint l r) r)

    module _ (halves : Halves) where
      pairs_uncut : (k cuts : ℕ) {l a r : Point} → Triangle m k l a r → k + cuts ≡ 2 * m → Pairs (uncut kept k cuts l a r)
      unfolding uncut
      pairs_uncut zero cuts t all = (λ u i. absurd (Memᴰ.not-nil i), record {})
      pairs_uncut (suc k) cuts {l} {a} {r} t all =
          by _ (kept (midpoint l r))
          (both _ _ (pairs_uncut k (suc cuts) (first_half t) (omega arith)) (pairs_uncut k (suc cuts) (second_half t) (omega arith))
          (halves k (suc cuts) l a r t (omega arith)))
        where
          by : (ts : List Three) (b : Bool) → Pairs ts → Pairs (cond b ts (written cuts l a r ∷ []))
          by ts true o = o
          by ts false o = (λ u i. absurd (Memᴰ.not-nil i), record {})

      -- and between the two that the square starts as
      pub pairs_mesh : Across (uncut kept (2 * m) 0 (at 0 0) (at (side m) 0) (at (side m) (side m)))
          (uncut kept (2 * m) 0 (at (side m) (side m)) (at 0 (side m)) (at 0 0)) → Pairs (mesh m kept)
      unfolding mesh
      pairs_mesh d = both _ _ (pairs_uncut (2 * m) 0 first (omega arith)) (pairs_uncut (2 * m) 0 second (omega arith)) d
