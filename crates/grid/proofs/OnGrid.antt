-- A list with one entry for each sample: as long as the samples are many, the entry of a point at its place, and any list
-- that agrees with it at every place is it.
use mathlib.Core.Path.{◌≡◌, refl, sym, ap, ◌∙◌, subst}
use mathlib.Core.List.{List, [], ◌∷◌}
use Prim.Native.Nat.{ℕ, zero, suc, ◌+◌, ◌<◌}
use native.Mathlib.Nat.{not-suc-le-zero, le_of_suc-le-suc}
use native.Mathlib.Omega.{arith}
use lib.ListN.{length, get_or}
use lib.Seq.{ext_get_or}
use Rattle.grid.specs.Grid.{samples, place, point, Inside, entries, on_grid}
use Rattle.grid.specs.declared.points.Point.{Point}
use Rattle.grid.proofs.Places.{place_below, point_place}

module _ {A : Type 0} where
  length_entries : (f : ℕ → A) (i n : ℕ) → length (entries f i n) ≡ n
  length_entries f i zero = refl
  length_entries f i (suc n) = ap suc (length_entries f (suc i) n)

  entry : (f : ℕ → A) (d : A) (i n k : ℕ) → k < n → get_or (entries f i n) k d ≡ f (i + k)
  entry f d i zero k h = absurd (not-suc-le-zero h)
  entry f d i (suc n) zero h = let e : i ≡ i + 0 = omega arith in ap f e
  entry f d i (suc n) (suc k) h =
      let e : suc i + k ≡ i + suc k = omega arith in entry f d (suc i) n k (le_of_suc-le-suc h) ∙ ap f e

  -- what stands at an index does not depend on the default
  pub any_default : (l : List A) (i : ℕ) (d e : A) → i < length l → get_or l i d ≡ get_or l i e
  any_default [] i d e h = absurd (not-suc-le-zero h)
  any_default (a ∷ l) zero d e h = refl
  any_default (a ∷ l) (suc i) d e h = any_default l i d e (le_of_suc-le-suc h)

  -- a point's place is an index of such a list
  pub room : {m : ℕ} {p : Point} {i : ℕ} (l : List A) → length l ≡ samples m → Inside m p → i ≡ place m p → i < length l
  room {m} {p} l n h e = rw (e, n) (place_below m p h)

  module _ (m : ℕ) (f : Point → A) where
    pub length_on_grid : length (on_grid m f) ≡ samples m
    unfolding on_grid
    length_on_grid = length_entries (λ i. f (point m i)) 0 (samples m)

    pub on_grid_place : (d : A) (i : ℕ) → i < samples m → get_or (on_grid m f) i d ≡ f (point m i)
    unfolding on_grid
    on_grid_place d i h =
        let e : 0 + i ≡ i = omega arith in entry (λ k. f (point m k)) d 0 (samples m) i h ∙ ap (λ (k : ℕ). f (point m k)) e

    pub on_grid_point : (d : A) (p : Point) → Inside m p → get_or (on_grid m f) (place m p) d ≡ f p
    on_grid_point d p h = on_grid_place d (place m p) (place_below m p h) ∙ ap f (point_place m p h)

    pub is_on_grid : (d : A) (l : List A) → length l ≡ samples m → ((i : ℕ) → i < samples m → get_or l i d ≡ f (point m i)) → l ≡ on_grid m f
    is_on_grid d l e h =
        ext_get_or d l (on_grid m f) (e ∙ sym length_on_grid)
        (λ i b. let c : i < samples m = subst (λ (n : ℕ). i < n) e b in h i c ∙ sym (on_grid_place d i c))
