-- What is read from the places written is the mesh: three entries in a row are the places of a triangle's corners, and the point at a
-- sample's place is that sample.
use mathlib.Core.Path.{◌≡◌, refl, ◌∙◌}
use mathlib.Core.List.{List, [], ◌∷◌, ◌++◌, Memᴰ}
use Prim.Native.Nat.{ℕ, zero, suc, ◌+◌, ◌*◌, ◌<◌}
use native.Mathlib.Nat.{not-suc-le-zero, le_of_suc-le-suc}
use native.Mathlib.Omega.{arith}
use lib.ListN.{length, get_or}
use Rattle.grid.specs.Grid.{samples, point}
use Rattle.grid.proofs.Places.{place_below, point_place}
use Rattle.mesh.specs.Triangles.{Three, three, places_of}
use Rattle.mesh.specs.Rule.{Proper, three_at}
use Rattle.mesh.proofs.Pairs.{nth}

-- behind one triangle's three entries
behind : (a b c : ℕ) (l : List ℕ) (m i : ℕ) → three_at m (a ∷ b ∷ c ∷ l) (suc i) ≡ three_at m l i
behind a b c l m i =
    let e : 3 * suc i ≡ suc (suc (suc (3 * i))) = omega arith in
    let f : 3 * suc i + 1 ≡ suc (suc (suc (3 * i + 1))) = omega arith in
    let g : 3 * suc i + 2 ≡ suc (suc (suc (3 * i + 2))) = omega arith in
    let read : ℕ → ℕ = λ n. get_or (a ∷ b ∷ c ∷ l) n 0 in
    λ k. three (point m (read (e k))) (point m (read (f k))) (point m (read (g k)))

module _ (m : ℕ) (rest : List ℕ) where
  pub three_read : (ts : List Three) → ((t : Three) → Memᴰ t ts → Proper m t) → (i : ℕ) → i < length ts →
      three_at m (places_of m ts ++ rest) i ≡ nth ts i
  three_read [] inside i l = absurd (not-suc-le-zero l)
  three_read (t ∷ ts) inside zero l =
      let s = inside t (Memᴰ.head refl) in
      λ k. three (point_place m t.first s.first k) (point_place m t.second s.second k) (point_place m t.third s.third k)
  three_read (t ∷ ts) inside (suc i) l =
      behind _ _ _ (places_of m ts ++ rest) m i ∙ three_read ts (λ u k. inside u (Memᴰ.tail k)) i (le_of_suc-le-suc l)

  -- and each entry is a sample place
  pub entry_sampled : (ts : List Three) → ((t : Three) → Memᴰ t ts → Proper m t) → (i : ℕ) → i < 3 * length ts →
      get_or (places_of m ts ++ rest) i 0 < samples m
  entry_sampled [] inside i l = absurd (omega arith)
  entry_sampled (t ∷ ts) inside zero l = place_below m t.first (inside t (Memᴰ.head refl)).first
  entry_sampled (t ∷ ts) inside (suc zero) l = place_below m t.second (inside t (Memᴰ.head refl)).second
  entry_sampled (t ∷ ts) inside (suc (suc zero)) l = place_below m t.third (inside t (Memᴰ.head refl)).third
  entry_sampled (t ∷ ts) inside (suc (suc (suc i))) l = entry_sampled ts (λ u k. inside u (Memᴰ.tail k)) i (omega arith)
