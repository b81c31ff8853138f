-- Marks that are final at some points: one more is when it is written, and when all are, the list is one mark for each sample.
use Rattle.std.proofs.Common.{◌≡◌, ℕ, ◌⊎◌, List, [], ◌∷◌, length, get_or, set, sym, refl, ap, ◌∙◌, ⊎_elim, length-set, get_or-set_other, get_or-set_same}
use mathlib.Core.List.Memᴰ
use mathlib.Core.List.{Memᴰ}
use native.Mathlib.Decide.{ℕ_discrete}
use Rattle.grid.specs.Grid.{Inside, samples, place, point, on_grid}
use Rattle.grid.specs.declared.points.Point.{Point}
use Rattle.grid.proofs.Places.{point_place, place_point, point_inside}
use Rattle.grid.proofs.OnGrid.{room, is_on_grid}
use Rattle.selection.specs.Inner.{Final}

module _ {m : ℕ} {f : Point → ℕ} {done : Point → Type 0} {marks : List ℕ} (final : Final m f done marks) where
  -- at fewer points
  pub final_at : {fewer : Point → Type 0} → ((p : Point) → Inside m p → fewer p → done p) → Final m f fewer marks
  final_at less = record { long = final.long; right = λ p h d. final.right p h (less p h d) }

  -- at one point more
  pub final_set : {more : Point → Type 0} (q : Point) {v : ℕ} → Inside m q → v ≡ f q →
      ((p : Point) → Inside m p → more p → (p ≡ q) ⊎ done p) → Final m f more (set marks (place m q) v)
  final_set {more} q {v} i e grows =
      record {
        long = length-set marks (place m q) v ∙ final.long;
        right = λ p h d. go p h (ℕ_discrete (place m p) (place m q)) (grows p h d);
      }
    where
      go : (p : Point) → Inside m p → Dec (place m p ≡ place m q) → (p ≡ q) ⊎ done p → get_or (set marks (place m q) v) (place m p) 0 ≡ f p
      go p h (yes s) d =
          let same : q ≡ p = sym (point_place m q i) ∙ ap (point m) (sym s) ∙ point_place m p h in
          ap (λ (n : ℕ). get_or (set marks (place m q) v) n 0) s
          ∙ get_or-set_same marks (place m q) v 0 (room marks final.long i refl)
          ∙ e
          ∙ ap f same
      go p h (no s) d =
          get_or-set_other marks (place m q) (place m p) v 0 s
          ∙ ⊎_elim (λ (same : p ≡ q). absurd (s (ap (place m) same))) (λ old. final.right p h old) d

  -- at all points
  pub final_all : ((p : Point) → Inside m p → done p) → marks ≡ on_grid m f
  final_all all =
      is_on_grid m f 0 marks final.long
      (λ i l.
      let h = point_inside m i l in
      ap (λ (n : ℕ). get_or marks n 0) (sym (place_point m i)) ∙ final.right (point m i) h (all (point m i) h))

-- at the points of a list, one more in front
pub final_listed : {m : ℕ} {f : Point → ℕ} {l : List Point} {marks : List ℕ} (q : Point) {v : ℕ} →
    Final m f (λ p. Memᴰ p l) marks → Inside m q → v ≡ f q → Final m f (λ p. Memᴰ p (q ∷ l)) (set marks (place m q) v)
final_listed q final i e = final_set final q i e (λ p h k. Memᴰ.cases_cons k)

pub final_none : (m : ℕ) (f : Point → ℕ) (marks : List ℕ) → length marks ≡ samples m → Final m f (λ p. Memᴰ p []) marks
final_none m f marks n = record { long = n; right = λ p h k. absurd (Memᴰ.not-nil k) }
