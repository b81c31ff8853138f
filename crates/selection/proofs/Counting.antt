-- `count` counts: of any test and any list, it is the number of members of which the test says so, and no other number is.
use Rattle.std.proofs.Common.{◌≡◌, ℕ, suc, ◌+◌, ◌≤◌, Bool, true, false, cond, ◌||◌, eqb, ◌⊎◌, ◌↔◌, List, [], ◌∷◌, sym, refl, ◌∙◌, subst, inl, inr, ⊎_elim, true≢false, arith, eq-eqb, eqb-true, le-leb, leb-true}
use Rattle.grid.specs.Mark.{filled_mark}
use Rattle.selection.specs.Marks.{count, marked_own, marked_dependence}
use Rattle.selection.specs.Rule.{SoMany, none, so, other}

module _ {A : Type 0} (f : A → Bool) (So : A → Type 0) (says : (a : A) → (f a ≡ true) ↔ So a) where
  pub counted : (l : List A) → SoMany So l (count f l)
  counted [] = none
  counted (a ∷ l) = by (f a) refl (counted l)
    where
      by : (t : Bool) → f a ≡ t → SoMany So l (count f l) → SoMany So (a ∷ l) (count f (a ∷ l))
      by true e c = let more : suc (count f l) ≡ count f (a ∷ l) = rw e (omega arith) in subst (SoMany So (a ∷ l)) more (so ((says a).0 e) c)
      by false e c =
          let same : count f l ≡ count f (a ∷ l) = rw e (omega arith) in
          subst (SoMany So (a ∷ l)) same (other (λ s. true≢false (sym ((says a).1 s) ∙ e)) c)

  pub counted_only : {l : List A} {n : ℕ} → SoMany So l n → n ≡ count f l
  counted_only none = refl
  counted_only (so {a} s c) = rw ((says a).1 s) (omega (arith, counted_only c))
  counted_only (other {a} n c) = by (f a) refl (counted_only c)
    where
      by : {m k : ℕ} (t : Bool) → f a ≡ t → m ≡ k → m ≡ cond (f a) 1 0 + k
      by true e h = absurd (n ((says a).0 e))
      by false e h = rw e (omega (arith, h))

-- one of two tests says so
either : (a b : Bool) {P Q : Type 0} → (a ≡ true) ↔ P → (b ≡ true) ↔ Q → ((a || b) ≡ true) ↔ (P ⊎ Q)
either true b p q = (λ e. inl (p.0 refl), λ o. refl)
either false b p q = (λ e. inr (q.0 e), λ o. ⊎_elim (λ x. absurd (true≢false (sym (p.1 x)))) (λ y. q.1 y) o)

-- what the marks that are counted are
pub own_says : (k : ℕ) → (marked_own k ≡ true) ↔ (k ≡ 1)
own_says k = (eqb-true k 1, eq-eqb k 1)

pub dependence_says : (k : ℕ) → (marked_dependence k ≡ true) ↔ ((k ≡ 2) ⊎ (k ≡ 6))
dependence_says k = either (eqb k 2) (eqb k 6) (eqb-true k 2, eq-eqb k 2) (eqb-true k 6, eq-eqb k 6)

pub filled_says : (k : ℕ) → (filled_mark k ≡ true) ↔ (4 ≤ k)
filled_says k = (leb-true 4 k, le-leb 4 k)
