-- Some member of a list: what `some` finds is a member, a member it asks for is found, and it asks the members alone.
-- Each by the list's first member and the rest.
use Rattle.std.proofs.Common.{◌≡◌, Bool, true, false, ◌||◌, List, [], ◌∷◌, ◌++◌, sym, refl, ⊎_elim}
use mathlib.Core.Bool.{false≢true, or-true, or_assoc}
use mathlib.Core.List.Memᴰ
use mathlib.Core.List.{Memᴰ}
use Rattle.selection.specs.Kept.{some}

module _ {A : Type 0} where
  -- two tests that agree at the members find alike
  pub some_cong : (f g : A → Bool) (l : List A) → ((q : A) → Memᴰ q l → f q ≡ g q) → some f l ≡ some g l
  some_cong f g [] same = refl
  some_cong f g (a ∷ l) same =
      let first = same a (Memᴰ.head refl) in
      let rest = some_cong f g l (λ q i. same q (Memᴰ.tail i)) in
      λ i. first i || rest i

  module _ (f : A → Bool) where
    pub some_none : (l : List A) → ((q : A) → Memᴰ q l → f q ≡ false) → some f l ≡ false
    some_none [] none = refl
    some_none (a ∷ l) none = rw (none a (Memᴰ.head refl)) (some_none l (λ q i. none q (Memᴰ.tail i)))

    pub some_in : (l : List A) → some f l ≡ true → (q : A) × Memᴰ q l × (f q ≡ true)
    some_in [] e = absurd (false≢true e)
    some_in (a ∷ l) e = go (some_in l) (f a) refl e
      where
        go : (some f l ≡ true → (q : A) × Memᴰ q l × (f q ≡ true)) → (t : Bool) → f a ≡ t → (t || some f l) ≡ true →
            (q : A) × Memᴰ q (a ∷ l) × (f q ≡ true)
        go rest true found e = (a, Memᴰ.head refl, found)
        go rest false other e = let r = rest e in (r.0, Memᴰ.tail r.1, r.2)

    pub in_some : {q : A} (l : List A) → Memᴰ q l → f q ≡ true → some f l ≡ true
    in_some [] i found = absurd (Memᴰ.not-nil i)
    in_some (a ∷ l) i found =
        ⊎_elim (λ e. rw (← e, found)) (λ k. rw (in_some l k found) (or-true (f a))) (Memᴰ.cases_cons i)

    pub some_append : (l k : List A) → some f (l ++ k) ≡ (some f l || some f k)
    some_append [] k = refl
    some_append (a ∷ l) k = rw (some_append l k) (sym (or_assoc (f a) (some f l) (some f k)))
