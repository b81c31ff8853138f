-- What two or three tests say together: that none holds, and that one does.
use mathlib.Core.Path.{◌≡◌, refl, sym}
use mathlib.Core.Bool.{Bool, true, false, ◌||◌, true≢false}
use mathlib.Core.Logic.{◌⊎◌, inl, inr, ⊎_elim, ◌↔◌}

pub neither : (a b : Bool) → (a || b) ≡ false → (a ≡ false) × (b ≡ false)
neither true b e = absurd (true≢false e)
neither false b e = (refl, e)

pub none : (a b c : Bool) → (a || (b || c)) ≡ false → (a ≡ false) × (b ≡ false) × (c ≡ false)
none a b c e =
    let first = neither a (b || c) e in
    let rest = neither b c first.1 in
    (first.0, rest.0, rest.1)

pub any : (a b c : Bool) → ((a || (b || c)) ≡ true) ↔ ((a ≡ true) ⊎ ((b ≡ true) ⊎ (c ≡ true)))
any true b c = (λ e. inl refl, λ o. refl)
any false true c = (λ e. inr (inl refl), λ o. refl)
any false false c = (
  λ e. inr (inr e),
  λ o. ⊎_elim (λ e. absurd (true≢false (sym e))) (λ o. ⊎_elim (λ e. absurd (true≢false (sym e))) (λ e. e) o) o,
)
