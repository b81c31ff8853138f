-- A refusal is told by its number alone, but for the one of too little room, which tells how much is needed as well.
use mathlib.Core.Path.{◌≡◌, refl, sym, ap, ◌∙◌}
use mathlib.Core.Logic.{◌≢◌}
use Prim.Native.Nat.{ℕ}
use Rattle.std.specs.Prelude.{cond, eqb, Result, Ok, Err}
use Rattle.grid.specs.Refusal.{accepted, size_above, wrong_length, void_corner, tolerance_above, point_beyond, bad_mark, not_closed, no_room, number}
use Rattle.grid.specs.declared.refusals.Refusal.{Refusal}
use Rattle.grid.specs.declared.refusals.Refusal.TheVariants.{SizeAbove, WrongLength, VoidCorner, ToleranceAbove, PointBeyond, BadMark, NotClosed, NoRoom, InputForm}
use Rattle.grid.proofs.Refused.{refused}
use Rattle.frame.specs.Frame.{number_of}

-- the refusal of a number
of_number : ℕ → Refusal
of_number n =
    cond (eqb n size_above) SizeAbove
    (cond (eqb n wrong_length) WrongLength
    (cond (eqb n void_corner) VoidCorner
    (cond (eqb n tolerance_above) ToleranceAbove
    (cond (eqb n point_beyond) PointBeyond
    (cond (eqb n bad_mark) BadMark
    (cond (eqb n not_closed) NotClosed InputForm))))))

again : (r : Refusal) → number r ≢ no_room → of_number (number r) ≡ r
unfolding of_number
again SizeAbove n = refl
again WrongLength n = refl
again VoidCorner n = refl
again ToleranceAbove n = refl
again PointBeyond n = refl
again BadMark n = refl
again NotClosed n = refl
again (NoRoom needed) n = absurd (n refl)
again InputForm n = refl

-- so two answers of one number are the same, if what they give is
pub alike : {A : Type 0} (a b : Result A Refusal) → number_of a ≡ number_of b → number_of b ≢ no_room →
    ((x y : A) → a ≡ Ok x → b ≡ Ok y → x ≡ y) → a ≡ b
alike (Ok x) (Ok y) e n same = ap Ok (same x y refl refl)
alike (Ok x) (Err r) e n same = absurd (refused r (sym e))
alike (Err r) (Ok y) e n same = absurd (refused r e)
alike (Err r) (Err s) e n same = ap Err (sym (again r (λ z. n (sym e ∙ z))) ∙ ap of_number e ∙ again s n)
