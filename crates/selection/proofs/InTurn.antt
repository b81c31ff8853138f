-- Tests asked in turn, with an answer at the first that holds, are their disjunction. r is what the code was told of a test t.
use Rattle.std.proofs.Common.{◌≡◌, Bool, true, false, ◌||◌, sym, ◌∙◌}
use mathlib.Core.Bool.{or-false}

-- this one holds
pub here : {r t : Bool} (u : Bool) → r ≡ t → r ≡ true → true ≡ (t || u)
here u e h = rw (sym e ∙ h)

-- this one does not: the answer is the others'
pub further : {r t u v : Bool} → r ≡ t → r ≡ false → v ≡ u → v ≡ (t || u)
further e h w = rw (sym e ∙ h) w

-- the last one is the answer
pub last : {r t : Bool} → r ≡ t → r ≡ (t || false)
last {t = t} e = e ∙ sym (or-false t)
