-- Of a good mark one test tells whether it keeps its point.
use mathlib.Core.Path.{◌≡◌, refl}
use mathlib.Core.Bool.{Bool, true, false}
use mathlib.Core.Logic.{⊎_elim}
use Prim.Native.Nat.{ℕ}
use Rattle.grid.specs.Mark.{good_mark, kept_mark}
use Rattle.grid.specs.Inner.{keeps}
use Rattle.grid.proofs.Numbers.{good_corner, good_elsewhere}

pub keeps_good : (corner : Bool) (mark : ℕ) → good_mark corner mark ≡ true → keeps mark ≡ kept_mark mark
keeps_good true mark e = rw (good_corner mark e) refl
keeps_good false mark e =
    ⊎_elim (⊎_elim (⊎_elim (⊎_elim (is 0 refl) (is 1 refl)) (is 2 refl)) (is 4 refl)) (is 6 refl) (good_elsewhere mark e)
  where
    is : (n : ℕ) → keeps n ≡ kept_mark n → mark ≡ n → keeps mark ≡ kept_mark mark
    is n told e = rw e told
