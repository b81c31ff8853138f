-- Document 01's numbers for marks: a good mark is 3 at a grid corner and one of 0, 1, 2, 4, 6 elsewhere, and a mark that keeps its point
-- is one of 1, 2, 3, 6. That these are so is computed in `Values`; here, that no other number is.
use mathlib.Core.Path.{◌≡◌, refl}
use mathlib.Core.Bool.{Bool, true, false, ◌||◌}
use mathlib.Core.Logic.{◌⊎◌, inl, inr, ⊎_elim}
use Prim.Native.Nat.{ℕ}
use lib.Dec.{eqb}
use borrow.Author.Tests.{eqb-true}
use Rattle.grid.specs.Mark.{good_mark, kept_mark}

-- of two tests one says yes
either : (a b : Bool) → (a || b) ≡ true → (a ≡ true) ⊎ (b ≡ true)
either true b e = inl refl
either false b e = inr e

-- the last number of a chain of tests, or one before it
one_more : {P : Type 0} (a : Bool) (k n : ℕ) → (a ≡ true → P) → (a || eqb k n) ≡ true → P ⊎ (k ≡ n)
one_more a k n before e = ⊎_elim (λ y. inl (before y)) (λ y. inr (eqb-true k n y)) (either a (eqb k n) e)

pub good_corner : (k : ℕ) → good_mark true k ≡ true → k ≡ 3
good_corner k e = eqb-true k 3 e

pub good_elsewhere : (k : ℕ) → good_mark false k ≡ true → ((((k ≡ 0) ⊎ (k ≡ 1)) ⊎ (k ≡ 2)) ⊎ (k ≡ 4)) ⊎ (k ≡ 6)
good_elsewhere k =
    one_more _ k 6 (one_more _ k 4 (one_more _ k 2 (one_more (eqb k 0) k 1 (eqb-true k 0))))

pub kept_numbers : (k : ℕ) → kept_mark k ≡ true → (((k ≡ 1) ⊎ (k ≡ 2)) ⊎ (k ≡ 3)) ⊎ (k ≡ 6)
kept_numbers k = one_more _ k 6 (one_more _ k 3 (one_more (eqb k 1) k 2 (eqb-true k 1)))
