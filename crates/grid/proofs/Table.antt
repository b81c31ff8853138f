-- A table's rule holds at each of its rows when a test passes over the whole table.
-- The test is computed row by row; `row` turns it into the rule at any one of them.
use mathlib.Core.Path.{◌≡◌, subst}
use mathlib.Core.Bool.{Bool, true, false, ◌&&◌}
use mathlib.Core.List.{List, [], ◌∷◌}
use Prim.Native.Nat.{ℕ, zero, suc, ◌+◌, ◌<◌}
use native.Mathlib.Nat.{not-suc-le-zero, le_of_suc-le-suc}
use native.Mathlib.Omega.{arith}
use lib.Dec.{T}
use lib.ListN.{length, get_or}

-- both of two tests
pub both : (a b : Bool) → T (a && b) → T a × T b
both true true t = (tt, tt)
both true false t = absurd t
both false b t = absurd t

module _ {A : Type 0} (test : ℕ → A → Bool) where
  -- every row passes, counted from k
  abbrev pub passes : ℕ → List A → Bool
  passes k [] = true
  passes k (a ∷ rows) = test k a && passes (suc k) rows

  row_from : (rows : List A) (d : A) (k i : ℕ) → T (passes k rows) → i < length rows → T (test (k + i) (get_or rows i d))
  row_from [] d k i t h = absurd (not-suc-le-zero h)
  row_from (a ∷ rows) d k zero t h =
      let e : k ≡ k + 0 = omega arith in subst (λ (n : ℕ). T (test n a)) e (both (test k a) (passes (suc k) rows) t).0
  row_from (a ∷ rows) d k (suc i) t h =
      let e : suc k + i ≡ k + suc i = omega arith in
      subst (λ (n : ℕ). T (test n (get_or rows i d))) e
      (row_from rows d (suc k) i (both (test k a) (passes (suc k) rows) t).1 (le_of_suc-le-suc h))

  pub row : (rows : List A) (d : A) (i : ℕ) → T (passes 0 rows) → i < length rows → T (test i (get_or rows i d))
  row rows d i t h =
      let e : 0 + i ≡ i = omega arith in subst (λ (n : ℕ). T (test n (get_or rows i d))) e (row_from rows d 0 i t h)
