-- A count over the first i of a list: at most i, and with one entry more, more by what that entry counts.
use Rattle.std.proofs.Common.{◌≡◌, ℕ, zero, suc, ◌+◌, ◌<◌, ◌≤◌, Bool, true, false, cond, List, [], ◌∷◌, ◌++◌, length, get_or, take, refl, ap, ◌∙◌, add-one, arith, take-suc}
use Rattle.selection.specs.Marks.{count}

pub one_most : {x : ℕ} (t : Bool) → x ≡ cond t 1 0 → x ≤ 1
one_most true e = omega arith
one_most false e = omega arith

module _ {A : Type 0} (f : A → Bool) where
  pub count_most : (i : ℕ) (l : List A) → count f (take i l) ≤ i
  count_most zero l = omega arith
  count_most (suc i) [] = omega arith
  count_most (suc i) (a ∷ l) = omega (arith, count_most i l, one_most (f a) refl)

  pub count_length : (l : List A) → count f l ≤ length l
  count_length [] = omega arith
  count_length (a ∷ l) = omega (arith, count_length l, one_most (f a) refl)

  pub count_append : (l k : List A) → count f (l ++ k) ≡ count f l + count f k
  count_append [] k = omega arith
  count_append (a ∷ l) k = omega (arith, count_append l k)

  -- with the next
  pub count_next : (l : List A) {i n x : ℕ} (d : A) → i < length l → n ≡ count f (take i l) → x ≡ cond (f (get_or l i d)) 1 0 →
      n + x ≡ count f (take (i + 1) l)
  count_next l {i = i} d h e g =
      let next = ap (count f) (take-suc l i d h) ∙ count_append (take i l) (get_or l i d ∷ []) in rw (add-one i) (omega (arith, next))
