-- What any f comes to by the weights, heights and origins do: a height is the difference of two counts, and a corner that a test holds of weighs in
-- just where the sum of the test's ones is not zero.
use mathlib.Core.Path.{◌≡◌, refl, sym, ap, ◌∙◌}
use mathlib.Core.Bool.{Bool, true, false, cond, not, ◌&&◌, ◌||◌, and-true, and-false}
use mathlib.Core.List.{List}
use Prim.Native.Nat.{ℕ, zero, suc, ◌+◌, ◌*◌}
use native.Mathlib.Omega.{arith}
use lib.Dec.{eqb}
use lib.IntN.{ℤ}
use borrow.Author.Tests.{ne_eqb}
use Rattle.grid.specs.declared.points.Point.{Point}
use Rattle.survey.specs.Filled.{sample}
use Rattle.aim.specs.Walk.{Weighed}
use Rattle.aim.specs.Aimed.{weighted}
use Rattle.aim.proofs.Differences.{Difference, over, under, whole, sum, multiple, equal}
use Rattle.aim.proofs.Grounds.{weighing}
use Rattle.surface.proofs.Landings.{mean}

-- any f comes to the same by the weights of both
abbrev pub Alike : Weighed → Weighed → Type 0
Alike t u = (f : Point → ℕ) → mean f t ≡ mean f u

module _ (m : ℕ) (heights : List ℤ) where
  counts : (t : Weighed) → Difference (mean (λ p. over (sample m heights p)) t) (mean (λ p. under (sample m heights p)) t) (weighted m heights t)
  unfolding weighted
  counts t =
      sum
      (sum (multiple t.wl (whole (sample m heights t.l))) (multiple t.wa (whole (sample m heights t.a))))
      (multiple t.wr (whole (sample m heights t.r)))

  pub same_height : (t u : Weighed) → Alike t u → weighted m heights t ≡ weighted m heights u
  same_height t u alike =
      equal (counts t) (counts u)
      (omega (arith, alike (λ p. over (sample m heights p)), alike (λ p. under (sample m heights p))))

-- whether a number is not zero
abbrev some : ℕ → Bool
some n = not (eqb n 0)

some_sum : (a b : ℕ) → some (a + b) ≡ (some a || some b)
some_sum zero b = let none : 0 + b ≡ b = omega arith in ap some none
some_sum (suc a) b = rw (ne_eqb (suc a + b) 0 (λ e. omega arith), ne_eqb (suc a) 0 (λ e. omega arith)) refl

some_once : (w : ℕ) (b : Bool) → some (w * cond b 1 0) ≡ (some w && b)
some_once w true = let all : w * 1 ≡ w = omega arith in ap some all ∙ sym (and-true (some w))
some_once w false = let none : w * 0 ≡ 0 = omega arith in ap some none ∙ sym (and-false (some w))

pub same_weighing : (test : Point → Bool) (t u : Weighed) → Alike t u → weighing test t ≡ weighing test u
same_weighing test t u alike = sym (summed t) ∙ ap some (alike ones) ∙ summed u
  where
    ones : Point → ℕ
    ones p = cond (test p) 1 0

    summed : (t : Weighed) → some (mean ones t) ≡ weighing test t
    summed t =
        let l = t.wl * ones t.l in
        let a = t.wa * ones t.a in
        let r = t.wr * ones t.r in
        let all : l + a + r ≡ l + (a + r) = omega arith in
        ap some all
        ∙ some_sum l (a + r)
        ∙ ap (λ (b : Bool). some l || b) (some_sum a r)
        ∙ (λ i. some_once t.wl (test t.l) i || (some_once t.wa (test t.a) i || some_once t.wr (test t.r) i))
