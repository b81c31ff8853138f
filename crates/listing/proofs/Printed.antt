-- What `text_of` computes is what document 01's sentences say of the bytes, and no other bytes are: a number has one spelling, so a line, lines and a text
-- have one, too.
use mathlib.Core.Path.{◌≡◌, refl, sym, ap, ◌∙◌}
use mathlib.Core.List.{List, [], ◌∷◌, ◌++◌}
use Prim.Native.Nat.{ℕ, zero, suc, ◌+◌, ◌*◌, ◌/◌, ◌%◌, ◌≤◌, ◌<◌}
use native.Mathlib.Decide.{dec_le}
use native.Mathlib.Omega.{arith}
use lib.ListN.{get_or}
use Rattle.std.specs.Prelude.{Result, Ok, Err}
use Rattle.listing.specs.Text.{digit as code, decimal_of, lines_of, text_of}
use Rattle.listing.specs.Rule.{Spells, digit, digits, Line, Lines, none, more, Printed, refused, listed}
use Rattle.listing.proofs.Spelt.{one_digit, more_digits}

spells_below : (most n : ℕ) → n < most → Spells n (decimal_of n)
spells_below zero n l = absurd (omega arith)
spells_below (suc most) n l = by (dec_le (suc n) 10) (λ k. spells_below most (n / 10) (omega arith))
  where
    by : Dec (n < 10) → (10 ≤ n → Spells (n / 10) (decimal_of (n / 10))) → Spells n (decimal_of n)
    by (yes k) tenth = let same : n % 10 ≡ n = omega arith in digit k (one_digit n k ∙ ap (λ (d : ℕ). code d ∷ []) same)
    by (no k) tenth =
        digits {n = n} {t = n / 10} {d = n % 10} (omega arith) (omega arith) (omega arith) (tenth (omega arith)) (more_digits n (omega arith))

pub spells : (n : ℕ) → Spells n (decimal_of n)
spells n = spells_below (suc n) n (omega arith)

pub spells_only : {n : ℕ} {bytes : List ℕ} → Spells n bytes → bytes ≡ decimal_of n
spells_only {n} (digit l e) = let same : n ≡ n % 10 = omega arith in e ∙ ap (λ (d : ℕ). code d ∷ []) same ∙ sym (one_digit n l)
spells_only {n} (digits {t = t} {d = d} p l is s e) =
    let tenth : t ≡ n / 10 = omega arith in
    let last : d ≡ n % 10 = omega arith in
    e ∙ (λ i. (spells_only s ∙ ap decimal_of tenth) i ++ code (last i) ∷ []) ∙ sym (more_digits n (omega arith))

line_only : {a b c : ℕ} {bytes : List ℕ} → Line a b c bytes → bytes ≡ decimal_of a ++ 32 ∷ (decimal_of b ++ 32 ∷ (decimal_of c ++ 10 ∷ []))
line_only l =
    l.is ∙ (λ i. spells_only l.first_spelt i ++ 32 ∷ (spells_only l.second_spelt i ++ 32 ∷ (spells_only l.third_spelt i ++ 10 ∷ [])))

lines_are : (places : List ℕ) (n : ℕ) → Lines places n (lines_of n places)
unfolding lines_of
lines_are places zero = none
lines_are places (suc n) =
    more (lines_are places n)
    (record {
      first = decimal_of (get_or places (3 * n) 0);
      second = decimal_of (get_or places (3 * n + 1) 0);
      third = decimal_of (get_or places (3 * n + 2) 0);
      first_spelt = spells _;
      second_spelt = spells _;
      third_spelt = spells _;
      is = refl;
    })
    refl

lines_only : {places : List ℕ} {n : ℕ} {bytes : List ℕ} → Lines places n bytes → bytes ≡ lines_of n places
unfolding lines_of
lines_only none = refl
lines_only (more s l e) = e ∙ (λ i. lines_only s i ++ line_only l i)

pub printed : (r : Result ℕ ℕ) (places : List ℕ) → Printed r places (text_of r places)
unfolding text_of
printed (Ok n) places = listed refl (spells n) (lines_are places n) refl
printed (Err n) places = refused refl (spells n) refl

pub printed_only : {r : Result ℕ ℕ} {places text : List ℕ} → Printed r places text → text ≡ text_of r places
unfolding text_of
printed_only {places} (refused k s e) =
    e ∙ (λ i. 114 ∷ 101 ∷ 102 ∷ 117 ∷ 115 ∷ 101 ∷ 100 ∷ 32 ∷ (spells_only s i ++ 10 ∷ [])) ∙ ap (λ r. text_of r places) (sym k)
printed_only {places} (listed k s l e) = e ∙ (λ i. 84 ∷ 32 ∷ ((spells_only s i ++ 10 ∷ []) ++ lines_only l i)) ∙ ap (λ r. text_of r places) (sym k)
