-- Texts written one behind another are the one text of both: so bytes make a number, numbers a line, and lines all that is printed.
use mathlib.Core.Path.{◌≡◌, refl, sym, ◌∙◌, subst}
use mathlib.Core.List.{List, [], ◌∷◌, ◌++◌}
use Prim.Native.Nat.{ℕ, suc, ◌+◌, ◌*◌, ◌/◌, ◌%◌, ◌^◌, ◌≤◌, ◌<◌}
use native.Mathlib.Omega.{arith}
use lib.ListN.{length-append, get_or}
use lib.Seq.{append_snoc}
use Rattle.mesh.specs.Meshed.{entries_each}
use Rattle.std.specs.Prelude.{Ok, Err}
use Rattle.mesh.proofs.Halves.{put_both}
use Rattle.listing.specs.Text.{digit, space, line_feed, triangle_word, refused_word, decimal_of, line_of, line_at, lines_of, text_of}
use Rattle.listing.specs.declared.Text.{Text}
use Rattle.listing.specs.Inner.{most_digits, line_room, Adds}
use Rattle.listing.proofs.Spelt.{one_digit, more_digits, few}

-- room for more, and the same text in other words
pub more_room : {a b : ℕ} {s : List ℕ} {t u : Text} → a ≤ b → Adds a s t u → Adds b s t u
more_room l p = record { same_buffer = p.same_buffer; put = p.put; short = omega (arith, p.short, l); long = p.long }

pub same_text : {most : ℕ} {r s : List ℕ} {t u : Text} → r ≡ s → Adds most r t u → Adds most s t u
same_text {most} {t} {u} e p = subst (λ s. Adds most s t u) e p

-- nothing, and a text behind a text
pub nothing_added : (t : Text) → Adds 0 [] t t
nothing_added t = record { same_buffer = refl; put = record { behind = omega arith; holds = refl }; short = omega arith; long = refl }

pub both_added : {a b : ℕ} {r s : List ℕ} {t u v : Text} → Adds a r t u → Adds b s u v → Adds (a + b) (r ++ s) t v
both_added {r} {s} p q =
    record {
      same_buffer = q.same_buffer ∙ p.same_buffer;
      put = put_both p.put q.put;
      short = omega (arith, p.short, q.short, length-append r s);
      long = q.long ∙ p.long;
    }

-- a number below ten, and one with more digits
pub digit_added : {t u : Text} (number : ℕ) → number < 10 → Adds 1 (digit (number % 10) ∷ []) t u → Adds most_digits (decimal_of number) t u
digit_added number l p = rw (one_digit number l) (more_room (omega arith) p)

pub digits_added : {t u v : Text} (number : ℕ) → number < 2 ^ 32 → 10 ≤ number → Adds most_digits (decimal_of (number / 10)) t u →
    Adds 1 (digit (number % 10) ∷ []) u v → Adds most_digits (decimal_of number) t v
digits_added number small l p q =
    let both = same_text (sym (more_digits number l)) (both_added p q) in
    record { same_buffer = both.same_buffer; put = both.put; short = few 9 number (omega arith); long = both.long }

-- three numbers in a line
pub line_added : {t u v w : Text} {a b c : ℕ} (places : List ℕ) (at : ℕ) → a ≡ get_or places at 0 →
    b ≡ get_or places (at + 1) 0 → c ≡ get_or places (at + 2) 0 → Adds (suc most_digits) (decimal_of a ++ space ∷ []) t u →
    Adds (suc most_digits) (decimal_of b ++ space ∷ []) u v → Adds (suc most_digits) (decimal_of c ++ line_feed ∷ []) v w →
    Adds line_room (line_at places at) t w
line_added {a} {b} {c} places at ea eb ec p q r =
    let last = decimal_of c ++ line_feed ∷ [] in
    let two = same_text (append_snoc (decimal_of b) space last) (both_added q r) in
    let three = same_text (append_snoc (decimal_of a) space (decimal_of b ++ space ∷ last)) (both_added p two) in
    same_text (λ i. line_of (decimal_of (ea i) ∷ decimal_of (eb i) ∷ decimal_of (ec i) ∷ [])) (more_room (omega arith) three)

-- the first line of an accepted input
abbrev pub first_line : ℕ → List ℕ
first_line triangles = line_of (triangle_word ∷ decimal_of triangles ∷ [])

-- no line, and one more line
pub no_line_added : (places : List ℕ) (t : Text) → Adds (line_room * 0) (lines_of 0 places) t t
unfolding lines_of
no_line_added places t = nothing_added t

pub next_line_added : (places : List ℕ) (n : ℕ) {n' : ℕ} {t u v : Text} → n' ≡ suc n → Adds (line_room * n) (lines_of n places) t u →
    Adds line_room (line_at places (entries_each * n)) u v → Adds (line_room * n') (lines_of n' places) t v
unfolding lines_of
next_line_added places n e p q = rw e (more_room (omega arith) (both_added p q))

-- the whole text, where nothing is turned down and where something is
pub lines_added : (triangles : ℕ) (places : List ℕ) {t u v : Text} → Adds line_room (first_line triangles) t u →
    Adds (line_room * triangles) (lines_of triangles places) u v → Adds (line_room * suc triangles) (text_of (Ok triangles) places) t v
unfolding text_of
lines_added triangles places p q = more_room (omega arith) (both_added p q)

pub refusal_added : (refusal : ℕ) (places : List ℕ) {t u : Text} → Adds line_room (line_of (refused_word ∷ decimal_of refusal ∷ [])) t u →
    Adds (line_room * 1) (text_of (Err refusal) places) t u
unfolding text_of
refusal_added refusal places p = more_room (omega arith) p
