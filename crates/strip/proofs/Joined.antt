-- Neighbours in the list share a whole side: the one by which the strip goes out of the first and comes into the second. So do the last of a run and
-- the first of another that begins where it ends.
use mathlib.Core.Path.{◌≡◌}
use mathlib.Core.Bool.{Bool}
use mathlib.Core.List.{List, [], ◌∷◌, ◌++◌}
use Prim.Native.Nat.{ℕ, zero, suc, ◌<◌}
use native.Mathlib.Nat.{not-suc-le-zero, le_of_suc-le-suc}
use native.Mathlib.Omega.{arith}
use lib.ListN.{length, length-append}
use Rattle.strip.specs.Strip.{Corners}
use Rattle.strip.specs.Reading.{Neighbours, nth}
use Rattle.strip.specs.declared.ring.Passage.{Passage}
use Rattle.strip.proofs.Turns.{differ}
use Rattle.strip.proofs.Passing.{Gate, side, Entered, Passed, begins, onward, back, ends, Run, one, more}
use Rattle.strip.proofs.Sharing.{next, turns, Along, both}

along : {m x y z : ℕ} {t : Corners} → Entered m t x y z → Along m x y t
along {z = z} e = record { z = z; begun = e.begun; turns = turns e.begun e.turns }

module _ {m : ℕ} {p : Passage} {t : Corners} {x y : ℕ} where
  -- the side by which the strip came in, and that by which it went out
  pub came : {h : Gate} {b : Bool} → Passed m (side x y b) p t h → Along m x y t
  came (onward e on turn) = along e
  came (back e on turn) = along e
  came (ends e on) = along e

  pub went : {g : Gate} {b : Bool} → Passed m g p t (side x y b) → Along m y x t
  went (begins {z = z} b c on) = record { z = z; begun = next b; turns = turns (next b) c }
  went (onward {x = w} e on turn) = record { z = w; begun = next e.begun; turns = turns (next e.begun) e.turns }
  went (back {y = w} e on turn) = record { z = w; begun = next (next e.begun); turns = turns (next (next e.begun)) e.turns }

module _ {m : ℕ} where
  pub join : {x y : ℕ} {t u : Corners} → Along m y x t → Along m x y u → Neighbours t u
  join {x} {y} s o = record {
    one = x;
    other = y;
    apart = differ o.turns;
    one_first = (both s).1;
    one_second = (both o).0;
    other_first = (both s).0;
    other_second = (both o).1;
  }

  pub head : {x y : ℕ} {b : Bool} {h : Gate} {p : Passage} {ps : List Passage} {t : Corners} {ts : List Corners} →
      Run m (side x y b) (p ∷ ps) (t ∷ ts) h → Along m x y t
  head (one s) = came s
  head (more s r) = came s

  pub neighbours : {g h : Gate} {ps : List Passage} {ts : List Corners} → Run m g ps ts h → (i : ℕ) → suc i < length ts →
      Neighbours (nth ts i) (nth ts (suc i))
  neighbours (one s) i l = absurd (not-suc-le-zero (le_of_suc-le-suc l))
  neighbours (more s r) zero l = join (went s) (head r)
  neighbours (more s r) (suc i) l = neighbours r i (le_of_suc-le-suc l)

  some : {g h : Gate} {ps : List Passage} {ts : List Corners} → Run m g ps ts h → 0 < length ts
  some (one s) = omega arith
  some (more s r) = omega arith

  last : {g : Gate} {x y : ℕ} {b : Bool} {ps : List Passage} {ts : List Corners} → Run m g ps ts (side x y b) → (n : ℕ) → length ts ≡ suc n →
      Along m y x (nth ts n)
  last (one s) zero e = went s
  last (one s) (suc n) e = absurd (omega arith)
  last (more s r) zero e = absurd (omega arith)
  last (more s r) (suc n) e = last r n (omega arith)

  -- of two lists in a row, the first triangle and the last one
  pub foremost : {x y : ℕ} {b : Bool} {h : Gate} {ps : List Passage} {ts : List Corners} (us : List Corners) → Run m (side x y b) ps ts h →
      Along m x y (nth (ts ++ us) 0)
  foremost us (one s) = came s
  foremost us (more s r) = came s

  pub hindmost : {g : Gate} {x y : ℕ} {b : Bool} {ps : List Passage} (ts : List Corners) {us : List Corners} → Run m g ps us (side x y b) → (n : ℕ) →
      length (ts ++ us) ≡ suc n → Along m y x (nth (ts ++ us) n)
  hindmost [] r n e = last r n e
  hindmost (t ∷ ts) {us} r zero e = absurd (omega (arith, length-append ts us, some r))
  hindmost (t ∷ ts) r (suc n) e = hindmost ts r n (omega arith)
