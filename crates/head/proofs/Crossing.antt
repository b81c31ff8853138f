-- What C gets for a height follows document 01's sentences, and whatever follows them is what C gets. Nothing is lost in crossing: only a NaN's bits
-- could be another's, and no height is a NaN.
use mathlib.Core.Path.{◌≡◌, refl, sym, ap, ◌∙◌}
use mathlib.Core.Bool.{Bool, true, false, cond}
use mathlib.Core.Logic.{◌↔◌}
use Prim.Native.Nat.{ℕ}
use native.Mathlib.Omega.{arith}
use borrow.Author.Tests.{eqb-true}
use lib.Dec.{eqb}
use lib.Ieee.{Float, of_bits}
use lib.Ieee.Bits.{of_bits-to_bits}
use Rattle.grid.specs.Refusal.{accepted}
use Rattle.aim.specs.Quotient.{format, plus_zero}
use Rattle.aim.specs.Aimed.{Handed, refusal, Said, nowhere, surveyed, filled, says, said, ended, is_filled, height_at, CornersSixteen}
use Rattle.aim.specs.declared.HeightAnswer.{HeightAnswer}
use Rattle.aim.specs.declared.HeightAnswer.TheVariants.{Surveyed, Filled, Refused}
use Rattle.aim.proofs.Rule.{kind, follows_height}
use Rattle.head.specs.Crossing.{crossing, crossed, read, CrossesAs, FollowsCrossed}
use Rattle.head.specs.declared.Crossed.{Crossed}
use Rattle.head.proofs.Number.{Number, height_number}

-- by what an answer says, and by its case
crosses : (a : HeightAnswer) → CrossesAs a (crossed (said a)).kind (crossed (said a)).bits
crosses (Surveyed x) = (refl, refl)
crosses (Filled x) = (refl, refl)
crosses (Refused n) = (refl, refl)

crosses_only : (a : HeightAnswer) (r : Crossed) → CrossesAs a r.kind r.bits → r ≡ crossed (said a)
crosses_only (Surveyed x) r (k, b) = λ i. crossing (k i) (b i)
crosses_only (Filled x) r (k, b) = λ i. crossing (k i) (b i)
crosses_only (Refused n) r (k, b) = λ i. crossing (k i) (b i)

-- read back
reads : (a : HeightAnswer) → Number (said a).height → read (crossed (said a)) ≡ said a
reads (Surveyed x) n = ap (says accepted surveyed) (of_bits-to_bits format x n.holds)
reads (Filled x) n = ap (says accepted filled) (of_bits-to_bits format x n.holds)
reads (Refused n) _ = refl

-- each case by its number (a slip in the definition, its second form and the code at once would show here alone), and only kind 1 is read as surveyed
pub named : (x : Float) (n : ℕ) →
    (crossed (said (Refused n)) ≡ crossing 0 n) × ((crossed (said (Surveyed x))).kind ≡ 1) × ((crossed (said (Filled x))).kind ≡ 2)
named x n = (refl, refl, refl)

pub read_surveyed : (c : Crossed) → (read c).origin ≡ surveyed → c.kind ≡ 1
read_surveyed c e = by (eqb c.kind 0) (eqb c.kind 1) refl e
  where
    by : (none one : Bool) → eqb c.kind 1 ≡ one →
        (cond none (says c.bits nowhere plus_zero) (says accepted (cond one surveyed filled) (of_bits format c.bits))).origin ≡ surveyed → c.kind ≡ 1
    by true one t e = absurd (omega (arith, ap kind e))
    by false true t e = eqb-true c.kind 1 t
    by false false t e = absurd (omega (arith, ap kind e))

-- what a height says is the say of an answer
record Spoken (s : Said) : Type 0 where
  answer : HeightAnswer
  saying : said answer ≡ s

spoken : (h : Handed) → Spoken (height_at h)
unfolding height_at
spoken h = by (eqb (refusal h) accepted) (is_filled h.m h.marks (ended h).triangle) _
  where
    by : (taken full : Bool) (x : Float) →
        Spoken (cond taken (says accepted (cond full filled surveyed) x) (says (refusal h) nowhere plus_zero))
    by true true x = record { answer = Filled x; saying = refl }
    by true false x = record { answer = Surveyed x; saying = refl }
    by false full x = record { answer = Refused (refusal h); saying = refl }

pub follows_crossed : {h : Handed} {r : Crossed} → (refusal h ≡ accepted → CornersSixteen h) → (r ≡ crossed (height_at h)) ↔ FollowsCrossed h r
follows_crossed {h = h} {r = r} small = (there, back)
  where
    there : r ≡ crossed (height_at h) → FollowsCrossed h r
    there e =
        let s = spoken h in
        let same : r ≡ crossed (said s.answer) = e ∙ ap crossed (sym s.saying) in
        record {
          answer = s.answer;
          follows = (follows_height small).0 s.saying;
          crosses = rw same (crosses s.answer);
          reads = rw same (reads s.answer (rw s.saying (height_number h)));
        }

    back : FollowsCrossed h r → r ≡ crossed (height_at h)
    back f = crosses_only f.answer r f.crosses ∙ ap crossed ((follows_height small).1 f.follows)
