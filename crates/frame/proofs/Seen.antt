-- Of any input the first bytes, one more than the longest valid frame has, are enough: what is read from them is what is read from the
-- whole. An input that is longer still has a wrong total, and the version and m, which are asked before the total, stand at its beginning.
use mathlib.Core.Path.{◌≡◌, sym, ap, ◌∙◌}
use mathlib.Core.Logic.{◌≢◌}
use mathlib.Core.List.{List}
use Prim.Native.Nat.{ℕ, suc, ◌+◌, ◌≤◌, ◌<◌}
use native.Mathlib.Nat.{mul-le-mul}
use native.Mathlib.Omega.{arith}
use native.Mathlib.Decide.{dec_le}
use lib.ListN.{length, take}
use lib.Pow.{pow_mono}
use lib.Seq.{take_all, length-take-le, get_or-take}
use lib.IntN.{ℤ}
use Rattle.grid.specs.Grid.{side}
use Rattle.grid.specs.Refusal.{accepted}
use Rattle.frame.specs.Bytes.{byte_at}
use Rattle.frame.specs.Frame.{version_at, size_at, largest_framed, total_of, longest}
use Rattle.frame.specs.Frame.{number_of, refusal, answer_of, handed, heights_refusal, survey_after}
use Rattle.frame.specs.Rule.{Opens, Total, Turned, short, other, size, total, field, nothing, frame}
use Rattle.frame.proofs.Accepted.{turned, turned_only, roomy, heights_only}
use Rattle.frame.proofs.Numbered.{alike}
use Rattle.frame.proofs.Answered.{survey_refused}

-- no frame of a size up to the largest is longer than the longest
pub total_most : {m : ℕ} → m ≤ largest_framed → total_of m ≤ longest
total_most {m} l =
    let wide : side m + 1 ≤ side largest_framed + 1 = omega (arith, pow_mono l) in omega (arith, mul-le-mul wide wide)

abbrev pub seen : List ℕ → List ℕ
seen input = take (suc longest) input

module _ (input : List ℕ) (long : longest < length input) where
  seen_long : length (seen input) ≡ suc longest
  seen_long = length-take-le (suc longest) input long

  same : (i : ℕ) → i < suc longest → byte_at (seen input) i ≡ byte_at input i
  same i l = get_or-take (suc longest) input i 0 l

  opens : Opens input → Opens (seen input)
  opens o = record { enough = rw seen_long (omega arith); versioned = same version_at (omega arith) ∙ o.versioned }

  -- no total of its is right
  never : byte_at input size_at ≤ largest_framed → Total input → ⊥
  never l t = omega (arith, total_most l)

  wrong : byte_at input size_at ≤ largest_framed → Total (seen input) → ⊥
  wrong l t = omega (arith, total_most l, sym seen_long ∙ rw (same size_at (omega arith)) at t)

  again : {n : ℕ} → Turned input n → Turned (seen input) n
  again (short l) = absurd (omega arith)
  again (other l v) = other (rw seen_long (omega arith)) (λ e. v (sym (same version_at (omega arith)) ∙ e))
  again (size o l) = size (opens o) (rw (same size_at (omega arith)) l)
  again (total o l t) = total (opens o) (rw (same size_at (omega arith)) l) (wrong l)
  again (field o l t f) = absurd (never l t)
  again (nothing o l t f) = absurd (never l t)

  refused : {n : ℕ} → Turned input n → n ≢ accepted
  refused (short l) e = omega arith
  refused (other l v) e = omega arith
  refused (size o l) e = omega arith
  refused (total o l t) e = omega arith
  refused (field o l t f) e = omega arith
  refused (nothing o l t f) e = never l t

  answer_seen : answer_of (seen input) ≡ answer_of input
  answer_seen =
      let n = turned_only (seen input) (again (turned input)) in
      alike (answer_of (seen input)) (answer_of input) (sym n) (roomy input (turned input))
      (λ x y e f. absurd (refused (turned input) (ap number_of f)))

  module _ (survey : List ℤ) where
    given : refusal input ≡ heights_refusal (handed input survey)
    given = heights_only (handed input survey) (frame (turned input) (refused (turned input)))

    given_seen : refusal input ≡ heights_refusal (handed (seen input) survey)
    given_seen = heights_only (handed (seen input) survey) (frame (again (turned input)) (refused (turned input)))

    refusal_seen : heights_refusal (handed (seen input) survey) ≡ heights_refusal (handed input survey)
    refusal_seen = sym given_seen ∙ given

    survey_seen : survey_after (handed (seen input) survey) ≡ survey_after (handed input survey)
    survey_seen =
        let n = refused (turned input) in
        survey_refused (handed (seen input) survey) (λ e. n (given_seen ∙ e)) ∙ sym (survey_refused (handed input survey) (λ e. n (given ∙ e)))

-- all of a shorter input is seen
whole : {A : Type 0} (f : List ℕ → A) (input : List ℕ) → (longest < length input → f (seen input) ≡ f input) → f (seen input) ≡ f input
whole f input beyond = by (dec_le (length input) longest)
  where
    by : Dec (length input ≤ longest) → f (seen input) ≡ f input
    by (yes l) = ap f (take_all (suc longest) input (omega arith))
    by (no n) = beyond (omega arith)

pub seen_answer : (input : List ℕ) → answer_of (seen input) ≡ answer_of input
seen_answer input = whole answer_of input (answer_seen input)

pub seen_refusal : (input : List ℕ) (survey : List ℤ) → heights_refusal (handed (seen input) survey) ≡ heights_refusal (handed input survey)
seen_refusal input survey = whole (λ l. heights_refusal (handed l survey)) input (λ long. refusal_seen input long survey)

pub seen_survey : (input : List ℕ) (survey : List ℤ) → survey_after (handed (seen input) survey) ≡ survey_after (handed input survey)
seen_survey input survey = whole (λ l. survey_after (handed l survey)) input (λ long. survey_seen input long survey)
