-- Each refusal number is given exactly in its own case, and none where nothing is turned down. The tests are asked in the order of the
-- cases, so each case is what its test says where those before it say no.
use mathlib.Core.Path.{◌≡◌, refl, sym, ap, ◌∙◌, subst}
use mathlib.Core.Logic.{◌≢◌}
use mathlib.Core.Bool.{Bool, true, false, cond, not}
use mathlib.Core.List.{List}
use Prim.Native.Nat.{ℕ, ◌≤◌}
use native.Mathlib.Omega.{arith}
use native.Mathlib.Decide.{ℕ_discrete}
use lib.Dec.{eqb, ltb}
use lib.ListN.{length}
use borrow.Author.Tests.{lt-ltb, le-ltb, ltb-true, ltb-false, eq-eqb, ne_eqb, eqb-true, eqb-false}
use Rattle.grid.specs.Grid.{samples}
use Rattle.grid.specs.Refusal.{accepted, no_room}
use Rattle.grid.specs.declared.refusals.Refusal.{Refusal}
use Rattle.grid.specs.declared.refusals.Refusal.TheVariants.{SizeAbove, WrongLength, InputForm}
use Rattle.std.specs.Prelude.{Result, Ok, Err}
use Rattle.frame.specs.declared.Frame.{Frame}
use Rattle.frame.specs.Bytes.{byte_at, number_at}
use Rattle.frame.specs.Frame.{length_at, version_at, field_bytes, version, largest_framed, fewest, size_in, total_of, length_of}
use Rattle.frame.specs.Frame.{number_of, framed, answer_of, refusal, Handed, heights_answer, heights_refusal}
use Rattle.frame.specs.Rule.{Opens, Total, Turned, short, other, size, total, field, nothing}
use Rattle.frame.specs.Rule.{Long, TurnedHeights, frame, buffer, none}
use Rattle.frame.proofs.Numbers.{four_is}
use Rattle.grid.proofs.Refused.{refused}

module _ (input : List ℕ) where
  -- what the length field says, and what it should
  abbrev says : ℕ
  says = number_at input length_at field_bytes

  abbrev should : ℕ
  should = length_of (size_in input)

  -- the number that is given has its case
  pub turned : Turned input (refusal input)
  unfolding answer_of
  turned =
      go (ltb (length input) fewest) refl (eqb (byte_at input version_at) version) refl (ltb largest_framed (size_in input)) refl
      (eqb (length input) (total_of (size_in input))) refl (eqb says should) refl
    where
      go : (a : Bool) → ltb (length input) fewest ≡ a → (b : Bool) → eqb (byte_at input version_at) version ≡ b →
          (c : Bool) → ltb largest_framed (size_in input) ≡ c → (d : Bool) → eqb (length input) (total_of (size_in input)) ≡ d →
          (e : Bool) → eqb says should ≡ e →
          Turned input
          (number_of (cond a (Err InputForm) (cond (not b) (Err InputForm) (cond c (Err SizeAbove) (cond (not d) (Err InputForm) (cond (not e) (Err InputForm) (Ok (framed input))))))))
      go true ea b eb c ec d ed e ee = short (ltb-true _ _ ea)
      go false ea false eb c ec d ed e ee = other (ltb-false _ _ ea) (eqb-false _ _ eb)
      go false ea true eb c ec d ed e ee = opened (record { enough = ltb-false _ _ ea; versioned = eqb-true _ _ eb }) c ec d ed e ee
        where
          opened : Opens input → (c : Bool) → ltb largest_framed (size_in input) ≡ c → (d : Bool) → eqb (length input) (total_of (size_in input)) ≡ d →
              (e : Bool) → eqb says should ≡ e →
              Turned input (number_of (cond c (Err SizeAbove) (cond (not d) (Err InputForm) (cond (not e) (Err InputForm) (Ok (framed input))))))
          opened o true ec d ed e ee = size o (ltb-true _ _ ec)
          opened o false ec false ed e ee = total o (ltb-false _ _ ec) (eqb-false _ _ ed)
          opened o false ec true ed false ee =
              field o (ltb-false _ _ ec) (eqb-true _ _ ed) (λ k. eqb-false says should ee (four_is input length_at ∙ sym k))
          opened o false ec true ed true ee =
              nothing o (ltb-false _ _ ec) (eqb-true _ _ ed) (sym (eqb-true says should ee) ∙ four_is input length_at)

  -- past the version and m
  past : Opens input → size_in input ≤ largest_framed →
      answer_of input ≡ cond (not (eqb (length input) (total_of (size_in input)))) (Err InputForm) (cond (not (eqb says should)) (Err InputForm) (Ok (framed input)))
  unfolding answer_of
  past o l =
      rw (le-ltb (length input) fewest o.enough, eq-eqb (byte_at input version_at) version o.versioned, le-ltb largest_framed (size_in input) l)

  -- what is answered in each case, and that its number is the case's
  abbrev in_case : {n : ℕ} → Turned input n → Result Frame Refusal
  in_case (short l) = Err InputForm
  in_case (other l v) = Err InputForm
  in_case (size o l) = Err SizeAbove
  in_case (total o l t) = Err InputForm
  in_case (field o l t f) = Err InputForm
  in_case (nothing o l t f) = Ok (framed input)

  numbered : {n : ℕ} (t : Turned input n) → n ≡ number_of (in_case t)
  numbered (short l) = refl
  numbered (other l v) = refl
  numbered (size o l) = refl
  numbered (total o l t) = refl
  numbered (field o l t f) = refl
  numbered (nothing o l t f) = refl

  answered : {n : ℕ} (t : Turned input n) → answer_of input ≡ in_case t
  unfolding answer_of
  answered (short l) = rw (lt-ltb (length input) fewest l)
  answered (other l v) = rw (le-ltb (length input) fewest l, ne_eqb (byte_at input version_at) version v)
  answered (size o l) =
      rw (le-ltb (length input) fewest o.enough, eq-eqb (byte_at input version_at) version o.versioned, lt-ltb largest_framed (size_in input) l)
  answered (total o l t) = past o l ∙ rw (ne_eqb (length input) (total_of (size_in input)) t)
  answered (field o l t f) =
      let wrong : eqb says should ≡ false = ne_eqb says should (λ e. f (sym e ∙ four_is input length_at)) in
      past o l ∙ rw (eq-eqb (length input) (total_of (size_in input)) t, wrong)
  answered (nothing o l t f) =
      let right : eqb says should ≡ true = eq-eqb says should (four_is input length_at ∙ sym f) in
      past o l ∙ rw (eq-eqb (length input) (total_of (size_in input)) t, right)

  -- and a number that has its case is the one given
  pub turned_only : {n : ℕ} → Turned input n → n ≡ refusal input
  turned_only t = numbered t ∙ sym (ap number_of (answered t))

  -- an input that is accepted
  pub record Accepted : Type 0 where
    pub small : size_in input ≤ largest_framed
    pub long : Total input
    pub carried : answer_of input ≡ Ok (framed input)

  pub accepted_input : refusal input ≡ accepted → Accepted
  accepted_input e = by turned e
    where
      by : {n : ℕ} → Turned input n → n ≡ accepted → Accepted
      by (short l) e = absurd (omega arith)
      by (other l v) e = absurd (omega arith)
      by (size o l) e = absurd (omega arith)
      by (total o l t) e = absurd (omega arith)
      by (field o l t f) e = absurd (omega arith)
      by (nothing o l t f) e = record { small = l; long = t; carried = answered (nothing o l t f) }

  -- the input has no refusal of want of room
  pub roomy : {n : ℕ} → Turned input n → n ≢ no_room
  roomy (short l) e = omega arith
  roomy (other l v) e = omega arith
  roomy (size o l) e = omega arith
  roomy (total o l t) e = omega arith
  roomy (field o l t f) e = omega arith
  roomy (nothing o l t f) e = omega arith

-- the same of `heights`
module _ (h : Handed) where
  -- as many samples as its size has
  abbrev many : ℕ
  many = samples (size_in h.input)

  pub answer_short : {r : Refusal} → answer_of h.input ≡ Err r → heights_answer h ≡ Err r
  unfolding heights_answer
  answer_short e = rw e

  pub answer_wrong : {f : Frame} → answer_of h.input ≡ Ok f → ¬ (Long h) → heights_answer h ≡ Err WrongLength
  unfolding heights_answer
  answer_wrong e n = rw (e, ne_eqb (length h.survey) many n)

  pub answer_long : {f : Frame} → answer_of h.input ≡ Ok f → Long h → heights_answer h ≡ Ok tt
  unfolding heights_answer
  answer_long e l = rw (e, eq-eqb (length h.survey) many l)

  pub turned_heights : TurnedHeights h (heights_refusal h)
  turned_heights = by (answer_of h.input) refl (ℕ_discrete (length h.survey) many)
    where
      by : (a : Result Frame Refusal) → answer_of h.input ≡ a → Dec (Long h) → TurnedHeights h (heights_refusal h)
      by (Err r) e d =
          rw (answer_short e) (frame (subst (Turned h.input) (ap number_of e) (turned h.input)) (refused r))
      by (Ok f) e (no n) = rw (answer_wrong e n) (buffer (subst (Turned h.input) (ap number_of e) (turned h.input)) n)
      by (Ok f) e (yes l) = rw (answer_long e l) (none (subst (Turned h.input) (ap number_of e) (turned h.input)) l)

  pub heights_only : {n : ℕ} → TurnedHeights h n → n ≡ heights_refusal h
  heights_only (frame {n} t k) = by (answer_of h.input) refl
    where
      by : (a : Result Frame Refusal) → answer_of h.input ≡ a → n ≡ heights_refusal h
      by (Err r) e = turned_only h.input t ∙ ap number_of e ∙ sym (ap number_of (answer_short e))
      by (Ok f) e = absurd (k (turned_only h.input t ∙ ap number_of e))
  heights_only (buffer t n) = sym (ap number_of (answer_wrong (accepted_input h.input (sym (turned_only h.input t))).carried n))
  heights_only (none t l) = sym (ap number_of (answer_long (accepted_input h.input (sym (turned_only h.input t))).carried l))

  pub roomy_heights : {n : ℕ} → TurnedHeights h n → n ≢ no_room
  roomy_heights (frame t k) e = roomy h.input t e
  roomy_heights (buffer t n) e = omega arith
  roomy_heights (none t l) e = omega arith
