-- The contract of `text_of`, as the checker has it, ties the answer and the buffer at exit to the input and to the buffer as it was: so what it
-- writes is what document 01's sentences show of the input, and no second outcome fits it.
use mathlib.Core.Path.{◌≡◌, sym, ap, ◌∙◌, subst}
use mathlib.Core.List.{List}
use Prim.Native.Nat.{ℕ, ◌≤◌}
use native.Mathlib.Omega.{arith}
use lib.ListN.{length, length-append, take, drop}
use lib.Seq.{take-append_seam}
use Rattle.listing.specs.Text.{text_in, Prints}
use Rattle.listing.specs.Rule.{Shows}
use Rattle.listing.proofs.Rule.{text_shows}
use Rattle.listing.proofs.text_of.Reads as text_of

module _ {input out : List ℕ} {r : ℕ} {out' : List ℕ} (p : Prints input out r out') where
  -- the bytes that the answer counts are the text
  pub printed : take r out' ≡ text_in input
  printed = (λ i. take (p.answer i) (p.written i)) ∙ take-append_seam (text_in input) (drop (length (text_in input)) out)

  pub inside : r ≤ length out'
  inside = omega (arith, p.answer, ap length p.written, length-append (text_in input) (drop (length (text_in input)) out))

pub promised : (k : _) (a : _) (r : ℕ) (o : _) → text_of.Learnt k a r o → Shows a.0.now (take r o.1.0.now)
promised k a r o p = subst (Shows a.0.now) (sym (printed p)) (text_shows a.0.now)
