-- What the code is told of a size: refusal 1 where m is above the largest, else what size m holds.
use mathlib.Core.Path.{◌≡◌, refl, ◌∙◌}
use Prim.Native.Nat.{ℕ, ◌≤◌, ◌<◌}
use borrow.Author.Tests.{leb-true, leb-false}
use Rattle.grid.specs.Grid.{largest}
use Rattle.grid.specs.Sizes.{size_of, size_answer}
use Rattle.grid.specs.declared.sizes.Size.{Size}
use Rattle.grid.specs.declared.refusals.Refusal.{Refusal}
use Rattle.grid.specs.declared.refusals.Refusal.TheVariants.{SizeAbove}
use Rattle.std.specs.Prelude.{Ok, Err, leb}
use mathlib.Core.Bool.{Bool, true, false}

-- a size was answered: m is small, and the size is the one that m holds
pub given : (m : ℕ) {size : Size} → Ok size ≡ size_answer m → (m ≤ largest) × (size ≡ size_of m)
given m {size} e = go (leb m largest) refl
  where
    go : (t : Bool) → leb m largest ≡ t → (m ≤ largest) × (size ≡ size_of m)
    go true l = (leb-true m largest l, let f : Ok size ≡ Ok (size_of m) = e ∙ rw l refl in cc)
    go false l = let bad : Ok size ≡ Err SizeAbove = e ∙ rw l refl in cc

-- or a refusal: m is above the largest, and the refusal is 1
pub refused : (m : ℕ) {refusal : Refusal} → Err refusal ≡ size_answer m → (largest < m) × (refusal ≡ SizeAbove)
refused m {refusal} e = go (leb m largest) refl
  where
    go : (t : Bool) → leb m largest ≡ t → (largest < m) × (refusal ≡ SizeAbove)
    go false l = (leb-false m largest l, let f : Err refusal ≡ Err SizeAbove = e ∙ rw l refl in cc)
    go true l = let bad : Err refusal ≡ Ok (size_of m) = e ∙ rw l refl in cc
