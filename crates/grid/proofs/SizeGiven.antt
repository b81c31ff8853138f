-- The promise of `size_of` and document 01's sentences about sizes mean each other, for every m; and a point is at its place.
use mathlib.Core.Path.{◌≡◌, refl}
use mathlib.Core.Bool.{Bool, true, false}
use mathlib.Core.Logic.{◌↔◌}
use Prim.Native.Nat.{ℕ}
use lib.Dec.{leb}
use borrow.Author.Tests.{leb-true, leb-false, le-leb, lt-leb}
use Rattle.grid.specs.Grid.{place, largest}
use Rattle.grid.specs.Rule.{AtPlace, SizeGiven, held, above}
use Rattle.grid.specs.Sizes.{size_answer}
use Rattle.grid.specs.declared.points.Point.{Point}
use Rattle.grid.specs.declared.sizes.Size.{Size}
use Rattle.grid.specs.declared.refusals.Refusal.{Refusal}
use Rattle.grid.specs.declared.refusals.Refusal.TheVariants.{SizeAbove, WrongLength, VoidCorner, ToleranceAbove, PointBeyond, BadMark, NotClosed, NoRoom, InputForm}
use Rattle.std.specs.Prelude.{Result, Ok, Err}

pub at_place : (m : ℕ) (p : Point) → AtPlace m p
unfolding place
at_place m p = refl

pub size_given : (m : ℕ) (r : Result Size Refusal) → (r ≡ size_answer m) ↔ SizeGiven m r
size_given m r = (λ e. rw e (there (leb m largest) refl), back r)
  where
    there : (t : Bool) → leb m largest ≡ t → SizeGiven m (size_answer m)
    there true e = rw e (held (leb-true m largest e) refl refl refl)
    there false e = rw e (above (leb-false m largest e) refl)

    back : (r : Result Size Refusal) → SizeGiven m r → r ≡ size_answer m
    back (Ok size) (held l s k t) = rw (le-leb m largest l) (λ i. Ok (record { side = s i; samples = k i; triangles = t i }))
    back (Err SizeAbove) (above l n) = rw (lt-leb m largest l) refl
    back (Err WrongLength) (above l n) = cc
    back (Err VoidCorner) (above l n) = cc
    back (Err ToleranceAbove) (above l n) = cc
    back (Err PointBeyond) (above l n) = cc
    back (Err BadMark) (above l n) = cc
    back (Err NotClosed) (above l n) = cc
    back (Err (NoRoom needed)) (above l n) = cc
    back (Err InputForm) (above l n) = cc
