-- The contracts of the two calls, as the code states them, tie the answer to what was handed over, in their order: the marks, the heights, the size
-- and the point. So whatever a call answers follows document 01's sentences: the float is the quotient exactly, and no premise is left.
use mathlib.Core.Path.{◌≡◌, refl}
use mathlib.Core.List.{List}
use Prim.Native.Nat.{ℕ}
use lib.IntN.{ℤ}
use lib.Ieee.{Float}
use Rattle.grid.specs.Grid.{at}
use Rattle.grid.specs.Refusal.{accepted}
use Rattle.aim.specs.Quotient.{plus_zero}
use Rattle.aim.specs.Aimed.{handed, nowhere, surveyed, filled, says, said}
use Rattle.aim.specs.Rule.{queried, FollowsHeight, FollowsPlane}
use Rattle.aim.specs.declared.HeightAnswer.{HeightAnswer}
use Rattle.aim.specs.declared.HeightAnswer.TheVariants.{Surveyed, Filled, Refused}
use Rattle.aim.specs.declared.PlaneAnswer.{PlaneAnswer}
use Rattle.aim.proofs.Rule.{follows_height, follows_plane}
use Rattle.aim.proofs.height.Reads as height_reads
use Rattle.aim.proofs.plane.Reads as plane_reads

-- each case of the enum by its name (a slip in both the definition and the code would show here alone)
pub named : (x : Float) (n : ℕ) →
    (said (Surveyed x) ≡ says accepted surveyed x) × (said (Filled x) ≡ says accepted filled x) × (said (Refused n) ≡ says n nowhere plus_zero)
named x n = (refl, refl, refl)

-- what was handed over, each part in its place
pub in_place : (marks : List ℕ) (heights : List ℤ) (m x y : ℕ) →
    let h = handed marks heights m x y in (h.marks ≡ marks) × (h.heights ≡ heights) × (h.m ≡ m) × (queried h ≡ at x y)
in_place marks heights m x y = (refl, refl, refl, refl)

pub height_promised : (k : _) (a : _) (r : HeightAnswer) (o : _) → height_reads.Learnt k a r o →
    FollowsHeight (handed a.0.now a.1.0.now a.1.1.0 a.1.1.1.0 a.1.1.1.1.0) r
height_promised k a r o promise = (follows_height promise.sixteen).0 promise.answer

pub plane_promised : (k : _) (a : _) (r : PlaneAnswer) (o : _) → plane_reads.Learnt k a r o →
    FollowsPlane (handed a.0.now a.1.0.now a.1.1.0 a.1.1.1.0 a.1.1.1.1.0) r
plane_promised k a r o promise = (follows_plane promise.sixteen).0 promise.answer
