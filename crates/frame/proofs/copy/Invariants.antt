-- The loop's invariant of `frame::copy`: below i each entry is the height at its own index.
use mathlib.Core.Path.{◌≡◌}
use Prim.Native.Nat.{ℕ, ◌<◌}
use lib.ListN.{get_or}
use lib.IntN.{pos}
use Rattle.frame.specs.Frame.{height_at}
use Rattle.frame.proofs.copy.Given as goal

abbrev pub invariant-loop-i : goal.invariant-loop-i
invariant-loop-i l = (k : ℕ) → k < l.i → get_or l.survey k (pos 0) ≡ height_at l.input k
