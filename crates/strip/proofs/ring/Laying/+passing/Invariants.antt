-- The measure is the number of cuts left, of a triangle and then of its halves.
use Prim.Native.Nat.{◌+◌, ◌*◌}
use Rattle.strip.proofs.ring.Laying.+passing.Given as goal

abbrev pub decreases-pass : goal.decreases-pass
decreases-pass l = 2 * l.t.now.left + 1

abbrev pub decreases-pass_halves : goal.decreases-pass_halves
decreases-pass_halves l = 2 * l.t.now.left
