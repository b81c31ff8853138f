-- `aim::walk::walk` meets its contract. The invariant: from where the walk has come it ends where it ends from the start.
use mathlib.Core.Path.{◌≡◌}
use Rattle.aim.specs.Inner.{walk_from, Stands, Light}
use Rattle.aim.proofs.walk.walk.Given as goal

abbrev pub invariant-loop-t : goal.invariant-loop-t
invariant-loop-t l = Stands l.marks l.t × Light l.t × (walk_from l.marks l.t.left l.t ≡ walk_from l.marks l.initial.t.left l.initial.t)

abbrev pub decreases-loop-t : goal.decreases-loop-t
decreases-loop-t l = l.t.left
