-- The contract of the strip, as the code states it, ties the answer and the places at exit to what was handed over, in its order: the marks, the size and
-- the places as they were. So whatever the call answers and writes follows K1's sentences, and what an accepted one wrote is one strip for the whole ring.
use mathlib.Core.Path.{◌≡◌}
use Rattle.grid.specs.Refusal.{accepted}
use Rattle.mesh.specs.Meshed.{handed}
use Rattle.strip.specs.Rule.{Follows, Told}
use Rattle.strip.specs.declared.Stripped.{Stripped}
use Rattle.strip.proofs.Rule.{follows, told}
use Rattle.strip.proofs.strip.Reads as reads

pub promised : (k : _) (a : _) (r : Stripped) (o : _) → reads.Learnt k a r o →
    Follows (handed a.0.now a.1.0 a.1.1.0.now) r o.1.1.0.now
promised k a r o promise = follows.0 promise

pub promised_one : (k : _) (a : _) (r : Stripped) (o : _) → reads.Learnt k a r o → r.refusal ≡ accepted →
    Told (handed a.0.now a.1.0 a.1.1.0.now) r o.1.1.0.now
promised_one k a r o promise taken = told promise taken
