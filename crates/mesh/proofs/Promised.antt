-- The contract of triangles, as the code states it, ties the answer and the places at exit to what was handed over, in its order: the marks, the size
-- and the places as they were. So whatever the call answers and writes follows document 01's sentences.
use mathlib.Core.Path.{◌≡◌, refl}
use mathlib.Core.List.{List}
use Prim.Native.Nat.{ℕ}
use Rattle.mesh.specs.Meshed.{handed}
use Rattle.mesh.specs.Rule.{Follows}
use Rattle.mesh.specs.declared.Meshed.{Meshed}
use Rattle.mesh.proofs.Rule.{follows}
use Rattle.mesh.proofs.triangles.Reads as reads

-- each part in its place
pub in_place : (marks : List ℕ) (m : ℕ) (places : List ℕ) →
    let h = handed marks m places in (h.marks ≡ marks) × (h.m ≡ m) × (h.places ≡ places)
in_place marks m places = (refl, refl, refl)

pub promised : (k : _) (a : _) (r : Meshed) (o : _) → reads.Learnt k a r o →
    Follows (handed a.0.now a.1.0 a.1.1.0.now) r o.1.1.0.now
promised k a r o promise = follows.0 promise
