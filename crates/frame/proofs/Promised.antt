-- The contracts of `read` and `heights`, as the code states them, tie the answer and the survey at exit to what was handed over. So whatever
-- the calls answer and write follows document 01's sentences.
use mathlib.Core.Path.{◌≡◌, refl}
use mathlib.Core.List.{List}
use Prim.Native.Nat.{ℕ}
use lib.IntN.{ℤ}
use Rattle.std.specs.Prelude.{⊤, Result}
use Rattle.grid.specs.declared.refusals.Refusal.{Refusal}
use Rattle.frame.specs.Frame.{handed}
use Rattle.frame.specs.Rule.{Follows, FollowsHeights}
use Rattle.frame.specs.declared.Frame.{Frame}
use Rattle.frame.proofs.Rule.{follows, follows_heights}
use Rattle.frame.proofs.read.Reads as read
use Rattle.frame.proofs.heights.Reads as heights

-- each part in its place
pub in_place : (input : List ℕ) (survey : List ℤ) → ((handed input survey).input ≡ input) × ((handed input survey).survey ≡ survey)
in_place input survey = (refl, refl)

pub promised : (k : _) (a : _) (r : Result Frame Refusal) (o : _) → read.Learnt k a r o → Follows a.0.now r
promised k a r o promise = (follows a.0.now).0 promise

pub promised_heights : (k : _) (a : _) (r : Result ⊤ Refusal) (o : _) → heights.Learnt k a r o →
    FollowsHeights (handed a.0.now a.1.0.now) r o.1.0.now
promised_heights k a r o promise = follows_heights.0 promise
