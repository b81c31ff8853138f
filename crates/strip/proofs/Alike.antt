-- Two lists that are all alike have as many triangles, each alike.
use mathlib.Core.Path.{◌≡◌, refl, ap}
use mathlib.Core.List.{List, [], ◌∷◌}
use Prim.Native.Nat.{ℕ, zero, suc, ◌<◌}
use native.Mathlib.Nat.{not-suc-le-zero, le_of_suc-le-suc}
use lib.ListN.{length}
use Rattle.strip.specs.Strip.{Corners, corners}
use Rattle.strip.specs.Reading.{Alike, AllAlike, none, more, nth, reading, read_strip}

pub as_many : {ts us : List Corners} → AllAlike ts us → length ts ≡ length us
as_many none = refl
as_many (more a r) = ap suc (as_many r)

pub each_alike : {ts us : List Corners} → AllAlike ts us → (i : ℕ) → i < length us → Alike (nth ts i) (nth us i)
each_alike none i l = absurd (not-suc-le-zero l)
each_alike (more a r) zero l = a
each_alike (more a r) (suc i) l = each_alike r i (le_of_suc-le-suc l)

pub read_dropped : read_strip (5 ∷ 5 ∷ 6 ∷ 6 ∷ 7 ∷ 6 ∷ 8 ∷ []) ≡ corners 7 6 8 ∷ []
unfolding reading
read_dropped = refl
