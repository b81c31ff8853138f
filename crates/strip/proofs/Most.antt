-- A strip has at most two places for each triangle but the first, which has three, and the last, which has one.
use mathlib.Core.Bool.{Bool, true, false, cond}
use mathlib.Core.List.{List, [], ◌∷◌}
use Prim.Native.Nat.{ℕ, ◌+◌, ◌*◌, ◌≤◌}
use native.Mathlib.Omega.{arith}
use lib.ListN.{length}
use Rattle.strip.specs.Strip.{Corners, has, other_than, begun, going_on, strip_of}

going_most : (older newer : ℕ) (t : Corners) (ts : List Corners) → length (going_on older newer (t ∷ ts)) + 1 ≤ 2 * length (t ∷ ts)
unfolding going_on
going_most older newer t [] = omega arith
going_most older newer t (next ∷ ts) =
    let new = other_than older newer t in
    by (has next newer) _ _ (going_most newer new next ts) (going_most older new next ts)
  where
    by : (b : Bool) (on turn : List ℕ) → length on + 1 ≤ 2 * length (next ∷ ts) → length turn + 1 ≤ 2 * length (next ∷ ts) →
        length (cond b (other_than older newer t ∷ on) (older ∷ other_than older newer t ∷ turn)) + 1 ≤ 2 * length (t ∷ next ∷ ts)
    by true on turn h k = omega arith
    by false on turn h k = omega arith

pub most : (t next : Corners) (ts : List Corners) → length (strip_of (t ∷ next ∷ ts)) ≤ 2 * length (t ∷ next ∷ ts)
unfolding strip_of
most t next ts = let b = begun t next in omega (arith, going_most b.second b.third next ts)
