-- On from a running pair the passages lay what the definition says, it follows K1's sentences, and it reads back as the triangles. The pair, turned
-- over as the next three places are, runs along the side by which the strip comes in; so does the pair behind the triangle, where the newer place is on
-- the way out, by one place more, and where the older is, by two, of which the first makes a window with a repeated place.
use mathlib.Core.Path.{◌≡◌, refl, sym, ap}
use mathlib.Core.Bool.{Bool, true, false, not, not-not}
use mathlib.Core.List.{List, [], ◌∷◌}
use mathlib.Core.Logic.{◌≢◌, inl, inr, ne_comm}
use Prim.Native.Nat.{ℕ, ◌+◌}
use Rattle.strip.specs.Strip.{Corners, corners, has, other_than, going_on}
use Rattle.strip.specs.Reading.{turned, reading, Alike, AllAlike, none, more as and}
use Rattle.strip.specs.Rule.{Third, Goes as GoesOn, last, straight, turn as turning}
use Rattle.strip.specs.Inner.{Running, runs, taken, laid}
use Rattle.strip.specs.declared.ring.Passage.{Passage}
use Rattle.strip.proofs.Corner.{on_way, off_way}
use Rattle.strip.proofs.Turns.{turn, differ, Apart, apart}
use Rattle.strip.proofs.Passing.{nowhere, side, Begun, first, second, third, Entered, Lays, onward, back, ends, Run, one, more}
use Rattle.strip.proofs.Sharing.{same, next, turns, corner_first, both, not_shared}
use Rattle.strip.proofs.Determined.{third_only}
use Rattle.strip.proofs.Joined.{head}

pub alike : {x y z : ℕ} {t : Corners} → Begun x y z t → Alike (corners x y z) t
alike first = inl refl
alike second = inr (inl refl)
alike third = inr (inr refl)

-- the strip comes into t by a running pair, from which it goes on to the third corner
record Stands (over : Bool) (o n z : ℕ) (t : Corners) : Type 0 where
  alike : Alike (turned over o n z) t
  apart : Apart o n z
  differ : o ≢ n
  third : Third o n t z

-- in either order
stands : {m x y z : ℕ} {t : Corners} → Entered m t x y z → Stands false x y z t × Stands true y x z t
stands e =
    let c = turns e.begun e.turns in
    let a = apart c in
    let d = differ c in
    let x = corner_first e.begun in
    let y = corner_first (next e.begun) in
    let z = corner_first (next (next e.begun)) in
    let p = differ (turn (turn c)) in
    let q = ne_comm.0 (differ (turn c)) in (
      record {
        alike = alike e.begun;
        apart = a;
        differ = d;
        third = record { old = x; young = y; third = z; not_older = p; not_newer = q };
      },
      record {
        alike = alike e.begun;
        apart = record { xy = a.yx; yx = a.xy; yz = a.xz; zy = a.zx; zx = a.zy; xz = a.yz };
        differ = ne_comm.0 d;
        third = record { old = y; young = x; third = z; not_older = q; not_newer = p };
      },
    )

-- near: the newer place is the corner at which the strip comes in
pub record Goes (over : Bool) (o n : ℕ) (near : Bool) (ps : List Passage) (ts : List Corners) : Type 0 where
  pub lays : (i : ℕ) → laid (runs near i) ps ≡ going_on o n ts
  pub rule : GoesOn o n ts (going_on o n ts)
  pub reads : AllAlike (reading over (o ∷ n ∷ going_on o n ts)) ts

-- turned over, a pair runs the other way
swap : (over : Bool) (o n z : ℕ) → turned (not over) n o z ≡ turned over o n z
swap false o n z = refl
swap true o n z = refl

other : {over : Bool} {o n z : ℕ} {t : Corners} → Stands over o n z t → other_than o n t ≡ z
other s = sym (third_only s.differ s.third)

module _ {over near : Bool} {o n z : ℕ} {p : Passage} {t : Corners} (s : Stands over o n z t) where
  -- the last triangle needs no turn
  go_last : ((s : Running) → (taken p s).places ≡ z ∷ []) → Goes over o n near (p ∷ []) (t ∷ [])
  unfolding laid going_on reading
  go_last e =
      let a = s.apart in
      record {
        lays = λ i. rw (e (runs near i), other s);
        rule = rw (other s) (last s.third);
        reads = rw (other s, a.xy, a.yz, a.zx) (and s.alike none);
      }

  module _ {near' : Bool} {q : Passage} {ps : List Passage} {u : Corners} {ts : List Corners} where
    -- the newer place is on the way out
    go_on : Lays p near (z ∷ []) near' → has u n ≡ true → Goes (not over) n z near' (q ∷ ps) (u ∷ ts) → Goes over o n near (p ∷ q ∷ ps) (t ∷ u ∷ ts)
    unfolding laid going_on reading
    go_on e f g =
        let a = s.apart in
        record {
          lays = λ i. rw (e i, other s, f) (ap (λ (l : List ℕ). z ∷ l) (g.lays (i + 1)));
          rule = rw (other s, f) (straight s.third ((on_way u s.third.young).0 f) g.rule);
          reads = rw (other s, f, a.xy, a.yz, a.zx) (and s.alike g.reads);
        }

    -- the older is: it is repeated
    go_turn : Lays p near (o ∷ z ∷ []) near' → has u n ≡ false → Goes over o z near' (q ∷ ps) (u ∷ ts) → Goes over o n near (p ∷ q ∷ ps) (t ∷ u ∷ ts)
    unfolding laid going_on reading
    go_turn e f g =
        let a = s.apart in
        record {
          lays = λ i. rw (e i, other s, f) (ap (λ (l : List ℕ). o ∷ z ∷ l) (g.lays (i + 2)));
          rule = rw (other s, f) (turning s.third ((off_way u s.third.young).0 f) g.rule);
          reads = rw (other s, f, a.xy, a.yx, same o, a.xz, a.zy, swap over o n z, not-not over) (and s.alike g.reads);
        }

module _ {m : ℕ} where
  pub goes : {x y : ℕ} {b : Bool} {ps : List Passage} {ts : List Corners} → Run m (side x y b) ps ts nowhere →
      Goes false x y b ps ts × Goes true y x (not b) ps ts
  goes (one (ends e on)) = let s = stands e in (go_last s.0 on, go_last s.1 on)
  goes (more (onward e on turned) r) =
      let s = stands e in
      let c = turns e.begun e.turns in
      let g = (goes r).1 in (go_on s.0 on (both (head r)).1 g, go_turn s.1 turned (not_shared (turn c) (head r)) g)
  goes (more (back e on turned) r) =
      let s = stands e in
      let c = turns e.begun e.turns in
      let g = (goes r).0 in (go_turn s.0 turned (not_shared (turn (turn c)) (head r)) g, go_on s.1 on (both (head r)).0 g)
