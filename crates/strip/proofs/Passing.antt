-- The strip comes into a triangle of the ring by one of its sides and goes out by another: by which corners, in which direction, for each passage.
-- And two runs of triangles follow one another where the second comes in by the side by which the first goes out.
use mathlib.Core.Path.{◌≡◌, refl}
use mathlib.Core.Bool.{Bool, true, false, cond, not}
use mathlib.Core.List.{List, [], ◌∷◌, ◌++◌}
use Prim.Native.Nat.{ℕ}
use Rattle.std.specs.Prelude.{Option, Some, None}
use Rattle.grid.specs.Points.{odd}
use Rattle.strip.specs.Strip.{Corners, corners}
use Rattle.strip.specs.Inner.{passage, Running, runs, step, begun_by, taken}
use Rattle.strip.specs.declared.ring.Side.{Side}
use Rattle.strip.specs.declared.ring.Side.TheVariants.{Leg, Longest}
use Rattle.strip.specs.declared.ring.Passage.{Passage}
use Rattle.strip.proofs.Turns.{Turns}

-- A side that the strip crosses, from a corner to another: counter-clockwise around the triangle that it comes into, so clockwise around the one that
-- it goes out of; and whether the corner at which it crosses, r of the one and l of the other, is the second end. Or none, before the first triangle and
-- behind the last.
pub data Gate : Type 0 where
  nowhere : Gate
  side : ℕ → ℕ → Bool → Gate

-- that at v of a triangle (v, a, w): as the strip comes into (l, a, r) at l, and as it goes out of it at r
abbrev pub gate : Option Side → Bool → ℕ → ℕ → ℕ → Gate
gate None isodd v a w = nowhere
gate (Some Leg) isodd v a w = side (cond isodd a v) (cond isodd v a) isodd
gate (Some Longest) isodd v a w = side (cond isodd v w) (cond isodd w v) (not isodd)

-- a triangle, with one or another of its corners first, is x, y, z
pub data Begun : ℕ → ℕ → ℕ → Corners → Type 0 where
  first : {x y z : ℕ} → Begun x y z (corners x y z)
  second : {x y z : ℕ} → Begun x y z (corners z x y)
  third : {x y z : ℕ} → Begun x y z (corners y z x)

-- as it is listed: by whether its cuts left are odd
abbrev pub listed : Bool → ℕ → ℕ → ℕ → Corners
listed isodd l a r = cond isodd (corners r a l) (corners l a r)

abbrev pub Turning : ℕ → Corners → Type 0
Turning m t = Turns m t.first t.second t.third

-- the strip comes in by the side from x to y, and goes on to the third corner, z
pub record Entered (m : ℕ) (t : Corners) (x y z : ℕ) : Type 0 where
  pub begun : Begun x y z t
  pub turns : Turning m t

-- from a running pair, newer at the corner or not, the triangle lays such places, behind which the newer is at the next corner or not
abbrev pub Lays : Passage → Bool → List ℕ → Bool → Type 0
Lays p near places next = (i : ℕ) → taken p (runs near i) ≡ step places next (runs near i)

-- A triangle passed from side to side: to its third corner and out by the side from there to y, or by that to x; straight on where the newer place is on
-- the way out, else with a turn. The first triangle has only a way out, the last one none.
pub data Passed (m : ℕ) : Gate → Passage → Corners → Gate → Type 0 where
  begins : {p : Passage} {t : Corners} {x y z : ℕ} {b : Bool} → Begun z y x t → Turning m t → ((s : Running) → taken p s ≡ begun_by z y x (not b) s) →
      Passed m nowhere p t (side x y b)
  onward : {p : Passage} {t : Corners} {x y z : ℕ} {b c : Bool} → Entered m t x y z → Lays p b (z ∷ []) (not c) →
      Lays p (not b) (y ∷ z ∷ []) (not c) → Passed m (side x y b) p t (side z y c)
  back : {p : Passage} {t : Corners} {x y z : ℕ} {b c : Bool} → Entered m t x y z → Lays p (not b) (z ∷ []) c →
      Lays p b (x ∷ z ∷ []) c → Passed m (side x y b) p t (side x z c)
  ends : {p : Passage} {t : Corners} {x y z : ℕ} {b : Bool} → Entered m t x y z → ((s : Running) → (taken p s).places ≡ z ∷ []) →
      Passed m (side x y b) p t nowhere

-- the sides by which the strip comes in and goes out: never by the longest both times
pub data Ways : Option Side → Option Side → Type 0 where
  legs : {s : Option Side} → Ways s (Some Leg)
  over : Ways (Some Leg) (Some Longest)
  stops : Ways (Some Leg) None
  starts : Ways None (Some Longest)
  closes : Ways (Some Longest) None

pub by_leg : (s : Option Side) → Ways (Some Leg) s
by_leg None = stops
by_leg (Some Leg) = legs
by_leg (Some Longest) = over

module _ {m : ℕ} (l a r k : ℕ) where
  leg_even : Turning m (corners l a r) → Entered m (corners l a r) l a r
  leg_even c = record { begun = first; turns = c }

  leg_odd : Turning m (corners r a l) → Entered m (corners r a l) a l r
  leg_odd c = record { begun = second; turns = c }

  longest_even : Turning m (corners l a r) → Entered m (corners l a r) r l a
  longest_even c = record { begun = third; turns = c }

  longest_odd : Turning m (corners r a l) → Entered m (corners r a l) l r a
  longest_odd c = record { begun = third; turns = c }

  pub passed : {comes goes : Option Side} → Ways comes goes → (b : Bool) → odd k ≡ b → Turning m (listed b l a r) →
      Passed m (gate comes b l a r) (passage l a r k comes goes) (listed b l a r) (gate goes b r a l)
  passed (legs {s = None}) false e c = begins {p = passage l a r k None (Some Leg)} {b = false} first c (λ s. rw e)
  passed (legs {s = None}) true e c = begins {p = passage l a r k None (Some Leg)} {b = true} third c (λ s. rw e)
  passed (legs {s = (Some Leg)}) false e c = onward (leg_even c) (λ i. refl) (λ i. refl)
  passed (legs {s = (Some Leg)}) true e c = back (leg_odd c) (λ i. refl) (λ i. refl)
  passed (legs {s = (Some Longest)}) false e c = back (longest_even c) (λ i. refl) (λ i. refl)
  passed (legs {s = (Some Longest)}) true e c = onward (longest_odd c) (λ i. refl) (λ i. refl)
  passed over false e c = back (leg_even c) (λ i. refl) (λ i. refl)
  passed over true e c = onward (leg_odd c) (λ i. refl) (λ i. refl)
  passed stops false e c = ends (leg_even c) (λ s. refl)
  passed stops true e c = ends (leg_odd c) (λ s. refl)
  passed starts false e c = begins {p = passage l a r k None (Some Longest)} {b = true} second c (λ s. rw e)
  passed starts true e c = begins {p = passage l a r k None (Some Longest)} {b = false} second c (λ s. rw e)
  passed closes false e c = ends (longest_even c) (λ s. refl)
  passed closes true e c = ends (longest_odd c) (λ s. refl)

-- passed one after another
pub data Run (m : ℕ) : Gate → List Passage → List Corners → Gate → Type 0 where
  one : {g h : Gate} {p : Passage} {t : Corners} → Passed m g p t h → Run m g (p ∷ []) (t ∷ []) h
  more : {g h : Gate} {p q : Passage} {ps : List Passage} {t u : Corners} {ts : List Corners} {x y : ℕ} {b : Bool} → Passed m g p t (side x y b) →
      Run m (side x y b) (q ∷ ps) (u ∷ ts) h → Run m g (p ∷ q ∷ ps) (t ∷ u ∷ ts) h

module _ {m : ℕ} where
  behind : {g h : Gate} {p : Passage} {ps : List Passage} {t : Corners} {ts : List Corners} {x y : ℕ} {b : Bool} → Passed m g p t (side x y b) →
      Run m (side x y b) ps ts h → Run m g (p ∷ ps) (t ∷ ts) h
  behind s (one z) = more s (one z)
  behind s (more z r) = more s (more z r)

  pub follow : {g h : Gate} {ps qs : List Passage} {ts us : List Corners} {x y : ℕ} {b : Bool} → Run m g ps ts (side x y b) → Run m (side x y b) qs us h →
      Run m g (ps ++ qs) (ts ++ us) h
  follow (one s) r = behind s r
  follow (more s q) r = more s (follow q r)

  pub cast : {g g' h h' : Gate} {ps ps' : List Passage} {ts ts' : List Corners} → g' ≡ g → ps' ≡ ps → ts' ≡ ts → h' ≡ h →
      Run m g ps ts h → Run m g' ps' ts' h'
  cast p q s w r = rw (p, q, s, w) r
