-- How the code passes the ring: each uncut triangle with the sides by which the strip comes in and goes out, and the places that it lays. No rule
-- rests on it. Definitions only.
use Rattle.std.specs.Prelude.{◌≡◌, Bool, true, false, cond, not, Option, Some, None, option_map, List, [], ◌∷◌, ◌++◌, ◌≢◌, ℕ, zero, suc, ◌+◌, ◌-◌, ◌*◌, ◌^◌, ◌≤◌, ◌<◌, length}
use Rattle.grid.specs.Grid.{midplace, side, largest}
use Rattle.grid.specs.Points.{odd}
use Rattle.grid.specs.Refusal.{accepted, number}
use Rattle.grid.specs.declared.refusals.Refusal.{Refusal}
use Rattle.grid.specs.declared.refusals.Refusal.TheVariants.{NoRoom}
use Rattle.mesh.specs.Meshed.{Handed}
use Rattle.mesh.specs.Inner.{kept_place, Corners, Put}
use Rattle.strip.specs.Stripped.{refusal, answer_of}
use Rattle.strip.specs.declared.Stripped.{Stripped}
use Rattle.strip.specs.declared.ring.Side.{Side}
use Rattle.strip.specs.declared.ring.Side.TheVariants.{Leg, Longest}
use Rattle.strip.specs.declared.ring.Passage.{Passage}
use Rattle.strip.specs.declared.ring.Laying.{Laying}

abbrev pub passage : ℕ → ℕ → ℕ → ℕ → Option Side → Option Side → Passage
passage l a r k comes goes = record { l = l; a = a; r = r; left = k; comes = comes; goes = goes }

-- of the running pair, whether the newer place is the corner at which the strip comes in; and the index of the next place
pub record Running : Type 0 where
  pub near : Bool
  pub at : ℕ

abbrev pub runs : Bool → ℕ → Running
runs near at = record { near = near; at = at }

-- a half's longest side is a leg of the whole, and on the whole's longest side lies a leg of the half
abbrev pub exchanged : Side → Side
exchanged Leg = Longest
exchanged Longest = Leg

abbrev pub across : Option Side → Option Side
across side = option_map exchanged side

-- The uncut triangles that (l, a, r), with k cuts left, leads to, by places, in their order. The strip comes into the first half by the same side as
-- into the whole, and out of the second half likewise; from the first half to the second it goes by the leg that they share.
unfoldable pub passages : (ℕ → Bool) → ℕ → ℕ → ℕ → ℕ → Option Side → Option Side → List Passage
passages kept zero l a r comes goes = passage l a r zero comes goes ∷ []
passages kept (suc k) l a r comes goes =
    cond (kept (midplace l r))
    (passages kept k l (midplace l r) a (across comes) (Some Leg) ++ passages kept k a (midplace l r) r (Some Leg) (across goes))
    (passage l a r (suc k) comes goes ∷ [])

-- the halves of one that is cut
abbrev pub first_half : Passage → Passage
first_half t = passage t.l (midplace t.l t.r) t.a (t.left - 1) (across t.comes) (Some Leg)

abbrev pub second_half : Passage → Passage
second_half t = passage t.a (midplace t.l t.r) t.r (t.left - 1) (Some Leg) (across t.goes)

abbrev pub passages_of : List ℕ → Passage → List Passage
passages_of marks t = passages (kept_place marks) t.left t.l t.a t.r t.comes t.goes

-- the whole ring: the starting triangles share the diagonal
unfoldable pub ring_of : (ℕ → Bool) → ℕ → List Passage
ring_of kept m =
    let n = side m in
    passages kept (2 * m) 0 n (n * (n + 1) + n) None (Some Longest) ++ passages kept (2 * m) (n * (n + 1) + n) (n * (n + 1)) 0 (Some Longest) None

-- whether a turn is needed: a leg's way out does not have l, and the longest side's has it but not the other end of the leg; the last triangle has none
abbrev pub turns_by : Option Side → Bool → Bool
turns_by None near = false
turns_by (Some Leg) near = near
turns_by (Some Longest) near = not near

-- of the leg from l to a, the corner on the way out
abbrev pub shared_by : Option Side → Passage → ℕ
shared_by None t = t.a
shared_by (Some Leg) t = t.a
shared_by (Some Longest) t = t.l

-- what a triangle lays, and the running pair behind it
pub record Step : Type 0 where
  pub places : List ℕ
  pub next : Running

abbrev pub step : List ℕ → Bool → Running → Step
step places near s = record { places = places; next = runs near (s.at + length places) }

-- on to the third corner
abbrev pub gone_on : Passage → ℕ → ℕ → Bool → Running → Step
gone_on t older third near s =
    cond (turns_by t.goes s.near) (step (older ∷ third ∷ []) near s) (step (third ∷ []) near s)

-- the first triangle, begun with three places of which the last two are its way out
abbrev pub begun_by : ℕ → ℕ → ℕ → Bool → Running → Step
begun_by p q w near s = step (p ∷ q ∷ w ∷ []) near s

abbrev pub first_by : Option Side → Bool → Passage → Running → Step
first_by (Some Longest) true t s = begun_by t.a t.l t.r true s
first_by (Some Longest) false t s = begun_by t.a t.r t.l false s
first_by (Some Leg) true t s = begun_by t.l t.r t.a false s
first_by (Some Leg) false t s = begun_by t.l t.a t.r true s
first_by None true t s = begun_by t.l t.r t.a false s
first_by None false t s = begun_by t.l t.a t.r true s

abbrev pub first_of : Passage → Running → Step
first_of t s = first_by t.goes (odd t.left) t s

abbrev pub taken_by : Option Side → Passage → Running → Step
taken_by None t s = first_of t s
taken_by (Some Leg) t s = gone_on t (shared_by t.goes t) t.r true s
taken_by (Some Longest) t s = gone_on t t.r t.a false s

abbrev pub taken : Passage → Running → Step
taken t s = taken_by t.comes t s

-- what a list of passages lays from a running pair on, and where it leaves off
unfoldable pub laid : Running → List Passage → List ℕ
laid s [] = []
laid s (t ∷ ts) = (taken t s).places ++ laid (taken t s).next ts

unfoldable pub ran : Running → List Passage → Running
ran s [] = s
ran s (t ∷ ts) = ran (taken t s).next ts

-- before the first triangle there is no running pair
abbrev pub outset : Running
outset = runs false 0

-- an index that leaves room for more
abbrev pub Short : ℕ → Type 0
Short at = at < 2 ^ 32

-- a list was laid from an index on, next being the index behind it, and where there was room for it all it was written
pub record Laid (list : List ℕ) (at : ℕ) (buffer : List ℕ) (next : ℕ) (buffer' : List ℕ) : Type 0 where
  pub behind : next ≡ at + length list
  pub long : length buffer' ≡ length buffer
  pub holds : at + length list ≤ length buffer → Put list at buffer next buffer'

-- as the strip is laid, from one state to another in the same lent places: a list was laid, and behind it the newer place is so
pub record Lays (list : List ℕ) (near : Bool) (g g' : Laying) : Type 0 where
  pub lent : g'.places.ghost_name ≡ g.places.ghost_name
  pub newer : g'.near ≡ near
  pub laid : Laid list g.at g.places.now g'.at g'.places.now

-- its running pair
abbrev pub pair : Laying → Running
pair g = runs g.near g.at

-- by one step, and by all that a list of passages lays
abbrev pub Steps : Step → Laying → Laying → Type 0
Steps s g g' = Lays s.places s.next.near g g'

abbrev pub Passes : List Passage → Laying → Laying → Type 0
Passes ts g g' = Lays (laid (pair g) ts) (ran (pair g) ts).near g g'

-- what a pass asks: three corners at which marks stand, no more cuts left than the largest size has, and an index within bounds (a triangle lays at most
-- three places)
pub record Passable (marks : List ℕ) (t : Passage) (s : Running) : Type 0 where
  pub corners : Corners marks t.l t.a t.r
  pub few : t.left ≤ 2 * largest
  pub short : s.at + 3 * 2 ^ t.left ≤ 2 ^ 20

-- what a refusal answers: its number, and with a want of room what is needed
abbrev pub needed_by : Refusal → ℕ
needed_by (NoRoom needed) = needed
needed_by _ = 0

abbrev pub refusing : Refusal → Stripped
refusing r = record { refusal = number r; places = needed_by r }

-- what is told before anything is written, where it is turned down: the whole answer
pub record Refused (h : Handed) (r : Stripped) : Type 0 where
  pub some : refusal h ≢ accepted
  pub answer : r ≡ answer_of h
