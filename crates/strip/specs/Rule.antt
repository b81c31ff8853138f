-- K1's sentences, as records. A call meets the promise just where `Follows` holds; of an accepted call `Told` holds besides. What the marks
-- may be, when a set is closed and which triangles the square leads to are mesh's sentences. Definitions only.
use Rattle.std.specs.Prelude.{◌≡◌, List, [], ◌∷◌, ◌++◌, ◌⊎◌, ◌≢◌, ℕ, suc, ◌*◌, ◌≤◌, ◌<◌, length, take, drop}
use Rattle.grid.specs.Grid.{largest, samples}
use Rattle.grid.specs.Refusal.{accepted, no_room}
use Rattle.selection.specs.Rule.{Closed}
use Rattle.mesh.specs.Triangles.{Three}
use Rattle.mesh.specs.Meshed.{Handed, handed, kept_of, entries_each, Meshes}
use Rattle.mesh.specs.Rule.{Good, Kept, Uncut, Turned as TurnedDown}
use Rattle.mesh.specs.declared.Meshed.{Meshed}
use Rattle.strip.specs.Strip.{Corners, corners, placed}
use Rattle.strip.specs.Reading.{Alike, AllAlike, read_strip, threes, Neighbours, nth}
use Rattle.strip.specs.Stripped.{triangles_of}
use Rattle.strip.specs.declared.Stripped.{Stripped}

-- a place is a corner of a triangle
abbrev pub Corner : Corners → ℕ → Type 0
Corner t p = (p ≡ t.first) ⊎ ((p ≡ t.second) ⊎ (p ≡ t.third))

-- a place is on the way out of a triangle: a corner of it and of the next (neighbours share a whole side, so it is on that side)
pub record OnWay (t next : Corners) (p : ℕ) : Type 0 where
  pub here : Corner t p
  pub there : Corner next p

-- the corner of a triangle beside the running pair, by which the strip comes in
pub record Third (older newer : ℕ) (t : Corners) (new : ℕ) : Type 0 where
  pub old : Corner t older
  pub young : Corner t newer
  pub third : Corner t new
  pub not_older : new ≢ older
  pub not_newer : new ≢ newer

-- The strip goes on from a running pair. Each triangle gives its new place; where a turn needs it, that is where the newer place is not on the way out,
-- the older place is repeated before the new one, and nowhere else. The last triangle needs no turn.
pub data Goes : ℕ → ℕ → List Corners → List ℕ → Type 0 where
  last : {older newer new : ℕ} {t : Corners} → Third older newer t new → Goes older newer (t ∷ []) (new ∷ [])
  straight : {older newer new : ℕ} {t next : Corners} {ts : List Corners} {places : List ℕ} → Third older newer t new → OnWay t next newer →
      Goes newer new (next ∷ ts) places → Goes older newer (t ∷ next ∷ ts) (new ∷ places)
  turn : {older newer new : ℕ} {t next : Corners} {ts : List Corners} {places : List ℕ} → Third older newer t new → ¬ (OnWay t next newer) →
      Goes older new (next ∷ ts) places → Goes older newer (t ∷ next ∷ ts) (older ∷ new ∷ places)

-- the first triangle, turning as it does, starts at the corner that makes its way out its last two places
pub data Strip : List Corners → List ℕ → Type 0 where
  starts : {p q w : ℕ} {t next : Corners} {ts : List Corners} {places : List ℕ} → Alike (corners p q w) t →
      OnWay t next q → OnWay t next w → q ≢ w → ¬ (OnWay t next p) → Goes q w (next ∷ ts) places → Strip (t ∷ next ∷ ts) (p ∷ q ∷ w ∷ places)

-- What K1 asks of the triangles of a closed set, at least two, and of their strip.
pub record OneStrip (triangles : List Corners) (strip : List ℕ) : Type 0 where
  -- neighbours in the list share a whole side,
  pub neighbours : (i : ℕ) → suc i < length triangles → Neighbours (nth triangles i) (nth triangles (suc i))
  -- and the last shares one with the first
  pub ring : {n : ℕ} → length triangles ≡ suc n → Neighbours (nth triangles n) (nth triangles 0)
  -- the strip starts, goes on, turns and ends as the sentences say
  pub goes : Strip triangles strip
  -- read by the usual rule, it gives exactly the triangles of the list, in that order and turning the same way
  pub reads : AllAlike (read_strip strip) triangles
  -- at most 2T places
  pub most : length strip ≤ 2 * length triangles

-- a strip of the plain list: of the uncut triangles that the square leads to, by the points that the marks keep
pub record StripOf (h : Handed) (strip : List ℕ) : Type 0 where
  pub triangles : List Three
  pub uncut : Uncut h.m (kept_of h) triangles
  pub goes : Strip (placed h.m triangles) strip

-- marks that nothing is said against
pub record Taken (h : Handed) : Type 0 where
  pub size : h.m ≤ largest
  pub long : length h.marks ≡ samples h.m
  pub good : Good h
  pub closed : Closed h.m (Kept h)

-- Each refusal number with its case, and 0 where nothing is turned down: 1, 2, 6, 7 as for triangles, then 8.
pub data Turned (h : Handed) : ℕ → Type 0 where
  as_triangles : {n : ℕ} → TurnedDown h n → n ≢ no_room → n ≢ accepted → Turned h n
  room : Taken h → {strip : List ℕ} → StripOf h strip → length h.places < length strip → Turned h no_room
  nothing : Taken h → {strip : List ℕ} → StripOf h strip → length strip ≤ length h.places → Turned h accepted

-- a call follows K1
pub record Follows (h : Handed) (r : Stripped) (places' : List ℕ) : Type 0 where
  pub turned : Turned h r.refusal
  -- every number handed back is 0 on a refusal,
  pub none : r.refusal ≢ no_room → r.refusal ≢ accepted → r.places ≡ 0
  -- except what is given with 8, the places needed; an accepted call answers the number of places
  pub number : (r.refusal ≡ no_room) ⊎ (r.refusal ≡ accepted) → {strip : List ℕ} → StripOf h strip → r.places ≡ length strip
  -- nothing is written on a refusal
  pub untouched : r.refusal ≢ accepted → places' ≡ h.places
  -- accepted: the strip; entries past the last are untouched
  pub written : r.refusal ≡ accepted → {strip : List ℕ} → StripOf h strip → places' ≡ strip ++ drop (length strip) h.places

-- what follows for an accepted call, of the places that it wrote
pub record Told (h : Handed) (r : Stripped) (places' : List ℕ) : Type 0 where
  -- what K1 asks, of the triangles of the plain list
  pub one : OneStrip (triangles_of h) (take r.places places')
  -- beside what triangles writes of the same marks, with whichever room: read back, the strip gives that very list, in at most two places a triangle
  pub listed : (lent : List ℕ) {n : Meshed} {list : List ℕ} → Meshes (handed h.marks h.m lent) n list → n.refusal ≡ accepted →
      AllAlike (read_strip (take r.places places')) (threes (take (entries_each * n.triangles) list))
  pub short : (lent : List ℕ) {n : Meshed} {list : List ℕ} → Meshes (handed h.marks h.m lent) n list → n.refusal ≡ accepted →
      r.places ≤ 2 * n.triangles
