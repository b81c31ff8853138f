-- Document 01's sentences about triangles, as records. A call meets the promise just where `Follows` holds; of an accepted call `Told`
-- holds besides; of the triangles that cutting passes through (`Met`), `Staged`. The order of corners is `written`, the
-- places are `places_of` (both in `Writing`), a mark that keeps its point is `kept_mark`. Definitions only.
use Rattle.std.specs.Prelude.{◌≡◌, Bool, true, ◌↔◌, ◌≢◌, ℕ, suc, ◌+◌, ◌*◌, ◌%◌, ◌≤◌, ◌<◌, length, get_or, drop}
use mathlib.Core.List.{List, [], ◌∷◌, ◌++◌, Memᴰ}
use Rattle.grid.specs.Grid.{largest, samples, side, at, place, point, Inside}
use Rattle.grid.specs.Points.{is_corner}
use Rattle.grid.specs.Mark.{good_mark}
use Rattle.grid.specs.Sizes.{size_of}
use Rattle.grid.specs.Refusal.{accepted, size_above, wrong_length, bad_mark, not_closed, no_room}
use Rattle.grid.specs.Hierarchy.{Stage, Apex}
use Rattle.grid.specs.Turn.{CounterClockwise}
use Rattle.grid.specs.declared.points.Point.{Point}
use Rattle.selection.specs.Marks.{mark_at}
use Rattle.selection.specs.Rule.{Closed}
use Rattle.mesh.specs.Triangles.{Three, three, written, places_of, number}
use Rattle.mesh.specs.Meshed.{Handed, kept_of, entries_each}
use Rattle.mesh.specs.declared.Meshed.{Meshed}

-- good marks: 3 at grid corners and 0, 1, 2, 4, 6 elsewhere
abbrev pub Good : Handed → Type 0
Good h = (p : Point) → Inside h.m p → good_mark (is_corner h.m p) (mark_at h.m h.marks p) ≡ true

-- the points whose mark is 1, 2, 3 or 6 (of points outside the square it means nothing)
abbrev pub Kept : Handed → Point → Type 0
Kept h p = kept_of h p ≡ true

-- c is a kept sample, the midpoint of l and r
pub record CutAt (m : ℕ) (kept : Point → Bool) (l r c : Point) : Type 0 where
  pub east : 2 * c.x ≡ l.x + r.x
  pub north : 2 * c.y ≡ l.y + r.y
  pub sample : Inside m c
  pub keeps : kept c ≡ true

-- The uncut triangles, each as it is written, that (l, a, r), made by so many cuts, leads to. Where its l-r midpoint is a kept sample it
-- is cut there, at c: those that (l, c, a) leads to, then those that (a, c, r) leads to. Else it is uncut: it alone.
pub data Leads (m : ℕ) (kept : Point → Bool) : ℕ → Point → Point → Point → List Three → Type 0 where
  whole : {cuts : ℕ} {l a r : Point} → ((c : Point) → ¬ (CutAt m kept l r c)) → Leads m kept cuts l a r (written cuts l a r ∷ [])
  halves : {cuts : ℕ} {l a r : Point} {ts us : List Three} (c : Point) → CutAt m kept l r c →
      Leads m kept (suc cuts) l c a ts → Leads m kept (suc cuts) a c r us → Leads m kept cuts l a r (ts ++ us)

-- the triangles that cutting passes through, cut or not, each with the number of cuts that made it
pub data Met (m : ℕ) (kept : Point → Bool) : ℕ → Point → Point → Point → Type 0 where
  first : Met m kept 0 (at 0 0) (at (side m) 0) (at (side m) (side m))
  second : Met m kept 0 (at (side m) (side m)) (at 0 (side m)) (at 0 0)
  first_half : {cuts : ℕ} {l a r c : Point} → Met m kept cuts l a r → CutAt m kept l r c → Met m kept (suc cuts) l c a
  second_half : {cuts : ℕ} {l a r c : Point} → Met m kept cuts l a r → CutAt m kept l r c → Met m kept (suc cuts) a c r

-- After an even number of cuts a triangle is cut at a block centre, and its halves at edge midpoints; and the other way about. At its apex two equal
-- sides stand at a right angle, so l to r is the longest. (By the cuts made: these and the cuts left are 2m in all.)
pub record Staged (m : ℕ) (kept : Point → Bool) : Type 0 where
  pub stage : {cuts : ℕ} {l a r c : Point} → Met m kept cuts l a r → CutAt m kept l r c → Stage m (suc cuts) c
  pub apex : {cuts : ℕ} {l a r : Point} → Met m kept cuts l a r → Apex cuts l a r

-- how a triangle is written: l, a, r after an even number of cuts; r, a, l after an odd number; three sample places
pub record Writing (m : ℕ) : Type 0 where
  pub even : (cuts : ℕ) (l a r : Point) → cuts % 2 ≡ 0 → written cuts l a r ≡ three l a r
  pub odd : (cuts : ℕ) (l a r : Point) → cuts % 2 ≡ 1 → written cuts l a r ≡ three r a l
  pub places : (p q w : Point) (ts : List Three) → places_of m (three p q w ∷ ts) ≡ place m p ∷ place m q ∷ place m w ∷ places_of m ts

-- the uncut triangles that the square leads to
pub record Uncut (m : ℕ) (kept : Point → Bool) (ts : List Three) : Type 0 where
  pub firsts : List Three
  pub seconds : List Three
  -- the square starts as ((0,0),(N,0),(N,N)),
  pub first : Leads m kept 0 (at 0 0) (at (side m) 0) (at (side m) (side m)) firsts
  -- then ((N,N),(0,N),(0,0))
  pub second : Leads m kept 0 (at (side m) (side m)) (at 0 (side m)) (at 0 0) seconds
  pub both : ts ≡ firsts ++ seconds

-- cutting at the points that the marks keep, closed or not, leaves n triangles
pub record Makes (h : Handed) (n : ℕ) : Type 0 where
  pub triangles : List Three
  pub uncut : Uncut h.m (kept_of h) triangles
  pub number : n ≡ length triangles

-- Each refusal number with its case, and 0 where nothing is turned down. A case asks that none before it holds: where several hold,
-- the first in the order 1, 2, 6, 7, 8 is given.
pub data Turned (h : Handed) : ℕ → Type 0 where
  -- m above 7
  size : largest < h.m → Turned h size_above
  -- the marks, one for each sample, not exactly (N+1)² long
  buffer : h.m ≤ largest → length h.marks ≢ samples h.m → Turned h wrong_length
  -- a mark that isn't good
  mark : h.m ≤ largest → length h.marks ≡ samples h.m → ¬ (Good h) → Turned h bad_mark
  -- good marks, set not closed
  unclosed : h.m ≤ largest → length h.marks ≡ samples h.m → Good h → ¬ (Closed h.m (Kept h)) → Turned h not_closed
  -- fewer than three entries per triangle
  room : h.m ≤ largest → length h.marks ≡ samples h.m → Good h → Closed h.m (Kept h) →
      {n : ℕ} → Makes h n → length h.places < entries_each * n → Turned h no_room
  -- none of these: 0, which document 01 leaves free
  nothing : h.m ≤ largest → length h.marks ≡ samples h.m → Good h → Closed h.m (Kept h) →
      {n : ℕ} → Makes h n → entries_each * n ≤ length h.places → Turned h accepted

-- a refused call: the number of triangles is 0, except with 8, and the buffer is untouched
pub record Untouched (h : Handed) (r : Meshed) (places' : List ℕ) : Type 0 where
  -- every number handed back is 0,
  pub none : r.refusal ≢ no_room → r.triangles ≡ 0
  -- except what is given with 8: the triangles needed
  pub need : r.refusal ≡ no_room → Makes h r.triangles
  -- the buffer stays untouched
  pub places : places' ≡ h.places

-- an accepted call
pub record Meshing (h : Handed) (r : Meshed) (places' : List ℕ) : Type 0 where
  pub triangles : List Three
  -- the uncut triangles that the square leads to, by the points that the marks keep,
  pub uncut : Uncut h.m (kept_of h) triangles
  -- are written, three sample places each; entries past the last one written are untouched
  pub places : places' ≡ places_of h.m triangles ++ drop (entries_each * length triangles) h.places
  -- the answer is the number of triangles
  pub answer : r.triangles ≡ length triangles

-- a call follows document 01
pub record Follows (h : Handed) (r : Meshed) (places' : List ℕ) : Type 0 where
  pub turned : Turned h r.refusal
  pub refused : r.refusal ≢ accepted → Untouched h r places'
  pub meshed : r.refusal ≡ accepted → Meshing h r places'

-- the three corners of a triangle
abbrev pub corners_of : Three → List Point
corners_of t = t.first ∷ t.second ∷ t.third ∷ []

-- the same corners, in whichever order they are written
abbrev pub Same : Three → Three → Type 0
Same t u = (p : Point) → Memᴰ p (corners_of t) ↔ Memᴰ p (corners_of u)

-- three samples that turn counter-clockwise (a positive doubled area), no two of them the same
pub record Proper (m : ℕ) (t : Three) : Type 0 where
  pub first : Inside m t.first
  pub second : Inside m t.second
  pub third : Inside m t.third
  pub turns : CounterClockwise t.first t.second t.third
  pub first_second : t.first ≢ t.second
  pub second_third : t.second ≢ t.third
  pub third_first : t.third ≢ t.first

-- triangle i of those written, as it is read: the points at three entries in a row
abbrev pub three_at : ℕ → List ℕ → ℕ → Three
three_at m places i =
    three (point m (get_or places (entries_each * i) 0)) (point m (get_or places (entries_each * i + 1) 0)) (point m (get_or places (entries_each * i + 2) 0))

-- what follows for an accepted call: document 01's other sentences, and one of ours
pub record Told (h : Handed) (r : Meshed) (places' : List ℕ) : Type 0 where
  -- 2, plus 2 for each kept point inside, plus 1 for each kept border point that is no grid corner
  pub number : r.triangles ≡ number h.m (kept_of h)
  -- the most triangles are 2N²
  pub most : r.triangles ≤ (size_of h.m).triangles
  -- three sample places each (a sample place is below (N+1)², so it fits 16 bits)
  pub sampled : (i : ℕ) → i < entries_each * r.triangles → get_or places' i 0 < samples h.m
  -- all turn counter-clockwise
  pub proper : (i : ℕ) → i < r.triangles → Proper h.m (three_at h.m places' i)
  -- ours: no two triangles written have the same three corners
  pub once : (i j : ℕ) → i < j → j < r.triangles → ¬ (Same (three_at h.m places' i) (three_at h.m places' j))
