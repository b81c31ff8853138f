-- The twelve settled examples of document 01 as one table, `Settled`. Each row is what a public call promises at the input of an example, with
-- the answer and the buffers at exit in numbers; or, of an answered height or plane, what the promise says of it. Examples start from the survey:
-- triangles, height and plane are handed the very marks and heights that selection writes (but where m is 8, and for example 12's unclosed marks, which
-- are those with the middle set to 0). `ten_kept` says which points example 10's marks keep. Definitions only.
use Rattle.std.specs.Prelude.{◌≡◌, Bool, false, cond, not, ◌&&◌, List, [], ◌∷◌, map, ℕ, ◌≤◌, Err, ℤ, pos, neg_ℤ, replicate, set, Float}
use Rattle.std.specs.Float.Ieee.{to_bits}
use Rattle.grid.specs.Grid.{samples, at, is_void}
use Rattle.grid.specs.Points.{is_corner}
use Rattle.grid.specs.Refusal.{accepted, number}
use Rattle.grid.specs.Sizes.{size_answer}
use Rattle.grid.specs.declared.refusals.Refusal.TheVariants.{SizeAbove}
use Rattle.grid.specs.declared.points.Point.{Point}
use Rattle.selection.specs.Selected.{Handed as Surveying, handed as surveying, marks_after, heights_after, Selects}
use Rattle.selection.specs.declared.Selected.{Selected}
use Rattle.mesh.specs.Triangles.{points}
use Rattle.mesh.specs.Closed.{kept_by}
use Rattle.mesh.specs.Meshed.{Handed as Drawing, handed as drawing, Meshes}
use Rattle.mesh.specs.declared.Meshed.{Meshed}
use Rattle.strip.specs.Stripped.{Strips}
use Rattle.strip.specs.declared.Stripped.{Stripped}
use Rattle.aim.specs.Quotient.{format, Exactly}
use Rattle.aim.specs.Aimed.{Handed as Asking, handed as asking, said, height_at, no_ground, plane_at, plane_answer}
use Rattle.aim.specs.declared.HeightAnswer.TheVariants.{Surveyed, Filled, Refused}
use Rattle.aim.specs.declared.HeightAnswer.{HeightAnswer}
use Rattle.aim.specs.declared.PlaneAnswer.{PlaneAnswer}
use Rattle.surface.specs.Surface.{OneSurface}
use Rattle.listing.specs.Text.{text_in}

-- ---- the surveys, row by row from y = 0

-- a whole number below zero
abbrev pub minus : ℕ → ℤ
minus n = neg_ℤ (pos n)

-- P: the 3×3 grid, zero but 10 in the middle
abbrev pub grid_p : List ℤ
grid_p =
    pos 0 ∷ pos 0 ∷ pos 0 ∷
    pos 0 ∷ pos 10 ∷ pos 0 ∷
    pos 0 ∷ pos 0 ∷ pos 0 ∷ []

-- Q: the grid of the program's sample, 0 10 0 / 0 0 0 / 0 0 0
abbrev pub grid_q : List ℤ
grid_q =
    pos 0 ∷ pos 10 ∷ pos 0 ∷
    pos 0 ∷ pos 0 ∷ pos 0 ∷
    pos 0 ∷ pos 0 ∷ pos 0 ∷ []

-- corners (0,0) -3 and (2,2) -4, the rest 0, by what stands in the middle
abbrev pub middled : ℤ → List ℤ
middled middle =
    minus 3 ∷ pos 0 ∷ pos 0 ∷
    pos 0 ∷ middle ∷ pos 0 ∷
    pos 0 ∷ pos 0 ∷ minus 4 ∷ []

-- V: the middle is void
abbrev pub grid_v : List ℤ
grid_v = middled (minus 32_768)

-- example 10's: m = 2, zero but 10 at (1,0)
abbrev pub grid_ten : List ℤ
grid_ten =
    pos 0 ∷ pos 10 ∷ pos 0 ∷ pos 0 ∷ pos 0 ∷
    replicate 20 (pos 0)

-- ---- the calls

-- what a lent buffer holds before the call: nines, so that an entry left untouched is seen
abbrev pub nines : ℕ → List ℕ
nines n = replicate n 9

-- select: size m, tolerance t, a survey, and buffers of the right length
abbrev pub select : ℕ → ℕ → List ℤ → Surveying
select m t survey = surveying survey m t (nines (samples m)) (map pos (nines (samples m)))

-- triangles, after a selection, on the marks that it wrote: with so many entries of room
abbrev pub triangles : Surveying → ℕ → Drawing
triangles s room = drawing (marks_after s) s.m (nines room)

-- height and plane, after a selection, on the marks and the heights that it wrote: at (x, y), in quarter cells
abbrev pub query : Surveying → ℕ → ℕ → Asking
query s x y = asking (marks_after s) (heights_after s) s.m x y

-- ---- their answers, each with the refusal's number first, 0 for none

-- select: the counts of the points marked 1, of those marked 2 or 6, and of the voids
abbrev pub selected : ℕ → ℕ → ℕ → ℕ → Selected
selected number own dependent voids = record { refusal = number; own = own; dependent = dependent; voids = voids }

-- triangles: their number
abbrev pub meshed : ℕ → ℕ → Meshed
meshed number n = record { refusal = number; triangles = n }

-- strip: its number of places
abbrev pub stripped : ℕ → ℕ → Stripped
stripped number n = record { refusal = number; places = n }

-- a float is z / d exactly, and has these bits
pub record FloatIs (z : ℤ) (d word : ℕ) (x : Float) : Type 0 where
  pub exactly : Exactly format z d x
  pub bits : to_bits format x ≡ word

-- height is answered: Surveyed or Filled, with the height z / d, a float of these bits
pub record HeightIs (h : Asking) (answer : Float → HeightAnswer) (z : ℤ) (d word : ℕ) : Type 0 where
  pub value : Float
  pub answered : said (answer value) ≡ height_at h
  pub height : FloatIs z d word value

-- plane is answered: the height, the slope east and the slope north, whole numbers here, each with its float's bits
pub record PlaneIs (h : Asking) (z : ℤ) (word : ℕ) (e : ℤ) (east_word : ℕ) (n : ℤ) (north_word : ℕ) : Type 0 where
  pub accepts : (plane_at h).refusal ≡ accepted
  pub height : FloatIs z 1 word (plane_at h).ground.height
  pub east : FloatIs e 1 east_word (plane_at h).ground.east
  pub north : FloatIs n 1 north_word (plane_at h).ground.north

-- plane is refused: three floats of plus zero
abbrev pub plane_refused : ℕ → PlaneAnswer
plane_refused number = plane_answer number no_ground

-- the points of a list of which f holds
abbrev pub those : (Point → Bool) → List Point → List Point
those f [] = []
those f (p ∷ ps) = cond (f p) (p ∷ those f ps) (those f ps)

-- the points kept beside the grid corners, by rising place
abbrev pub kept_beside : ℕ → List ℕ → List Point
kept_beside m marks = those (λ p. kept_by m marks p && not (is_corner m p)) (points m)

-- ---- the table: in document 01's order, each example under its sentence, marks row by row from y = 0

pub record Settled : Type 0 where
  -- 1. m = 0, equal heights: 0 1 3 3 2 0. (Of every height, and at every tolerance that is taken.)
  pub one_selection : (height : ℤ) (t : ℕ) → is_void height ≡ false → t ≤ 65_535 →
      Selects (select 0 t (replicate 4 height)) (selected 0 0 0 0)
      (3 ∷ 3 ∷
      3 ∷ 3 ∷ [])
      (replicate 4 height)
  pub one_triangles : (height : ℤ) (t : ℕ) → is_void height ≡ false → t ≤ 65_535 →
      Meshes (triangles (select 0 t (replicate 4 height)) 9) (meshed 0 2)
      (0 ∷ 1 ∷ 3 ∷ 3 ∷ 2 ∷ 0 ∷ 9 ∷ 9 ∷ 9 ∷ [])
  -- 2. P, t = 9: 2 4 0 8 4 2 6 4 8 0 4 6.
  pub two_selection : Selects (select 1 9 grid_p) (selected 0 1 0 0)
      (3 ∷ 0 ∷ 3 ∷
      0 ∷ 1 ∷ 0 ∷
      3 ∷ 0 ∷ 3 ∷ [])
      grid_p
  pub two_triangles : Meshes (triangles (select 1 9 grid_p) 15) (meshed 0 4)
      (2 ∷ 4 ∷ 0 ∷ 8 ∷ 4 ∷ 2 ∷ 6 ∷ 4 ∷ 8 ∷ 0 ∷ 4 ∷ 6 ∷ 9 ∷ 9 ∷ 9 ∷ [])
  -- 3. P, t = 10: 0 2 8 8 6 0.
  pub three_selection : Selects (select 1 10 grid_p) (selected 0 0 0 0)
      (3 ∷ 0 ∷ 3 ∷
      0 ∷ 0 ∷ 0 ∷
      3 ∷ 0 ∷ 3 ∷ [])
      grid_p
  pub three_triangles : Meshes (triangles (select 1 10 grid_p) 9) (meshed 0 2)
      (0 ∷ 2 ∷ 8 ∷ 8 ∷ 6 ∷ 0 ∷ 9 ∷ 9 ∷ 9 ∷ [])
  -- 4. Q's marks: 3 1 3 / 0 2 0 / 3 0 3. (Q's tolerance is 5.)
  pub four_selection : Selects (select 1 5 grid_q) (selected 0 1 1 0)
      (3 ∷ 1 ∷ 3 ∷
      0 ∷ 2 ∷ 0 ∷
      3 ∷ 0 ∷ 3 ∷ [])
      grid_q
  -- 5. Q at (2,0): Surveyed 5, bits 0x40A00000.
  pub five_height : HeightIs (query (select 1 5 grid_q) 2 0) Surveyed (pos 5) 1 0x40A0_0000
  -- 6. Q's plane at (3,1): 5, 10, -10.
  pub six_plane : PlaneIs (query (select 1 5 grid_q) 3 1) (pos 5) 0x40A0_0000 (pos 10) 0x4120_0000 (minus 10) 0xC120_0000
  -- 7. Q at (8,8) is answered, at (9,0) refused 5.
  pub seven_height : HeightIs (query (select 1 5 grid_q) 8 8) Surveyed (pos 0) 1 0x0000_0000
  pub seven_plane : PlaneIs (query (select 1 5 grid_q) 8 8) (pos 0) 0x0000_0000 (pos 0) 0x0000_0000 (pos 0) 0x0000_0000
  pub seven_height_refused : said (Refused 5) ≡ height_at (query (select 1 5 grid_q) 9 0)
  pub seven_plane_refused : plane_refused 5 ≡ plane_at (query (select 1 5 grid_q) 9 0)
  -- 8. V, t = 1: middle height -4, mark 6, eight triangles; at (4,4) Filled -4.
  pub eight_selection : Selects (select 1 1 grid_v) (selected 0 4 1 1)
      (3 ∷ 1 ∷ 3 ∷
      1 ∷ 6 ∷ 1 ∷
      3 ∷ 1 ∷ 3 ∷ [])
      (middled (minus 4))
  pub eight_triangles : Meshes (triangles (select 1 1 grid_v) 27) (meshed 0 8)
      (0 ∷ 1 ∷ 4 ∷ 4 ∷ 1 ∷ 2 ∷ 2 ∷ 5 ∷ 4 ∷ 4 ∷ 5 ∷ 8 ∷ 8 ∷ 7 ∷ 4 ∷ 4 ∷ 7 ∷ 6 ∷ 6 ∷ 3 ∷ 4 ∷ 4 ∷ 3 ∷ 0 ∷ 9 ∷ 9 ∷ 9 ∷ [])
  pub eight_height : HeightIs (query (select 1 1 grid_v) 4 4) Filled (minus 4) 1 0xC080_0000
  -- 9. V, t = 5: middle mark 4; at (4,4) Surveyed -3.5, bits 0xC0600000.
  pub nine_selection : Selects (select 1 5 grid_v) (selected 0 0 0 1)
      (3 ∷ 0 ∷ 3 ∷
      0 ∷ 4 ∷ 0 ∷
      3 ∷ 0 ∷ 3 ∷ [])
      (middled (minus 4))
  pub nine_height : HeightIs (query (select 1 5 grid_v) 4 4) Surveyed (minus 7) 2 0xC060_0000
  -- 10. m = 2, zero but 10 at (1,0), t = 4: kept beside the corners (1,0), (1,1), (2,0), (0,2), (2,2); nine triangles.
  pub ten_selection : Selects (select 2 4 grid_ten) (selected 0 1 4 0)
      (3 ∷ 1 ∷ 2 ∷ 0 ∷ 3 ∷
      0 ∷ 2 ∷ 0 ∷ 0 ∷ 0 ∷
      2 ∷ 0 ∷ 2 ∷ 0 ∷ 0 ∷
      0 ∷ 0 ∷ 0 ∷ 0 ∷ 0 ∷
      3 ∷ 0 ∷ 0 ∷ 0 ∷ 3 ∷ [])
      grid_ten
  pub ten_kept : kept_beside 2 (marks_after (select 2 4 grid_ten)) ≡ at 1 0 ∷ at 2 0 ∷ at 1 1 ∷ at 0 2 ∷ at 2 2 ∷ []
  pub ten_triangles : Meshes (triangles (select 2 4 grid_ten) 30) (meshed 0 9)
      (0 ∷ 1 ∷ 6 ∷ 6 ∷ 1 ∷ 2 ∷ 12 ∷ 6 ∷ 2 ∷ 12 ∷ 2 ∷ 4 ∷ 24 ∷ 12 ∷ 4 ∷
      20 ∷ 12 ∷ 24 ∷ 20 ∷ 10 ∷ 12 ∷ 10 ∷ 6 ∷ 12 ∷ 0 ∷ 6 ∷ 10 ∷ 9 ∷ 9 ∷ 9 ∷ [])
  -- 11. Tolerance 65,535 is taken, 65,536 refused 4; m = 8 refused 1. (The tolerances with Q; m = 8 by every call of Rattle that is handed m, whatever else is; C's promise the same.)
  pub eleven_taken : Selects (select 1 65_535 grid_q) (selected 0 0 0 0)
      (3 ∷ 0 ∷ 3 ∷
      0 ∷ 0 ∷ 0 ∷
      3 ∷ 0 ∷ 3 ∷ [])
      grid_q
  pub eleven_refused : Selects (select 1 65_536 grid_q) (selected 4 0 0 0) (nines 9) (map pos (nines 9))
  pub eleven_size : (Err SizeAbove ≡ size_answer 8) × (number SizeAbove ≡ 1)
  pub eleven_selection : (survey : List ℤ) (t : ℕ) (marks : List ℕ) (heights : List ℤ) →
      Selects (surveying survey 8 t marks heights) (selected 1 0 0 0) marks heights
  pub eleven_triangles : (marks places : List ℕ) → Meshes (drawing marks 8 places) (meshed 1 0) places
  pub eleven_strip : (marks places : List ℕ) → Strips (drawing marks 8 places) (stripped 1 0) places
  pub eleven_height : (marks : List ℕ) (heights : List ℤ) (x y : ℕ) → said (Refused 1) ≡ height_at (asking marks heights 8 x y)
  pub eleven_plane : (marks : List ℕ) (heights : List ℤ) (x y : ℕ) → plane_refused 1 ≡ plane_at (asking marks heights 8 x y)
  -- 12. Q's marks with the middle 0: refused 7. Q's marks with 14 entries of room: refused 8, need 5; with 15: written.
  -- (The middle is place 4.)
  pub twelve_unclosed : Meshes (drawing (set (marks_after (select 1 5 grid_q)) 4 0) 1 (nines 15)) (meshed 7 0) (nines 15)
  pub twelve_short : Meshes (triangles (select 1 5 grid_q) 14) (meshed 8 5) (nines 14)
  pub twelve_written : Meshes (triangles (select 1 5 grid_q) 15) (meshed 0 5)
      (0 ∷ 1 ∷ 4 ∷ 4 ∷ 1 ∷ 2 ∷ 8 ∷ 4 ∷ 2 ∷ 6 ∷ 4 ∷ 8 ∷ 0 ∷ 4 ∷ 6 ∷ [])
  -- The program's sample. For length 24, version 1, m 1, tolerance 5, heights 0 10 0 / 0 0 0 / 0 0 0, all of it is, by the characters' codes:
  -- T 5, 0 1 4, 4 1 2, 8 4 2, 6 4 8, 0 4 6, a line each.
  pub sample : text_in
      (0 ∷ 0 ∷ 0 ∷ 24 ∷ 1 ∷ 1 ∷ 0 ∷ 0 ∷ 0 ∷ 5 ∷
      0 ∷ 0 ∷ 0 ∷ 10 ∷ 0 ∷ 0 ∷
      0 ∷ 0 ∷ 0 ∷ 0 ∷ 0 ∷ 0 ∷
      0 ∷ 0 ∷ 0 ∷ 0 ∷ 0 ∷ 0 ∷ [])
      ≡ 84 ∷ 32 ∷ 53 ∷ 10 ∷
      48 ∷ 32 ∷ 49 ∷ 32 ∷ 52 ∷ 10 ∷
      52 ∷ 32 ∷ 49 ∷ 32 ∷ 50 ∷ 10 ∷
      56 ∷ 32 ∷ 52 ∷ 32 ∷ 50 ∷ 10 ∷
      54 ∷ 32 ∷ 52 ∷ 32 ∷ 56 ∷ 10 ∷
      48 ∷ 32 ∷ 52 ∷ 32 ∷ 54 ∷ 10 ∷ []
  -- Demand 3, of Q: its marks, its heights and its five triangles are one surface.
  pub surface : OneSurface 1
      (3 ∷ 1 ∷ 3 ∷
      0 ∷ 2 ∷ 0 ∷
      3 ∷ 0 ∷ 3 ∷ [])
      grid_q
      (meshed 0 5)
      (0 ∷ 1 ∷ 4 ∷ 4 ∷ 1 ∷ 2 ∷ 8 ∷ 4 ∷ 2 ∷ 6 ∷ 4 ∷ 8 ∷ 0 ∷ 4 ∷ 6 ∷ [])
