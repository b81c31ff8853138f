-- Document 01's sentences of "The program", as one statement with a case for each way that a run ends: the input is refused, or
-- selection refuses what the input holds, or the triangles are there; and what is printed of each, byte by byte, in character codes. The promise is
-- proved to mean it, and it the promise.
-- Definitions only.
use Rattle.std.specs.Prelude.{◌≡◌, ◌≢◌, cond, eqb, List, [], ◌∷◌, ◌++◌, ℕ, suc, ◌+◌, ◌*◌, ◌≤◌, ◌<◌, length, get_or, ℤ, Result, Ok, Err}
use Rattle.grid.specs.Grid.{samples}
use Rattle.grid.specs.Refusal.{accepted, number}
use Rattle.grid.specs.declared.refusals.Refusal.{Refusal}
use Rattle.grid.specs.Sizes.{size_of}
use Rattle.frame.specs.Rule.{Follows, RowByRow}
use Rattle.frame.specs.declared.Frame.{Frame}
use Rattle.selection.specs.Selected.{Selects}
use Rattle.selection.specs.Selected.{handed as selecting}
use Rattle.selection.specs.declared.Selected.{Selected}
use Rattle.mesh.specs.Meshed.{Meshes}
use Rattle.mesh.specs.Meshed.{handed as meshing}
use Rattle.mesh.specs.declared.Meshed.{Meshed}

-- on a refusal nothing is handed back but its number, and buffers stay untouched
pub record Refuses (n : ℕ) (places : List ℕ) (r : Result ℕ ℕ) (places' : List ℕ) : Type 0 where
  pub number : r ≡ Err n
  pub untouched : places' ≡ places

-- selection of the heights that the input holds row by row, with the frame's own m and tolerance, on two buffers of (N+1)² entries,
-- whatever those hold
pub record Selecting (input : List ℕ) (f : Frame) (a : Selected) (marks' : List ℕ) : Type 0 where
  pub survey : List ℤ
  pub rows : RowByRow input survey
  pub marks : List ℕ
  pub marks_long : length marks ≡ samples f.m
  pub heights : List ℤ
  pub heights_long : length heights ≡ samples f.m
  pub heights' : List ℤ
  pub selects : Selects (selecting survey f.m f.tolerance marks heights) a marks' heights'

-- what the call of triangles answers
abbrev pub result_of : Meshed → Result ℕ ℕ
result_of t = cond (eqb t.refusal accepted) (Ok t.triangles) (Err t.refusal)

-- a run follows document 01: f is the frame that is read from the input
pub data Runs (input places : List ℕ) (r : Result ℕ ℕ) (places' : List ℕ) : Type 0 where
  -- the input's own refusals first: that number
  form : {e : Refusal} → Follows input (Err e) → Refuses (number e) places r places' → Runs input places r places'
  -- then selection's own: that number
  selection : {f : Frame} {a : Selected} {marks : List ℕ} → Follows input (Ok f) → Selecting input f a marks →
      a.refusal ≢ accepted → Refuses a.refusal places r places' → Runs input places r places'
  -- else the triangles of the marks that selection wrote
  triangles : {f : Frame} {a : Selected} {marks : List ℕ} {t : Meshed} → Follows input (Ok f) → Selecting input f a marks →
      a.refusal ≡ accepted → Meshes (meshing marks f.m places) t places' → r ≡ result_of t → Runs input places r places'

-- a number in decimal digits, without zeros in front: one digit, or a number's digits and one digit more. (A digit's code is 48 more than it.)
pub data Spells : ℕ → List ℕ → Type 0 where
  digit : {n : ℕ} {bytes : List ℕ} → n < 10 → bytes ≡ (48 + n) ∷ [] → Spells n bytes
  digits : {n t d : ℕ} {bytes front : List ℕ} → 0 < t → d < 10 → n ≡ 10 * t + d → Spells t front → bytes ≡ front ++ (48 + d) ∷ [] → Spells n bytes

-- a line of three numbers: one space between items, code 32, and a line feed after them, code 10
pub record Line (a b c : ℕ) (bytes : List ℕ) : Type 0 where
  pub first : List ℕ
  pub second : List ℕ
  pub third : List ℕ
  pub first_spelt : Spells a first
  pub second_spelt : Spells b second
  pub third_spelt : Spells c third
  pub is : bytes ≡ first ++ 32 ∷ (second ++ 32 ∷ (third ++ 10 ∷ []))

-- one line of three places per triangle, in their order
pub data Lines (places : List ℕ) : ℕ → List ℕ → Type 0 where
  none : Lines places 0 []
  more : {n : ℕ} {bytes before line : List ℕ} → Lines places n before →
      Line (get_or places (3 * n) 0) (get_or places (3 * n + 1) 0) (get_or places (3 * n + 2) 0) line → bytes ≡ before ++ line → Lines places (suc n) bytes

-- `refused` and the number; or `T` and the triangle count, then the triangles
pub data Printed (r : Result ℕ ℕ) (places : List ℕ) (text : List ℕ) : Type 0 where
  refused : {n : ℕ} {number : List ℕ} → r ≡ Err n → Spells n number →
      text ≡ 114 ∷ 101 ∷ 102 ∷ 117 ∷ 115 ∷ 101 ∷ 100 ∷ 32 ∷ (number ++ 10 ∷ []) → Printed r places text
  listed : {n : ℕ} {number lines : List ℕ} → r ≡ Ok n → Spells n number → Lines places n lines →
      text ≡ 84 ∷ 32 ∷ ((number ++ 10 ∷ []) ++ lines) → Printed r places text

-- what is printed of an input: the answer and the places of such a run, whose places have room for the most triangles of a frame
pub record Shows (input text : List ℕ) : Type 0 where
  pub answer : Result ℕ ℕ
  pub before : List ℕ
  pub room : 3 * (size_of 5).triangles ≤ length before
  pub after : List ℕ
  pub runs : Runs input before answer after
  pub printed : Printed answer after text
