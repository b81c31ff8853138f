-- What functions inside this crate may ask, and what they leave in the lent heights on the way. No rule rests on it. Definitions only.
use Rattle.std.specs.Prelude.{◌≡◌, true, false, List, ◌⊎◌, ℕ, ◌+◌, ◌-◌, ◌*◌, ◌%◌, ◌≤◌, ◌<◌, get_or, length, ℤ}
use Rattle.grid.specs.Grid.{Inside, void, is_void, samples, largest, at, place, point}
use Rattle.grid.specs.Points.{level}
use Rattle.grid.specs.Inner.{Spread}
use Rattle.grid.specs.declared.points.Point.{Point}
use Rattle.survey.specs.Filled.{height_of, CornersSurveyed}

-- heights of a grid, perhaps not yet filled
pub record Ready (m : ℕ) (heights : List ℤ) : Type 0 where
  pub long : length heights ≡ samples m
  pub corners : CornersSurveyed m heights

-- how far a point lies below the largest spacing
abbrev pub depth : ℕ → Point → ℕ
depth m p = m - level m p.x p.y

-- a height stands at place i: what is there is not void
abbrev pub Stands : List ℤ → ℕ → Type 0
Stands heights i = is_void (get_or heights i void) ≡ false

abbrev pub NoVoid : List ℤ → Type 0
NoVoid heights = (i : ℕ) → i < length heights → Stands heights i

abbrev pub IsVoid : List ℤ → ℕ → Type 0
IsVoid heights i = is_void (get_or heights i void) ≡ true

-- a void at place i, whose ends lie reach places before and behind it
pub record VoidAt (m : ℕ) (heights : List ℤ) (i reach : ℕ) : Type 0 where
  pub spread : Spread m (point m i) reach
  pub is : IsVoid heights i

-- partly filled: each entry is as it was or is its point's height
pub record Partly (m : ℕ) (survey heights : List ℤ) : Type 0 where
  pub long : length heights ≡ length survey
  pub each : (i : ℕ) → i < samples m →
      (get_or heights i void ≡ get_or survey i void) ⊎ (get_or heights i void ≡ height_of m survey (point m i))

-- what a sweep leaves of the heights before: they are partly filled, and where it went heights stand
pub record Swept (m : ℕ) (before after : List ℤ) (there : Type 0) : Type 0 where
  pub partly : Partly m before after
  pub stand : there

-- heights stand at the places from, from + step, .. below to
abbrev pub RunFilled : List ℤ → ℕ → ℕ → ℕ → Type 0
RunFilled heights from to step = (k : ℕ) → from + step * k < to → Stands heights (from + step * k)

-- the points at the places from, from + step, .. below to have their ends reach places before and behind them, and one spacing
pub record Run (m from to step reach : ℕ) : Type 0 where
  pub on : 0 < step
  pub short : step ≤ 4 * samples largest
  pub inside : to ≤ samples m
  pub spread : (k : ℕ) → from + step * k < to → Spread m (point m (from + step * k)) reach
  pub deep : (k : ℕ) → from + step * k < to → depth m (point m (from + step * k)) ≡ depth m (point m from)

-- the row y is an even or an odd number of s away from the square's south side
pub record Row (s parity y : ℕ) : Type 0 where
  pub number : ℕ
  pub times : y ≡ s * number
  pub is : number % 2 ≡ parity

-- heights stand at the points of spacing s in a row at an even number of s, each second, or at an odd number, each
abbrev pub RowFilled : ℕ → List ℤ → ℕ → ℕ → ℕ → Type 0
RowFilled m heights s parity y =
    (a : ℕ) → (a % 2 ≡ 1) ⊎ (parity ≡ 1) → Inside m (at (s * a) y) → Stands heights (place m (at (s * a) y))

-- and so in each row at an even number of s, or in each at an odd number
abbrev pub RowsFilled : ℕ → List ℤ → ℕ → ℕ → Type 0
RowsFilled m heights s parity = (b : ℕ) → b % 2 ≡ parity → RowFilled m heights s parity (s * b)
