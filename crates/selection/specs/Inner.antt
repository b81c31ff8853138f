-- What functions inside this crate may ask, and which points a sweep has come to. No rule rests on it. Definitions only.
use Rattle.std.specs.Prelude.{◌≡◌, ℕ, suc, ◌+◌, ◌*◌, ◌^◌, ◌%◌, ◌<◌, ◌≤◌, Bool, true, Result, Ok, Err, List, length, ℤ}
use Rattle.grid.specs.Grid.{Inside, samples, largest}
use Rattle.grid.specs.Points.{is_corner, units, rank, level}
use Rattle.grid.specs.Mark.{filled_mark}
use Rattle.grid.specs.Inner.{keeps}
use Rattle.grid.specs.Refusal.{accepted, number}
use Rattle.grid.specs.declared.refusals.Refusal.{Refusal}
use Rattle.grid.specs.declared.Grid.{Grid}
use Rattle.grid.specs.declared.points.Point.{Point}
use Rattle.grid.specs.declared.points.Kind.{Kind}
use Rattle.grid.specs.declared.points.Kind.TheVariants.{Corner, EastWest, NorthSouth, Rising, Falling}
use Rattle.survey.specs.Filled.{filled}
use Rattle.selection.specs.Error.{exceeding}
use Rattle.selection.specs.Marks.{mark, mark_at, count, marked_own, marked_dependence}
use Rattle.selection.specs.Selected.{Handed, refusal}
use Rattle.selection.specs.declared.Selected.{Selected}

-- whether the mark that stands at a point keeps it
abbrev pub kept_at : ℕ → List ℕ → Point → Bool
kept_at m marks p = keeps (mark_at m marks p)

-- as far as an own doubled error may lie from 0
abbrev pub farthest : ℕ
farthest = 131072

-- what a sweep works on: a survey of the grid, and its filled heights, and a limit that errors may reach
pub record Ready (g : Grid) (limit : ℕ) (survey heights : List ℤ) : Type 0 where
  pub near : limit ≤ farthest
  pub long : length survey ≡ samples g.m
  pub filled : heights ≡ filled g.m survey

-- s is a power of two below N
pub record Spacing (m s : ℕ) : Type 0 where
  pub power : s ≡ 2 ^ level m s s
  pub below : level m s s < m

-- the mark of a point over a limit
abbrev pub mark_over : ℕ → List ℤ → ℕ → Point → ℕ
mark_over m survey limit = mark m survey (exceeding m survey limit)

-- the marks that stand at some points are theirs
pub record Final (m : ℕ) (f : Point → ℕ) (done : Point → Type 0) (marks : List ℕ) : Type 0 where
  pub long : length marks ≡ samples m
  pub right : (p : Point) → Inside m p → done p → mark_at m marks p ≡ f p

-- swept: the grid corners, all points of a rank below r, and of rank r, counted in units of their spacing, the rows below b
pub data Swept (m r b : ℕ) (p : Point) : Type 0 where
  corner : is_corner m p ≡ true → Swept m r b p
  finer : rank m p < r → Swept m r b p
  row : rank m p ≡ r → (units m p).up < b → Swept m r b p

-- along a row the next edge point of one kind is two units on, and the next centre four: the one between has its ends on the other diagonal
abbrev pub stride : Kind → ℕ
stride Corner = 2
stride EastWest = 2
stride NorthSouth = 2
stride Rising = 4
stride Falling = 4

-- in a row, every n-th column being a run: swept before it, and of row b the runs before that of column c, and of that run the columns
-- below a
pub data Ran (m n r b c a : ℕ) (p : Point) : Type 0 where
  swept : Swept m r b p → Ran m n r b c a p
  earlier : rank m p ≡ r → (units m p).up ≡ b → (units m p).across % n < c → Ran m n r b c a p
  along : rank m p ≡ r → (units m p).up ≡ b → (units m p).across % n ≡ c → (units m p).across < a → Ran m n r b c a p

-- a spacing's edge points have twice its level for their rank, its centres one more
abbrev pub edge_rank : ℕ → ℕ → ℕ
edge_rank m s = 2 * level m s s

abbrev pub centre_rank : ℕ → ℕ → ℕ
centre_rank m s = suc (edge_rank m s)

-- the answer by the marks alone
abbrev pub counted : List ℕ → Selected
counted marks =
    record { refusal = accepted; own = count marked_own marks; dependent = count marked_dependence marks; voids = count filled_mark marks }

-- what was counted before, and what is counted besides
abbrev pub added : Selected → Selected → Selected
added sum more = record {
  refusal = sum.refusal;
  own = sum.own + more.own;
  dependent = sum.dependent + more.dependent;
  voids = sum.voids + more.voids;
}

-- the most marks that are counted at a time
abbrev pub byteful : ℕ
byteful = 240

-- few enough for that, and what was counted before cannot be carried too far by them
pub record Room (sum : Selected) (marks : List ℕ) : Type 0 where
  pub few : length marks ≤ byteful
  pub own : sum.own ≤ samples largest
  pub dependent : sum.dependent ≤ samples largest
  pub voids : sum.voids ≤ samples largest

-- a call is judged: its grid is told where nothing is turned down, or else the refusal
abbrev pub Judged : Handed → Result Grid Refusal → Type 0
Judged h (Ok g) = (refusal h ≡ accepted) × (g.m ≡ h.m)
Judged h (Err r) = number r ≡ refusal h
