-- What functions inside this crate may ask and what they promise one another. No rule rests on it. Definitions only.
use Rattle.std.specs.Prelude.{◌≡◌, Bool, false, cond, ◌||◌, List, Result, Ok, Err, ℕ, zero, suc, ◌+◌, ◌-◌, ◌*◌, ◌^◌, ◌≤◌, ◌<◌, leb, length, get_or, ℤ, pos, ◌+ℤ◌, ◌*ℤ◌, Float, ⊤}
use Rattle.std.specs.Int.{w16}
use Rattle.std.proofs.Common.{SFits}
use Rattle.grid.specs.Grid.{samples, largest, in_quarters, place, point, midplace, void, is_void}
use Rattle.grid.specs.Points.{odd}
use Rattle.grid.specs.Mark.{left_out}
use Rattle.grid.specs.declared.refusals.Refusal.{Refusal}
use Rattle.grid.specs.declared.refusals.Refusal.TheVariants.{VoidCorner, BadMark}
use Rattle.mesh.specs.Inner.{kept_place, good_inner}
use Rattle.aim.specs.Quotient.{format, quotient}
use Rattle.aim.specs.Walk.{Under}
use Rattle.aim.specs.Aimed.{fills, tilt}
use Rattle.aim.specs.declared.GroundPlane.{GroundPlane}
use Rattle.aim.specs.declared.walk.Corner.{Corner}
use Rattle.aim.specs.declared.walk.Reached.{Reached}

-- a corner at this place, of this weight
abbrev pub corner : ℕ → ℕ → Corner
corner i w = record { place = i; weight = w }

-- how a value of the code holds where a walk has come
abbrev pub placed : ℕ → Under → Reached
placed m u = record {
  l = corner (place m u.triangle.l) u.triangle.wl;
  a = corner (place m u.triangle.a) u.triangle.wa;
  r = corner (place m u.triangle.r) u.triangle.wr;
  left = u.left;
}

-- the half that the point goes to, of a triangle cut at the place c
unfoldable pub half_at : ℕ → Reached → Reached
half_at c t =
    cond (leb t.r.weight t.l.weight)
    (record { l = corner t.l.place (t.l.weight - t.r.weight); a = corner c (2 * t.r.weight); r = t.a; left = t.left - 1 })
    (record { l = t.a; a = corner c (2 * t.l.weight); r = corner t.r.place (t.r.weight - t.l.weight); left = t.left - 1 })

-- the place at which a triangle is cut
abbrev pub cut_place : Reached → ℕ
cut_place t = midplace t.l.place t.r.place

-- where the walk ends by at most k more cuts, or the refusal of a mark that it meets
unfoldable pub walk_from : List ℕ → ℕ → Reached → Result Reached Refusal
walk_from marks zero t = Ok t
walk_from marks (suc k) t =
    cond (good_inner marks (cut_place t))
    (cond (kept_place marks (cut_place t)) (walk_from marks k (half_at (cut_place t) t)) (Ok t))
    (Err BadMark)

-- marks, or heights, stand at the corners, and no more of them than the largest size has
pub record Stands {A : Type 0} (list : List A) (t : Reached) : Type 0 where
  pub small : length list ≤ samples largest
  pub left : t.l.place < length list
  pub apex : t.a.place < length list
  pub right : t.r.place < length list

-- the weights add up to no more than the largest 4N
abbrev pub Light : Reached → Type 0
Light t = t.l.weight + t.a.weight + t.r.weight ≤ in_quarters largest

-- the height that stands at a corner
abbrev pub standing : List ℤ → Corner → ℤ
standing heights c = get_or heights c.place void

-- a corner has height -32768
abbrev pub void_in : List ℤ → Reached → Bool
void_in heights t = is_void (standing heights t.l) || (is_void (standing heights t.a) || is_void (standing heights t.r))

-- the last two refusals: whether the grid corners' marks are good is asked before whether a corner is void
abbrev pub last_refusal : Bool → Bool → Result ⊤ Refusal
last_refusal good isvoid = cond good (cond isvoid (Err VoidCorner) (Ok tt)) (Err BadMark)

-- a corner that weighs has a mark of 4 or more
abbrev pub filled_in : List ℕ → Reached → Bool
filled_in marks t =
    fills t.l.weight (get_or marks t.l.place left_out)
    || (fills t.a.weight (get_or marks t.a.place left_out) || fills t.r.weight (get_or marks t.r.place left_out))

-- what stands at the corners has 16 bits
pub record Stored (heights : List ℤ) (t : Reached) : Type 0 where
  pub left : SFits w16 (standing heights t.l)
  pub apex : SFits w16 (standing heights t.a)
  pub right : SFits w16 (standing heights t.r)

-- what is known of the triangle in which a walk ended: marks and heights of the grid stand at its corners, none of them void
pub record Footing (m : ℕ) (marks : List ℕ) (heights : List ℤ) (t : Reached) : Type 0 where
  pub marked : Stands marks t
  pub long : length heights ≡ samples m
  pub stands : Stands heights t
  pub stored : Stored heights t
  pub surveyed : void_in heights t ≡ false
  pub weights : t.l.weight + t.a.weight + t.r.weight ≡ in_quarters m
  pub cuts : t.left ≤ 2 * m

-- what a corner adds to the height times 4N, and that height
abbrev pub share : List ℤ → Corner → ℤ
share heights c = pos c.weight *ℤ standing heights c

unfoldable pub weighted_in : List ℤ → Reached → ℤ
weighted_in heights t = share heights t.l +ℤ share heights t.a +ℤ share heights t.r

-- the height there
abbrev pub height_here : ℕ → List ℤ → Reached → Float
height_here m heights t = quotient format (weighted_in heights t) (in_quarters m)

-- the plane of its corners p, q and w, counter-clockwise
unfoldable pub ground_by : ℕ → List ℤ → Reached → Corner → Corner → Corner → GroundPlane
ground_by m heights t p q w = record {
  height = height_here m heights t;
  east =
      quotient format
      (tilt (standing heights p) (standing heights q) (standing heights w) (point m p.place).y (point m q.place).y (point m w.place).y)
      (2 ^ t.left);
  north =
      quotient format
      (tilt (standing heights w) (standing heights q) (standing heights p) (point m w.place).x (point m q.place).x (point m p.place).x)
      (2 ^ t.left);
}

abbrev pub ground_at : ℕ → List ℤ → Reached → GroundPlane
ground_at m heights t = cond (odd t.left) (ground_by m heights t t.r t.a t.l) (ground_by m heights t t.l t.a t.r)
