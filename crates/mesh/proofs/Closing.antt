-- The tests of the marks say what document 01 says: all marks are good; the points that they keep are a closed set. Good marks keep
-- the grid corners, so there it is enough to ask of each point whether all it depends on is kept.
use mathlib.Core.Path.{◌≡◌, refl}
use mathlib.Core.Bool.{Bool, true, false, not, ◌||◌, and-eq-true_iff}
use mathlib.Core.List.{List, Memᴰ}
use mathlib.Core.Logic.{◌↔◌}
use Prim.Native.Nat.{ℕ, ◌<◌}
use native.Mathlib.Decide.{dec_lt}
use native.Mathlib.Omega.{arith}
use lib.ListN.{length, get_or, get_or-eq_default}
use borrow.Author.Tests.{eqb-true}
use Rattle.grid.specs.Grid.{samples, point, Inside}
use Rattle.grid.specs.Points.{is_corner, depends_on}
use Rattle.grid.specs.Mark.{left_out, for_corner, good_mark}
use Rattle.grid.specs.Inner.{keeps}
use Rattle.grid.specs.declared.points.Point.{Point}
use Rattle.grid.proofs.Keeping.{keeps_good}
use Rattle.grid.proofs.Places.{place_point, point_inside}
use Rattle.grid.proofs.Spaced.{corner_inside}
use Rattle.selection.specs.Marks.{mark_at}
use Rattle.grid.specs.Grid.{corners}
use Rattle.selection.specs.Rule.{Closed}
use Rattle.selection.proofs.Corners.{corner_in, listed_corner}
use Rattle.mesh.specs.Triangles.{points}
use Rattle.mesh.specs.Closed.{every, good_at, good_marks, kept_by, supported, closed}
use Rattle.mesh.specs.Inner.{kept_place, Plain}
use Rattle.mesh.proofs.Every.{every_in, in_every, every_point}

pub good_marks_lem : (m : ℕ) (marks : List ℕ) →
    (good_marks m marks ≡ true) ↔ ((p : Point) → Inside m p → good_mark (is_corner m p) (mark_at m marks p) ≡ true)
unfolding good_marks
good_marks_lem m marks = every_point m (good_at m marks)

-- of good marks one test tells whether a mark keeps its point; where no mark stands, 0 is read, which keeps none
pub plain_marks : (m : ℕ) (marks : List ℕ) → length marks ≡ samples m →
    ((p : Point) → Inside m p → good_mark (is_corner m p) (mark_at m marks p) ≡ true) → Plain marks
plain_marks m marks long good i = go (dec_lt i (samples m))
  where
    go : Dec (i < samples m) → keeps (get_or marks i left_out) ≡ kept_place marks i
    go (yes l) = rw (place_point m i) at (keeps_good (is_corner m (point m i)) (mark_at m marks (point m i)) (good (point m i) (point_inside m i l)))
    go (no l) = rw (get_or-eq_default marks left_out {n = i} (omega (arith, long)))

module _ (m : ℕ) (kept : Point → Bool) where
  -- with a kept point, all it depends on
  supported_by : (p : Point) →
      (supported m kept p ≡ true) ↔ (kept p ≡ true → (q : Point) → Memᴰ q (depends_on m p) → kept q ≡ true)
  unfolding supported
  supported_by p = (
    λ e k q i. every_in kept (depends_on m p) (rw k at e) i,
    λ holds. by (kept p) (λ k. in_every kept (depends_on m p) (holds k)),
  )
    where
      by : (t : Bool) → (t ≡ true → every kept (depends_on m p) ≡ true) → (not t || every kept (depends_on m p)) ≡ true
      by true all = all refl
      by false all = refl

  pub closed_set : (closed m kept ≡ true) ↔ Closed m (λ p. kept p ≡ true)
  unfolding closed
  closed_set =
      let both = and-eq-true_iff (every kept (corners m)) (every (supported m kept) (points m)) in
      let inside = every_point m (supported m kept) in (
        λ e.
            record {
              corners = λ p c. every_in kept (corners m) (both.0 e).0 (corner_in m p c);
              depends = λ p q h k i. (supported_by p).0 (inside.0 (both.0 e).1 p h) k q i;
            },
        λ c.
            both.1 (
              in_every kept (corners m) (λ p i. c.corners p (listed_corner m p i)),
              inside.1 (λ p h. (supported_by p).1 (λ k q i. c.depends p q h k i)),
            ),
      )

module _ (m : ℕ) (marks : List ℕ) (good : good_marks m marks ≡ true) where
  -- a good mark at a grid corner is 3, and 3 is kept
  good_corners : every (kept_by m marks) (corners m) ≡ true
  good_corners = in_every (kept_by m marks) (corners m) (λ p i. kept_corner p (listed_corner m p i))
    where
      kept_corner : (p : Point) → is_corner m p ≡ true → kept_by m marks p ≡ true
      kept_corner p c =
          let three : mark_at m marks p ≡ for_corner = eqb-true _ for_corner (rw c at ((good_marks_lem m marks).0 good p (corner_inside m p c))) in
          rw three

  pub good_closed : closed m (kept_by m marks) ≡ every (supported m (kept_by m marks)) (points m)
  unfolding closed
  good_closed = rw good_corners
