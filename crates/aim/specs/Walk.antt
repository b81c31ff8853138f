-- The walk of a query: down the cuts, to the triangle that a point lies in, with the point's weights at its corners. Document 01, "Height
-- at a point"; its sentences are in `Rule`. Definitions only.
use Rattle.std.specs.Prelude.{Bool, cond, List, [], ◌∷◌, ℕ, zero, suc, ◌-◌, ◌*◌, leb}
use Rattle.grid.specs.Grid.{side, in_quarters, at, midpoint}
use Rattle.grid.specs.declared.points.Point.{Point}

-- A triangle (l, a, r), and a point's weights at its corners. On the walk these are whole numbers that add up to 4N, by which the point is the
-- mean of the corners (`Barycentric` in `Geometry`).
pub record Weighed : Type 0 where
  pub l : Point
  pub a : Point
  pub r : Point
  pub wl : ℕ
  pub wa : ℕ
  pub wr : ℕ

-- a point, given in quarter cells, in the triangle that the walk starts in: on the diagonal the first
unfoldable pub start : ℕ → Point → Weighed
start m q =
    cond (leb q.y q.x)
    (record {
      l = at 0 0;
      a = at (side m) 0;
      r = at (side m) (side m);
      wl = in_quarters m - q.x;
      wa = q.x - q.y;
      wr = q.y;
    })
    (record {
      l = at (side m) (side m);
      a = at 0 (side m);
      r = at 0 0;
      wl = q.x;
      wa = q.y - q.x;
      wr = in_quarters m - q.y;
    })

-- where a triangle is cut, if that is a kept sample
abbrev pub cut_of : Weighed → Point
cut_of t = midpoint t.l t.r

-- the half that the point goes to: of (l, c, a), then (a, c, r), the first where l weighs no less than r; so on the cutting line, where they
-- weigh the same, the first
unfoldable pub half : Weighed → Weighed
half t =
    cond (leb t.wr t.wl)
    (record { l = t.l; a = cut_of t; r = t.a; wl = t.wl - t.wr; wa = 2 * t.wr; wr = t.wa })
    (record { l = t.a; a = cut_of t; r = t.r; wl = t.wa; wa = 2 * t.wl; wr = t.wr - t.wl })

-- where a walk ends: the triangle, the point's weights in it, and the cuts that it has left
pub record Under : Type 0 where
  pub triangle : Weighed
  pub left : ℕ

abbrev pub under : Weighed → ℕ → Under
under t k = record { triangle = t; left = k }

-- the walk goes down the cuts, as long as a cut is left and the midpoint of the longest side is kept
unfoldable pub walk : (Point → Bool) → ℕ → Weighed → Under
walk kept zero t = under t zero
walk kept (suc k) t = cond (kept (cut_of t)) (walk kept k (half t)) (under t (suc k))

-- the midpoints that it meets: those at which it cuts and, where a cut is left at the end, the one at which it does not
unfoldable pub met : (Point → Bool) → ℕ → Weighed → List Point
met kept zero t = []
met kept (suc k) t = cut_of t ∷ cond (kept (cut_of t)) (met kept k (half t)) []
