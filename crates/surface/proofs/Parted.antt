-- A line parts any two triangles of the mesh: no corner of the one is to its left, none of the other to its right. Its two points are distinct, for
-- about one point there is no turn, and not all corners are on the line.
use mathlib.Core.Path.{sym, subst}
use native.Mathlib.Omega.{arith}
use Rattle.grid.specs.declared.points.Point.{Point}
use Rattle.mesh.specs.Triangles.{Three}
use Rattle.mesh.proofs.Once.{Beside, each, Sides, back}
use Rattle.mesh.proofs.Proper.{flat_first}
use Rattle.surface.specs.Surface.{Parted}

pub parted : {t u : Three} → Sides t u → Parted t u
parted {t} {u} h = record {
  from = h.from;
  to = h.to;
  distinct = λ e. none (subst (λ (s : Point). Beside h.from s t) (sym e) h.first);
  first = each h.from h.to t h.first;
  second = λ q i. back h.from h.to q (each h.to h.from u h.second q i);
}
  where
    none : ¬ (Beside h.from h.from t)
    none b = let p = h.from in omega (arith, b.off, flat_first p t.first, flat_first p t.second, flat_first p t.third)
