-- The triangles that cutting passes through are those of the hierarchy, so the stages alternate: after an even number of cuts a triangle
-- is cut at a block centre, after an odd number at an edge midpoint; and l to r is the longest side.
use mathlib.Core.Path.{◌≡◌, refl, subst}
use mathlib.Core.Bool.{Bool}
use Prim.Native.Nat.{ℕ, zero, suc, ◌+◌, ◌*◌}
use native.Mathlib.Omega.{arith}
use Rattle.grid.specs.Grid.{midpoint}
use Rattle.grid.specs.Hierarchy.{Triangle, first as first_of, second as second_of, first_half as first_half_of, second_half as second_half_of, Stage, Apex}
use Rattle.grid.specs.declared.points.Point.{Point}
use Rattle.grid.proofs.Cutting.{cut, stage}
use Rattle.grid.proofs.Parity.{even_false, odd_true}
use Rattle.grid.proofs.Turning.{halfway, apex}
use Rattle.mesh.specs.Rule.{Staged, Writing, CutAt, Met, first, second, first_half, second_half}
use Rattle.mesh.proofs.Leads.{no_midpoint, at_halfway, one_midpoint}

-- (l, a, r) is a triangle of the hierarchy, by the cuts that made it
pub record OfHierarchy (m cuts : ℕ) (l a r : Point) : Type 0 where
  pub left : ℕ
  pub all : cuts + left ≡ 2 * m
  pub triangle : Triangle m left l a r

-- one that is cut at c has a cut left, and c is its midpoint
record CutHere (m cuts : ℕ) (l a r c : Point) : Type 0 where
  left : ℕ
  all : cuts + suc left ≡ 2 * m
  triangle : Triangle m (suc left) l a r
  is : midpoint l r ≡ c

module _ {m : ℕ} {kept : Point → Bool} where
  cut_at : {cuts : ℕ} {l a r c : Point} → OfHierarchy m cuts l a r → CutAt m kept l r c → CutHere m cuts l a r c
  cut_at {cuts} {l} {a} {r} {c} p h = by p.left p.all p.triangle
    where
      by : (k : ℕ) → cuts + k ≡ 2 * m → Triangle m k l a r → CutHere m cuts l a r c
      by zero e t = absurd (no_midpoint t (at_halfway h))
      by (suc k) e t = record { left = k; all = e; triangle = t; is = one_midpoint (halfway (cut t)) (at_halfway h) }

  pub of_hierarchy : {cuts : ℕ} {l a r : Point} → Met m kept cuts l a r → OfHierarchy m cuts l a r
  of_hierarchy first = record { left = 2 * m; all = omega arith; triangle = first_of }
  of_hierarchy second = record { left = 2 * m; all = omega arith; triangle = second_of }
  of_hierarchy (first_half {l = l} {a = a} t h) =
      let w = cut_at (of_hierarchy t) h in
      record { left = w.left; all = omega (arith, w.all); triangle = subst (λ (d : Point). Triangle m w.left l d a) w.is (first_half_of w.triangle) }
  of_hierarchy (second_half {a = a} {r = r} t h) =
      let w = cut_at (of_hierarchy t) h in
      record { left = w.left; all = omega (arith, w.all); triangle = subst (λ (d : Point). Triangle m w.left a d r) w.is (second_half_of w.triangle) }

  -- so, of cuts that follow one another, every second one is at a block centre: after an even number of cuts. (Cuts made and left are 2m
  -- in all, so behind this cut the number left is odd just where the number made is even.)
  stages : {cuts : ℕ} {l a r c : Point} → Met m kept cuts l a r → CutAt m kept l r c → Stage m (suc cuts) c
  stages {cuts} t h =
      let w = cut_at (of_hierarchy t) h in
      let s = stage w.triangle in
      rw (← w.is)
      (record {
        sample = s.sample;
        inner = s.inner;
        at_centre = λ e. s.at_centre (omega (arith, w.all));
        at_edge = λ e. s.at_edge (omega (arith, w.all));
      })

  -- and each has its apex where two equal sides stand at a right angle
  apexes : {cuts : ℕ} {l a r : Point} → Met m kept cuts l a r → Apex cuts l a r
  apexes t =
      let w = of_hierarchy t in
      let p = apex w.triangle in
      record { even = λ e. p.even (omega (arith, w.all)); odd = λ o. p.odd (omega (arith, w.all)) }

pub staged : (m : ℕ) (kept : Point → Bool) → Staged m kept
staged m kept = record { stage = stages; apex = apexes }

-- how each is written
pub writing : (m : ℕ) → Writing m
writing m = record {
  even = λ cuts l a r e. rw (even_false cuts e);
  odd = λ cuts l a r o. rw (odd_true cuts o);
  places = λ p q w ts. refl;
}
