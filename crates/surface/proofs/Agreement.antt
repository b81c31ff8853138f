-- Every triangle of the mesh that contains a point gives it what the triangle gives in which the query's walk ends: for any f, the sum of f at the
-- corners by the point's weights. On the diagonal, which both starting triangles have as their longest side, both have the value of its trace.
use mathlib.Core.Path.{◌≡◌, sym, ◌∙◌}
use mathlib.Core.Bool.{Bool, false}
use mathlib.Core.List.Memᴰ
use mathlib.Core.List.{List, Memᴰ}
use mathlib.Core.Logic.{⊎_elim}
use Prim.Native.Nat.{ℕ, ◌-◌, ◌*◌, ◌≤◌, ◌<◌}
use native.Mathlib.Decide.{dec_le}
use native.Mathlib.Nat.{le_of_mul-le-mul_left}
use native.Mathlib.Omega.{arith}
use lib.Pow.{pow_pos}
use Rattle.grid.specs.Grid.{side, in_quarters, at}
use Rattle.grid.specs.Hierarchy.{first, second}
use Rattle.grid.specs.Points.{odd}
use Rattle.grid.specs.declared.points.Point.{Point}
use Rattle.grid.proofs.Parity.{even_false}
use Rattle.mesh.specs.Triangles.{Three, written, uncut, mesh}
use Rattle.aim.specs.Walk.{Weighed, start, walk}
use Rattle.aim.specs.Geometry.{OfSquare, Contains}
use Rattle.aim.proofs.Weights.{Weighs, in_first, in_second, start_first, start_second, started_first, started_second, start_contains}
use Rattle.surface.specs.OneMesh.{Restricted}
use Rattle.surface.proofs.Trace.{long, long_back}
use Rattle.surface.proofs.Landings.{Lands, mean, traced, same}
use Rattle.surface.proofs.Contained.{Landing, landing, walk_lands, lands_in}
use Rattle.surface.proofs.Within.{contains_grows, grown}

-- the uncut triangles that either starting triangle leads to
abbrev firsts : ℕ → (Point → Bool) → List Three
firsts m kept = uncut kept (2 * m) 0 (at 0 0) (at (side m) 0) (at (side m) (side m))

abbrev seconds : ℕ → (Point → Bool) → List Three
seconds m kept = uncut kept (2 * m) 0 (at (side m) (side m)) (at 0 (side m)) (at 0 0)

-- the triangle in which the walk ends
abbrev pub end : ℕ → (Point → Bool) → Point → Weighed
end m kept q = (walk kept (2 * m) (start m q)).triangle

-- u, as it is written, has the point's weights at its corners, and by them any f comes to what it does where the walk ends
pub record Agrees (m : ℕ) (kept : Point → Bool) (q : Point) (u : Three) : Type 0 where
  pub left : ℕ
  pub triangle : Weighed
  pub weighs : Weighs m left q triangle
  pub is : u ≡ written left triangle.l triangle.a triangle.r
  pub same : (f : Point → ℕ) → mean f triangle ≡ mean f (end m kept q)

module _ {m : ℕ} {kept : Point → Bool} (restricted : Restricted m kept) {q : Point} (inside : OfSquare m q) where
  -- from either starting triangle, on the diagonal
  diagonal : (f : Point → ℕ) {n j : ℕ} {t u : Weighed} → q.x ≡ q.y → Lands kept (2 * m) (in_first m q) n t →
      Lands kept (2 * m) (in_second m q) j u → mean f t ≡ mean f u
  diagonal f e p s =
      let south = at 0 0 in
      let north = at (side m) (side m) in
      (traced restricted f first p).longest (omega arith)
      ∙ long_back kept f (2 * m) south north (in_quarters m - q.x) q.y
      ∙ (λ i. long kept f (2 * m) north south (sym e i) (in_quarters m - e i))
      ∙ sym ((traced restricted f second s).longest (omega arith))

  -- where the walk starts
  from_first : q.y ≤ q.x → {u : Three} → Landing m kept q (2 * m) (in_first m q) u → Agrees m kept q u
  from_first h s = record {
    left = s.left;
    triangle = s.triangle;
    weighs = s.weighs;
    is = s.is;
    same = λ f. rw (start_first m q h, end) (same restricted f first s.lands (walk_lands m kept (2 * m) (in_first m q)));
  }

  from_second : q.x ≤ q.y → {u : Three} → Landing m kept q (2 * m) (in_second m q) u → Agrees m kept q u
  from_second h s = record {
    left = s.left;
    triangle = s.triangle;
    weighs = s.weighs;
    is = s.is;
    same = λ f. by f (dec_le q.y q.x);
  }
    where
      by : (f : Point → ℕ) → Dec (q.y ≤ q.x) → mean f s.triangle ≡ mean f (end m kept q)
      by f (yes l) = rw (start_first m q l, end) (sym (diagonal f (omega arith) (walk_lands m kept (2 * m) (in_first m q)) s.lands))
      by f (no l) =
          let o : q.x < q.y = omega arith in
          rw (start_second m q o, end) (same restricted f second s.lands (walk_lands m kept (2 * m) (in_second m q)))

  -- what contains the point in the second starting triangle lies north-west of the diagonal or on it
  above : Contains (written 0 (at (side m) (side m)) (at 0 (side m)) (at 0 0)) q → q.x ≤ q.y
  above i = le_of_mul-le-mul_left {k = in_quarters m} (omega (arith, i.third)) (omega (arith, pow_pos m))

  pub agrees : {u : Three} → Memᴰ u (mesh m kept) → Contains u q → Agrees m kept q u
  unfolding mesh
  agrees {u} i c =
      ⊎_elim
      (λ j.
      let h = (start_contains m q inside.east inside.north).0 (rw even at (grown (contains_grows q) kept (2 * m) 0 first (omega arith) j c)) in
      from_first h (landing kept (2 * m) 0 (started_first m q inside.east inside.north h) (omega arith) j c))
      (λ j.
      let h = above (rw even at (grown (contains_grows q) kept (2 * m) 0 second (omega arith) j c)) in
      from_second h (landing kept (2 * m) 0 (started_second m q inside.east inside.north h) (omega arith) j c))
      (Memᴰ.append_cases (firsts m kept) i)
    where
      even : odd (2 * m) ≡ false
      even = even_false (2 * m) (omega arith)

-- and where the walk ends is a triangle of the mesh
pub end_in : (m : ℕ) (kept : Point → Bool) (q : Point) →
    let u = walk kept (2 * m) (start m q) in
    Memᴰ (written u.left u.triangle.l u.triangle.a u.triangle.r) (mesh m kept)
unfolding mesh
end_in m kept q = by (dec_le q.y q.x)
  where
    by : Dec (q.y ≤ q.x) →
        let u = walk kept (2 * m) (start m q) in
        Memᴰ (written u.left u.triangle.l u.triangle.a u.triangle.r) (mesh m kept)
    by (yes h) = rw (start_first m q h) (Memᴰ.append_left (seconds m kept) (lands_in m kept (2 * m) 0 (omega arith) (walk_lands m kept (2 * m) (in_first m q))))
    by (no h) =
        let o : q.x < q.y = omega arith in
        rw (start_second m q o) (Memᴰ.append_right (firsts m kept) (lands_in m kept (2 * m) 0 (omega arith) (walk_lands m kept (2 * m) (in_second m q))))
