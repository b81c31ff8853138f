-- A line through two points parts any two triangles of the mesh: that from the apex to the cut parts the halves of a triangle, the diagonal the two that
-- the square starts as, and what they lead to stays on its side, for midpoints do. So no two triangles have the same corners.
use mathlib.Core.Path.{◌≡◌, refl}
use mathlib.Core.Bool.{Bool, true, false, cond}
use mathlib.Core.List.{Memᴰ}
use Prim.Native.Nat.{ℕ, ◌+◌, ◌*◌, ◌%◌, ◌≤◌, ◌<◌}
use native.Mathlib.Nat.{mul-pos}
use native.Mathlib.Decide.{ℕ_discrete}
use native.Mathlib.Omega.{arith}
use lib.Pow.{pow_pos}
use Rattle.grid.specs.Grid.{side, at, midpoint}
use Rattle.grid.specs.Points.{odd}
use Rattle.grid.specs.Turn.{onward, backward}
use Rattle.grid.specs.Hierarchy.{Triangle, first, second, first_half, second_half}
use Rattle.grid.specs.declared.points.Point.{Point}
use Rattle.grid.proofs.Cutting.{cut}
use Rattle.grid.proofs.Turning.{right_sum, halfway, turns, mirror}
use Rattle.mesh.specs.Triangles.{Three, three, uncut, mesh}
use Rattle.mesh.specs.Rule.{corners_of, Same}
use Rattle.mesh.proofs.Pairs.{Pairs, Across, Halves, pairs_mesh}
use Rattle.mesh.proofs.Proper.{From, Inherited, members, flat_second, flat_third}

-- no corner is to the left of the line from p to s, and not all of them are on it
pub record Aside (p s l a r : Point) : Type 0 where
  pub left : onward p s l ≤ backward p s l
  pub top : onward p s a ≤ backward p s a
  pub right : onward p s r ≤ backward p s r
  pub off : onward p s l + onward p s a + onward p s r < backward p s l + backward p s a + backward p s r

-- so of a triangle as it is written
abbrev pub Beside : Point → Point → Three → Type 0
Beside p s t = Aside p s t.first t.second t.third

-- of any of its corners
pub each : (p s : Point) (t : Three) → Beside p s t → (q : Point) → Memᴰ q (corners_of t) → onward p s q ≤ backward p s q
each p s t h q (Memᴰ.head e) = rw e h.left
each p s t h q (Memᴰ.tail (Memᴰ.head e)) = rw e h.top
each p s t h q (Memᴰ.tail (Memᴰ.tail (Memᴰ.head e))) = rw e h.right
each p s t h q (Memᴰ.tail (Memᴰ.tail (Memᴰ.tail i))) = elim i [ ]

-- a line parts two triangles: from its other end the second is aside
pub record Sides (t u : Three) : Type 0 where
  pub from : Point
  pub to : Point
  pub first : Beside from to t
  pub second : Beside to from u

-- seen from the other end, left is right
pub back : (p s q : Point) → onward s p q ≤ backward s p q → backward p s q ≤ onward p s q
back p s q h = omega (arith, h)

-- then one has a corner off the line, and the other none on that side
pub differ : {t u : Three} → Sides t u → ¬ (Same t u)
differ {t} {u} h same =
    omega (
      arith,
      h.first.off,
      there t.first ((same t.first).0 (Memᴰ.head refl)),
      there t.second ((same t.second).0 (Memᴰ.tail (Memᴰ.head refl))),
      there t.third ((same t.third).0 (Memᴰ.tail (Memᴰ.tail (Memᴰ.head refl)))),
    )
  where
    there : (q : Point) → Memᴰ q (corners_of u) → backward h.from h.to q ≤ onward h.from h.to q
    there q i = back h.from h.to q (each h.to h.from u h.second q i)

-- both halves of a triangle that is aside are, so all uncut triangles that it leads to
module _ (p s : Point) where
  abbrev Lies : ℕ → ℕ → Point → Point → Point → Type 0
  Lies k cuts l a r = Aside p s l a r

  stays : (m : ℕ) → Inherited m Lies
  stays m k cuts l a r t h =
      let c = midpoint l r in
      let w = halfway (cut t) in
      omega (
        arith,
        h,
        right_sum c.y l.y r.y s.x w.north,
        right_sum c.x l.x r.x p.y w.east,
        right_sum c.y l.y r.y p.x w.north,
        right_sum c.x l.x r.x s.y w.east,
      )

  lies : {m : ℕ} (kept : Point → Bool) (k cuts : ℕ) {l a r : Point} {t : Three} → Triangle m k l a r → Aside p s l a r →
      Memᴰ t (uncut kept k cuts l a r) → Beside p s t
  lies {m} kept k cuts {t = t} u h i = let w = members (stays m) kept k cuts u h i in rw w.is (by w (odd w.made))
    where
      by : (w : From m Lies t) (b : Bool) → Beside p s (cond b (three w.r w.a w.l) (three w.l w.a w.r))
      by w true = omega (arith, w.holds)
      by w false = w.holds

-- so it is with what two triangles on different sides lead to
by_line : {m : ℕ} (kept : Point → Bool) (k cuts : ℕ) {l a r l' a' r' : Point} (p s : Point) → Triangle m k l a r → Triangle m k l' a' r' →
    Aside p s l a r → Aside s p l' a' r' → Across Sides (uncut kept k cuts l a r) (uncut kept k cuts l' a' r')
by_line kept k cuts p s t u h h' v w i j =
    record { from = p; to = s; first = lies p s kept k cuts t h i; second = lies s p kept k cuts u h' j }

-- (l, c, a) and (a, c, r) turn the same way, so l and r lie on different sides of the line from a by c
halves : {m : ℕ} (kept : Point → Bool) → Halves Sides m kept
halves {m} kept k cuts l a r t all = by (ℕ_discrete (k % 2) 0)
  where
    c : Point
    c = midpoint l r

    by : Dec (k % 2 ≡ 0) → Across Sides (uncut kept k cuts l (midpoint l r) a) (uncut kept k cuts a (midpoint l r) r)
    by (yes e) =
        by_line kept k cuts a c (first_half t) (second_half t)
        (omega (arith, (turns (first_half t)).even e, mirror l c a, pow_pos k, flat_second a c, flat_third a c))
        (omega (arith, (turns (second_half t)).even e, pow_pos k, flat_second a c, flat_third a c))
    by (no n) =
        by_line kept k cuts c a (first_half t) (second_half t)
        (omega (arith, (turns (first_half t)).odd (omega arith), mirror l c a, pow_pos k, flat_second a c, flat_third a c))
        (omega (arith, (turns (second_half t)).odd (omega arith), pow_pos k, flat_second a c, flat_third a c))

-- the two that the square starts as lie on different sides of the line from (0, 0) to (N, N)
pub sides : (m : ℕ) (kept : Point → Bool) → Pairs Sides (mesh m kept)
sides m kept =
    pairs_mesh Sides m kept (halves kept)
    (by_line kept (2 * m) 0 (at 0 0) (at (side m) (side m)) first second (omega (arith, square)) (omega (arith, square)))
  where
    square : 0 < side m * side m
    square = mul-pos (pow_pos m) (pow_pos m)
