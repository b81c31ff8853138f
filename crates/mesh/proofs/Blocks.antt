-- A weight at each point, summed over all cuts of a square block: twice that, and the block's corners once, is the sum over its
-- cells of the weights at the corners of each. By the block's quarters, which are blocks again, cut along either diagonal.
use mathlib.Core.Path.{◌≡◌, refl}
use Prim.Native.Nat.{ℕ, zero, suc, ◌+◌, ◌*◌, ◌^◌}
use native.Mathlib.Nat.{pow-suc}
use native.Mathlib.Omega.{arith}
use Rattle.grid.specs.Grid.{at, midpoint}
use Rattle.grid.specs.declared.points.Point.{Point}
use Rattle.grid.proofs.Around.{same_point}
use Rattle.grid.proofs.Cutting.{Halfway}
use Rattle.mesh.proofs.Trapezoid.{area, area_quarters}

midway : {c p q : Point} → Halfway c p q → midpoint p q ≡ c
unfolding midpoint
midway h = same_point (omega arith) (omega arith)

-- the weights at the points of all cuts of (l, a, r), with k cuts left, whatever is kept
abbrev pub all_cuts : (Point → ℕ) → ℕ → Point → Point → Point → ℕ
all_cuts w zero l a r = 0
all_cuts w (suc k) l a r = w (midpoint l r) + (all_cuts w k l (midpoint l r) a + all_cuts w k a (midpoint l r) r)

module _ (w : Point → ℕ) where
  -- cut at c, the middle of its longest side, and then at d and e, those of the other two
  two_cuts : (k : ℕ) {l a r c d e : Point} → Halfway c l r → Halfway d l a → Halfway e a r →
      all_cuts w (suc (suc k)) l a r
      ≡ w c + (w d + (all_cuts w k l d c + all_cuts w k c d a)) + (w e + (all_cuts w k a e c + all_cuts w k c e r))
  two_cuts k p q s = rw (midway p, midway q, midway s) (omega arith)

  -- the two triangles of a block with these corners, in their order around it
  abbrev pub both_cuts : ℕ → Point → Point → Point → Point → ℕ
  both_cuts k l a r b = all_cuts w k l a r + all_cuts w k r b l

  -- a block with centre c and d, e, f, g halfway along its sides is cut into four blocks
  quarters : (k : ℕ) {l a r b c d e f g : Point} → Halfway c l r → Halfway d l a → Halfway e a r → Halfway f r b → Halfway g b l →
      both_cuts (suc (suc k)) l a r b
      ≡ w c + w c + w d + w e + w f + w g + both_cuts k l d c g + both_cuts k a e c d + both_cuts k r f c e + both_cuts k b g c f
  quarters k {l} {a} {r} {b} {c} p q s t u =
      let back : Halfway c r l = omega arith in
      omega (arith, two_cuts k p q s, two_cuts k back t u)

  -- the weights at the corners of the cell from (a, b)
  abbrev pub cell : ℕ → ℕ → ℕ
  cell a b = (w (at a b) + w (at (suc a) b)) + (w (at a (suc b)) + w (at (suc a) (suc b)))

  -- and of the block from (x, y) to (x', y')
  abbrev corners : ℕ → ℕ → ℕ → ℕ → ℕ
  corners x x' y y' = w (at x y) + w (at x' y) + w (at x' y') + w (at x y')

  -- that block, of 2^j by 2^j cells, first cut along the rising or the falling diagonal
  pub record Block (j x x' y y' : ℕ) : Type 0 where
    pub rising : 2 * both_cuts (2 * j) (at x y) (at x' y) (at x' y') (at x y') + corners x x' y y' ≡ area cell x y (2 ^ j)
    pub falling : 2 * both_cuts (2 * j) (at x' y) (at x' y') (at x y') (at x y) + corners x x' y y' ≡ area cell x y (2 ^ j)

  pub block : (j x x' y y' : ℕ) → x' ≡ x + 2 ^ j → y' ≡ y + 2 ^ j → Block j x x' y y'
  block zero x x' y y' e f =
      let i : x' ≡ suc x = omega arith in
      let k : y' ≡ suc y = omega arith in
      record { rising = rw (i, k) (omega arith); falling = rw (i, k) (omega arith) }
  block (suc j) x x'' y y'' e f =
      let s : 2 ^ suc j ≡ 2 ^ j + 2 ^ j = omega (arith, pow-suc 2 j) in
      let k : 2 * suc j ≡ suc (suc (2 * j)) = omega arith in
      let x' = x + 2 ^ j in
      let y' = y + 2 ^ j in
      let i : x'' ≡ x' + 2 ^ j = omega arith in
      let h : y'' ≡ y' + 2 ^ j = omega arith in
      let south_west = block j x x' y y' refl refl in
      let south_east = block j x' x'' y y' i refl in
      let north_east = block j x' x'' y' y'' i h in
      let north_west = block j x x' y' y'' refl h in
      let south : Halfway (at x' y) (at x y) (at x'' y) = omega arith in
      let east : Halfway (at x'' y') (at x'' y) (at x'' y'') = omega arith in
      let north : Halfway (at x' y'') (at x'' y'') (at x y'') = omega arith in
      let west : Halfway (at x y') (at x y'') (at x y) = omega arith in
      let rise : Halfway (at x' y') (at x y) (at x'' y'') = omega arith in
      let fall : Halfway (at x' y') (at x'' y) (at x y'') = omega arith in
      let all = area_quarters cell x y (2 ^ j) in
      record {
        rising = rw (s, k) (omega (arith, quarters (2 * j) rise south east north west));
        falling = rw (s, k) (omega (arith, quarters (2 * j) fall east north west south));
      }
