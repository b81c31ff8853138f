-- The trace of a side: what f comes to at a point of it, straight between its ends unless its midpoint is kept, and then by the half that the point
-- is in. By weights u and v at the ends p and s. It is the same read from either end.
use mathlib.Core.Path.{◌≡◌, refl, sym, ap, ◌∙◌}
use mathlib.Core.Bool.{Bool, true, false, cond}
use Prim.Native.Nat.{ℕ, zero, suc, ◌+◌, ◌-◌, ◌*◌, ◌≤◌, ◌<◌}
use native.Mathlib.Decide.{dec_le}
use native.Mathlib.Omega.{arith}
use lib.Dec.{leb}
use borrow.Author.Tests.{le-leb, lt-leb}
use Rattle.grid.specs.Grid.{midpoint}
use Rattle.grid.specs.declared.points.Point.{Point}
use Rattle.grid.proofs.Around.{same_point}

midpoint_back : (p s : Point) → midpoint p s ≡ midpoint s p
unfolding midpoint
midpoint_back p s = same_point (omega arith) (omega arith)

-- by a weight of zero
pub none : (w n k : ℕ) → w ≡ 0 → w * n ≡ w * k
none w n k e = rw e (omega arith)

module _ (kept : Point → Bool) (f : Point → ℕ) where
  abbrev pub straight : Point → Point → ℕ → ℕ → ℕ
  straight p s u v = u * f p + v * f s

  -- of the longest side of a triangle with k cuts left, and of a leg of one
  unfoldable mutual
    pub long : ℕ → Point → Point → ℕ → ℕ → ℕ
    long zero p s u v = straight p s u v
    long (suc k) p s u v =
        cond (kept (midpoint p s))
        (cond (leb v u) (leg k p (midpoint p s) (u - v) (2 * v)) (leg k (midpoint p s) s (2 * u) (v - u)))
        (straight p s u v)

    pub leg : ℕ → Point → Point → ℕ → ℕ → ℕ
    leg zero p s u v = straight p s u v
    leg (suc k) p s u v = long k p s u v

  -- at an end it is what f is there
  pub record Ends (trace : Point → Point → ℕ → ℕ → ℕ) : Type 0 where
    pub first : (p s : Point) (u v : ℕ) → v ≡ 0 → trace p s u v ≡ u * f p
    pub second : (p s : Point) (u v : ℕ) → u ≡ 0 → trace p s u v ≡ v * f s

  straight_ends : Ends straight
  straight_ends = record {
    first = λ p s u v e. omega (arith, none v (f s) 0 e);
    second = λ p s u v e. omega (arith, none u (f p) 0 e);
  }

  module _ (k : ℕ) (p s : Point) (u v : ℕ) (keeps : kept (midpoint p s) ≡ true) where
    by_first : v ≤ u → long (suc k) p s u v ≡ leg k p (midpoint p s) (u - v) (2 * v)
    unfolding long
    by_first h = rw (keeps, le-leb v u h)

    by_second : u < v → long (suc k) p s u v ≡ leg k (midpoint p s) s (2 * u) (v - u)
    unfolding long
    by_second h = rw (keeps, lt-leb v u h)

  pub uncut_long : (k : ℕ) (p s : Point) (u v : ℕ) → kept (midpoint p s) ≡ false → long (suc k) p s u v ≡ straight p s u v
  unfolding long
  uncut_long k p s u v out = rw out

  -- so of a side that has a midpoint, by its halves
  module _ (k : ℕ) (half : Ends (leg k)) (p s : Point) (u v : ℕ) where
    long_first : v ≡ 0 → (b : Bool) → kept (midpoint p s) ≡ b → long (suc k) p s u v ≡ u * f p
    long_first e true keeps =
        let all : u - v ≡ u = omega arith in
        by_first k p s u v keeps (omega arith) ∙ half.first p (midpoint p s) (u - v) (2 * v) (omega arith) ∙ ap (λ (n : ℕ). n * f p) all
    long_first e false out = uncut_long k p s u v out ∙ straight_ends.first p s u v e

    long_second : u ≡ 0 → (b : Bool) → kept (midpoint p s) ≡ b → long (suc k) p s u v ≡ v * f s
    long_second e false out = uncut_long k p s u v out ∙ straight_ends.second p s u v e
    long_second e true keeps = by (dec_le v u)
      where
        by : Dec (v ≤ u) → long (suc k) p s u v ≡ v * f s
        by (yes h) =
            let c = midpoint p s in
            let w : 2 * v * f c ≡ v * f s = omega (arith, none v (f c) 0 (omega arith), none v (f s) 0 (omega arith)) in
            by_first k p s u v keeps h ∙ half.second p c (u - v) (2 * v) (omega arith) ∙ w
        by (no h) =
            let all : v - u ≡ v = omega arith in
            by_second k p s u v keeps (omega arith) ∙ half.second (midpoint p s) s (2 * u) (v - u) (omega arith) ∙ ap (λ (n : ℕ). n * f s) all

  mutual
    unfolding long leg

    pub long_ends : (k : ℕ) → Ends (long k)
    long_ends zero = straight_ends
    long_ends (suc k) = record {
      first = λ p s u v e. long_first k (leg_ends k) p s u v e (kept (midpoint p s)) refl;
      second = λ p s u v e. long_second k (leg_ends k) p s u v e (kept (midpoint p s)) refl;
    }

    pub leg_ends : (k : ℕ) → Ends (leg k)
    leg_ends zero = straight_ends
    leg_ends (suc k) = long_ends k

  -- at the midpoint it is of both halves
  module _ (k : ℕ) (p s : Point) (u v : ℕ) (keeps : kept (midpoint p s) ≡ true) where
    pub first_part : v ≤ u → long (suc k) p s u v ≡ leg k p (midpoint p s) (u - v) (2 * v)
    first_part h = by_first k p s u v keeps h

    pub second_part : u ≤ v → long (suc k) p s u v ≡ leg k (midpoint p s) s (2 * u) (v - u)
    second_part h = by (dec_le v u)
      where
        by : Dec (v ≤ u) → long (suc k) p s u v ≡ leg k (midpoint p s) s (2 * u) (v - u)
        by (no l) = by_second k p s u v keeps (omega arith)
        by (yes l) =
            let c = midpoint p s in
            let same : 2 * v ≡ 2 * u = omega arith in
            by_first k p s u v keeps l
            ∙ (leg_ends k).second p c (u - v) (2 * v) (omega arith)
            ∙ ap (λ (n : ℕ). n * f c) same
            ∙ sym ((leg_ends k).first c s (2 * u) (v - u) (omega arith))

  -- read from the other end
  abbrev Back : (Point → Point → ℕ → ℕ → ℕ) → Type 0
  Back trace = (p s : Point) (u v : ℕ) → trace p s u v ≡ trace s p v u

  straight_back : Back straight
  straight_back p s u v = omega arith

  module _ (k : ℕ) (half : Back (leg k)) (p s : Point) (u v : ℕ) where
    by_halves : (b : Bool) → kept (midpoint p s) ≡ b → long (suc k) p s u v ≡ long (suc k) s p v u
    by_halves false out =
        let same = midpoint_back s p in
        uncut_long k p s u v out ∙ straight_back p s u v ∙ sym (uncut_long k s p v u (ap kept same ∙ out))
    by_halves true keeps = by (dec_le v u)
      where
        c : Point
        c = midpoint p s

        same : midpoint s p ≡ c
        same = midpoint_back s p

        by : Dec (v ≤ u) → long (suc k) p s u v ≡ long (suc k) s p v u
        by (yes h) =
            first_part k p s u v keeps h
            ∙ half p c (u - v) (2 * v)
            ∙ sym (second_part k s p v u (ap kept same ∙ keeps) h ∙ ap (λ (d : Point). leg k d p (2 * v) (u - v)) same)
        by (no h) =
            second_part k p s u v keeps (omega arith)
            ∙ half c s (2 * u) (v - u)
            ∙ sym (first_part k s p v u (ap kept same ∙ keeps) (omega arith) ∙ ap (λ (d : Point). leg k s d (v - u) (2 * u)) same)

  mutual
    unfolding long leg

    pub long_back : (k : ℕ) (p s : Point) (u v : ℕ) → long k p s u v ≡ long k s p v u
    long_back zero p s u v = straight_back p s u v
    long_back (suc k) p s u v = by_halves k (λ p s u v. leg_back k p s u v) p s u v (kept (midpoint p s)) refl

    pub leg_back : (k : ℕ) (p s : Point) (u v : ℕ) → leg k p s u v ≡ leg k s p v u
    leg_back zero p s u v = straight_back p s u v
    leg_back (suc k) p s u v = long_back k p s u v
