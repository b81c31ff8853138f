-- A triangle contains what its halves contain, and encloses what they enclose: a turn about a midpoint is the mean of the turns about the two
-- points, so the turns about the triangle's sides are sums of those about a half's.
use mathlib.Core.Path.{◌≡◌}
use mathlib.Core.Bool.{Bool, true, false, cond}
use mathlib.Core.List.Memᴰ
use mathlib.Core.List.{List, [], ◌∷◌, ◌++◌, Memᴰ}
use mathlib.Core.Logic.{⊎_elim}
use Prim.Native.Nat.{ℕ, zero, suc, ◌+◌, ◌*◌, ◌%◌}
use native.Mathlib.Decide.{ℕ_discrete}
use native.Mathlib.Omega.{arith}
use Rattle.grid.specs.Grid.{midpoint}
use Rattle.grid.specs.Turn.{onward, backward}
use Rattle.grid.specs.Hierarchy.{Triangle, first_half, second_half}
use Rattle.grid.specs.declared.points.Point.{Point}
use Rattle.grid.proofs.Cutting.{Halfway, cut}
use Rattle.grid.proofs.Turning.{right_sum, halfway}
use Rattle.grid.proofs.Parity.{even_false, odd_true}
use Rattle.mesh.specs.Triangles.{Three, three, written, uncut}
use Rattle.mesh.proofs.Proper.{flat_first}
use Rattle.aim.specs.Geometry.{quartered, Contains}
use Rattle.aim.proofs.Passages.{same_order}
use Rattle.surface.specs.Surface.{Encloses}

-- both parts of q's turn about a and a midpoint are the means of those about a and the two points
module _ (a c p s q : Point) (h : Halfway c p s) where
  onward_mean : 2 * onward a c q ≡ onward a p q + onward a s q
  onward_mean = omega (arith, right_sum c.x p.x s.x q.y h.east, right_sum c.y p.y s.y a.x h.north)

  backward_mean : 2 * backward a c q ≡ backward a p q + backward a s q
  backward_mean = omega (arith, right_sum c.x p.x s.x a.y h.east, right_sum c.y p.y s.y q.x h.north)

-- in quarter cells, too, it is midway
quartered_halfway : {c p s : Point} → Halfway c p s → Halfway (quartered c) (quartered p) (quartered s)
quartered_halfway h = omega (arith, h.east, h.north)

-- the turns of q about the sides of (l, a, r), by those about a half's
module _ (l a r c q : Point) (h : Halfway c l r) where
  abbrev on : Point → Point → ℕ
  on p s = onward (quartered p) (quartered s) q

  abbrev back : Point → Point → ℕ
  back p s = backward (quartered p) (quartered s) q

  sides : (2 * on a c ≡ on a l + on a r) × (2 * back a c ≡ back a l + back a r) × (2 * on l c + back l r ≡ 2 * back l c + on l r)
  sides =
      let h' = quartered_halfway h in
      omega (
        arith,
        onward_mean (quartered a) (quartered c) (quartered l) (quartered r) q h',
        backward_mean (quartered a) (quartered c) (quartered l) (quartered r) q h',
        onward_mean (quartered l) (quartered c) (quartered l) (quartered r) q h',
        backward_mean (quartered l) (quartered c) (quartered l) (quartered r) q h',
        flat_first (quartered l) q,
      )

-- What holds of a half holds of the triangle, in whichever order they are written: the first half of (l, a, r) is (l, c, a), and its second half is
-- the first of (r, a, l).
pub record Grows (P : Three → Type 0) : Type 0 where
  onwards : (l a r c : Point) → Halfway c l r → P (three l c a) → P (three r a l)
  backwards : (l a r c : Point) → Halfway c l r → P (three a c l) → P (three l a r)

pub contains_grows : (q : Point) → Grows (λ t. Contains t q)
contains_grows q = record {
  onwards = λ l a r c h i. omega (arith, i.first, i.second, i.third, sides l a r c q h);
  backwards = λ l a r c h i. omega (arith, i.first, i.second, i.third, sides l a r c q h);
}

pub encloses_grows : (q : Point) → Grows (λ t. Encloses t q)
encloses_grows q = record {
  onwards = λ l a r c h i. omega (arith, i.first, i.second, i.third, sides l a r c q h);
  backwards = λ l a r c h i. omega (arith, i.first, i.second, i.third, sides l a r c q h);
}

module _ {P : Three → Type 0} (grows : Grows P) {m : ℕ} where
  module _ {k : ℕ} {l a r : Point} (t : Triangle m (suc k) l a r) where
    from_first : P (written k l (midpoint l r) a) → P (written (suc k) l a r)
    from_first = by (ℕ_discrete (k % 2) 0)
      where
        by : Dec (k % 2 ≡ 0) → P (written k l (midpoint l r) a) → P (written (suc k) l a r)
        by (yes e) = rw (even_false k e, odd_true (suc k) (omega arith)) (grows.onwards l a r (midpoint l r) (halfway (cut t)))
        by (no n) = rw (odd_true k (omega arith), even_false (suc k) (omega arith)) (grows.backwards l a r (midpoint l r) (halfway (cut t)))

    from_second : P (written k a (midpoint l r) r) → P (written (suc k) l a r)
    from_second = by (ℕ_discrete (k % 2) 0)
      where
        back : Halfway (midpoint l r) r l
        back = omega (arith, halfway (cut t))

        by : Dec (k % 2 ≡ 0) → P (written k a (midpoint l r) r) → P (written (suc k) l a r)
        by (yes e) = rw (even_false k e, odd_true (suc k) (omega arith)) (grows.backwards r a l (midpoint l r) back)
        by (no n) = rw (odd_true k (omega arith), even_false (suc k) (omega arith)) (grows.onwards r a l (midpoint l r) back)

  -- so what holds of an uncut triangle holds of all those that led to it
  pub grown : (kept : Point → Bool) (k cuts : ℕ) {l a r : Point} {u : Three} → Triangle m k l a r → k + cuts ≡ 2 * m →
      Memᴰ u (uncut kept k cuts l a r) → P u → P (written k l a r)
  unfolding uncut
  grown kept zero cuts {l} {a} {r} t all i p =
      rw (← same_order m 0 cuts l a r all, ← Memᴰ.eq_of_singleton i) p
  grown kept (suc k) cuts {l} {a} {r} {u} t all i p =
      by (kept (midpoint l r))
      (λ j. from_first t (grown kept k (suc cuts) (first_half t) (omega arith) j p))
      (λ j. from_second t (grown kept k (suc cuts) (second_half t) (omega arith) j p)) i
    where
      by : (b : Bool) {ts us : List Three} → (Memᴰ u ts → P (written (suc k) l a r)) → (Memᴰ u us → P (written (suc k) l a r)) →
          Memᴰ u (cond b (ts ++ us) (written cuts l a r ∷ [])) → P (written (suc k) l a r)
      by true {ts} f g i = ⊎_elim f g (Memᴰ.append_cases ts i)
      by false f g i = rw (← same_order m (suc k) cuts l a r all, ← Memᴰ.eq_of_singleton i) p
