-- Each triangle of the mesh is one of the hierarchy, as it is written; so its corners are samples, and it turns counter-clockwise,
-- which three points do not where two of them are the same.
use mathlib.Core.Path.{◌≡◌, sym, subst}
use mathlib.Core.Bool.{Bool, true, false, cond}
use mathlib.Core.List.Memᴰ
use mathlib.Core.List.{List, [], ◌∷◌, ◌++◌, Memᴰ}
use mathlib.Core.Logic.{⊎_elim}
use Prim.Native.Nat.{ℕ, zero, suc, ◌+◌, ◌*◌, ◌%◌}
use native.Mathlib.Nat.{mul_comm}
use native.Mathlib.Decide.{ℕ_discrete}
use native.Mathlib.Omega.{arith}
use Rattle.grid.specs.Grid.{side, at, midpoint}
use Rattle.grid.specs.Turn.{onward, backward, CounterClockwise}
use Rattle.grid.specs.Hierarchy.{Triangle, first, second, first_half, second_half}
use Rattle.grid.specs.declared.points.Point.{Point}
use Rattle.grid.proofs.Cutting.{Corners, corners_inside}
use Rattle.grid.proofs.Parity.{even_false, odd_true}
use Rattle.grid.proofs.Turning.{counter_clockwise}
use Rattle.mesh.specs.Triangles.{Three, three, written, uncut, mesh}
use Rattle.mesh.specs.Rule.{Proper}

-- t is written from a triangle of the hierarchy that is Q: by the cuts left and made, and by its corners
pub record From (m : ℕ) (Q : ℕ → ℕ → Point → Point → Point → Type 0) (t : Three) : Type 0 where
  pub left : ℕ
  pub made : ℕ
  pub l : Point
  pub a : Point
  pub r : Point
  pub triangle : Triangle m left l a r
  pub holds : Q left made l a r
  pub is : t ≡ written made l a r

-- both halves of a triangle that is Q are Q
abbrev pub Inherited : ℕ → (ℕ → ℕ → Point → Point → Point → Type 0) → Type 0
Inherited m Q =
    (k cuts : ℕ) (l a r : Point) → Triangle m (suc k) l a r → Q (suc k) cuts l a r →
    Q k (suc cuts) l (midpoint l r) a × Q k (suc cuts) a (midpoint l r) r

-- then all uncut triangles that it leads to are
module _ {m : ℕ} {Q : ℕ → ℕ → Point → Point → Point → Type 0} (inherited : Inherited m Q) (kept : Point → Bool) {t : Three} where
  pub members : (k cuts : ℕ) {l a r : Point} → Triangle m k l a r → Q k cuts l a r → Memᴰ t (uncut kept k cuts l a r) → From m Q t
  unfolding uncut
  members zero cuts {l} {a} {r} u q i =
      record { left = zero; made = cuts; l = l; a = a; r = r; triangle = u; holds = q; is = Memᴰ.eq_of_singleton i }
  members (suc k) cuts {l} {a} {r} u q i =
      let h = inherited k cuts l a r u q in
      by (members k (suc cuts) (first_half u) h.0) (members k (suc cuts) (second_half u) h.1) (kept (midpoint l r)) i
    where
      by : {ts us : List Three} → (Memᴰ t ts → From m Q t) → (Memᴰ t us → From m Q t) → (b : Bool) →
          Memᴰ t (cond b (ts ++ us) (written cuts l a r ∷ [])) → From m Q t
      by {ts} f g true i = ⊎_elim f g (Memᴰ.append_cases ts i)
      by f g false i =
          record { left = suc k; made = cuts; l = l; a = a; r = r; triangle = u; holds = q; is = Memᴰ.eq_of_singleton i }

-- three points have no area between them where two of them are the same
module _ (p q : Point) where
  pub flat_first : onward p p q ≡ backward p p q
  flat_first = omega (arith, mul_comm p.x p.y, mul_comm p.x q.y, mul_comm p.y q.x)

  pub flat_second : onward p q q ≡ backward p q q
  flat_second = omega (arith, mul_comm q.x q.y, mul_comm p.x q.y, mul_comm p.y q.x)

  pub flat_third : onward p q p ≡ backward p q p
  flat_third = omega (arith, mul_comm p.x p.y, mul_comm p.x q.y, mul_comm p.y q.x)

proper_corners : {m : ℕ} {p q w : Point} → Corners m p q w → CounterClockwise p q w → Proper m (three p q w)
proper_corners {m} {p} {q} {w} c h = record {
  first = c.left;
  second = c.top;
  third = c.right;
  turns = h;
  first_second = λ e. omega (arith, flat_first p w, subst (λ (o : Point). CounterClockwise p o w) (sym e) h);
  second_third = λ e. omega (arith, flat_second p q, subst (λ (o : Point). CounterClockwise p q o) (sym e) h);
  third_first = λ e. omega (arith, flat_third p q, subst (λ (o : Point). CounterClockwise p q o) e h);
}

-- cuts made and cuts left are 2m in all, so both are even or both are odd
abbrev InAll : ℕ → ℕ → ℕ → Point → Point → Point → Type 0
InAll m k cuts l a r = cuts + k ≡ 2 * m

in_all : (m : ℕ) → Inherited m (InAll m)
in_all m k cuts l a r t e = omega arith

written_proper : {m : ℕ} {t : Three} → From m (InAll m) t → Proper m t
written_proper {m} {t} f = by (ℕ_discrete (f.made % 2) 0)
  where
    c : Corners m f.l f.a f.r
    c = corners_inside f.triangle

    by : Dec (f.made % 2 ≡ 0) → Proper m t
    by (yes e) =
        rw (f.is, even_false f.made e) (proper_corners c ((counter_clockwise f.triangle).0 (omega (arith, f.holds))))
    by (no e) =
        rw (f.is, odd_true f.made (omega arith))
        (proper_corners (record { left = c.right; top = c.top; right = c.left })
        ((counter_clockwise f.triangle).1 (omega (arith, f.holds))))

pub proper : (m : ℕ) (kept : Point → Bool) (t : Three) → Memᴰ t (mesh m kept) → Proper m t
unfolding mesh
proper m kept t i =
    ⊎_elim
    (λ j. written_proper (members (in_all m) kept (2 * m) 0 first (omega arith) j))
    (λ j. written_proper (members (in_all m) kept (2 * m) 0 second (omega arith) j))
    (Memᴰ.append_cases (uncut kept (2 * m) 0 (at 0 0) (at (side m) 0) (at (side m) (side m))) i)
