-- What is known of the triangle in which the walk ends: its plane at the point, whether a corner that weighs in it was filled, and that no
-- number worked out from it is too large for a float. The weights are the walk's own; the rest is the plane's algebra.
use mathlib.Core.Path.{◌≡◌, sym, ap, ◌∙◌}
use mathlib.Core.Bool.{Bool, true, not, ◌&&◌, ◌||◌, and-eq-true_iff, true≢false}
use mathlib.Core.List.{List}
use mathlib.Core.Logic.{◌⊎◌, inl, inr, ⊎_elim, ◌↔◌}
use Prim.Native.Nat.{ℕ, ◌*◌, ◌≤◌}
use native.Mathlib.Omega.{arith}
use lib.Dec.{eqb}
use lib.IntN.{ℤ, pos, ◌+ℤ◌, ◌*ℤ◌, +ℤ_comm, +ℤ_assoc}
use borrow.Author.Tests.{eq-eqb, ne_eqb}
use Rattle.grid.specs.Mark.{filled_mark}
use Rattle.grid.specs.declared.points.Point.{Point}
use Rattle.grid.proofs.Turning.{turns, mirror}
use Rattle.survey.specs.Filled.{sample}
use Rattle.selection.specs.Marks.{mark_at}
use Rattle.mesh.specs.Triangles.{Three, three, written}
use Rattle.aim.specs.Walk.{Weighed, start}
use Rattle.aim.specs.Aimed.{Handed, ended, as_written, weighted, eastward, northward, is_filled}
use Rattle.aim.specs.Geometry.{OnLine, Plane, WeighsIn, SomeCorner}
use Rattle.aim.specs.Rule.{queried, kept_of, Within, FilledCorner}
use Rattle.aim.proofs.Either.{any}
use Rattle.aim.proofs.Planes.{plane_of}
use Rattle.aim.proofs.Shares.{by_reading}
use Rattle.aim.proofs.Weights.{Weighs, started, walked, walked_left, weighs_l, weighs_a, weighs_r}

backwards : (a b c : ℤ) → c +ℤ b +ℤ a ≡ a +ℤ b +ℤ c
backwards a b c = +ℤ_comm (c +ℤ b) a ∙ ap (λ (z : ℤ). a +ℤ z) (+ℤ_comm c b) ∙ sym (+ℤ_assoc a b c)

-- a line is the same from either end
swap : (p s q : Point) → OnLine p s q → OnLine s p q
swap p s q e = omega arith

-- one of three holds, by what each says
same_of : {T A B C P Q R : Type 0} → T ↔ (A ⊎ (B ⊎ C)) → A ↔ P → B ↔ Q → C ↔ R → T ↔ (P ⊎ (Q ⊎ R))
same_of s a b c = (
  λ t. ⊎_elim (λ x. inl (a.0 x)) (λ o. ⊎_elim (λ x. inr (inl (b.0 x))) (λ x. inr (inr (c.0 x))) o) (s.0 t),
  λ o. s.1 (⊎_elim (λ x. inl (a.1 x)) (λ o. ⊎_elim (λ x. inr (inl (b.1 x))) (λ x. inr (inr (c.1 x))) o) o),
)

turn_about : {A B C : Type 0} → A ⊎ (B ⊎ C) → C ⊎ (B ⊎ A)
turn_about o = ⊎_elim (λ x. inr (inr x)) (λ o. ⊎_elim (λ x. inr (inl x)) inl o) o

-- what holds of each corner with another thing holds of one that weighs in with it
pub with_corners : {P Q : Point → Type 0} {t : Three} {q : Point} → (P t.first → Q t.first) → (P t.second → Q t.second) →
    (P t.third → Q t.third) → SomeCorner P t q → SomeCorner Q t q
with_corners f g h o =
    ⊎_elim (λ c. inl (record { weighs = c.weighs; holds = f c.holds }))
    (λ o. ⊎_elim (λ c. inr (inl (record { weighs = c.weighs; holds = g c.holds }))) (λ c. inr (inr (record { weighs = c.weighs; holds = h c.holds }))) o) o

module _ {m : ℕ} {q : Point} {k : ℕ} {t : Weighed} (w : Weighs m k q t) where
  -- the plane through the corners
  pub plane_here : (heights : List ℤ) →
      let t' = written k t.l t.a t.r in
      Plane m heights t' q (weighted m heights t) (eastward m heights t') (northward m heights t')
  unfolding weighted
  plane_here heights =
      let l = pos t.wl *ℤ sample m heights t.l in
      let a = pos t.wa *ℤ sample m heights t.a in
      let r = pos t.wr *ℤ sample m heights t.r in
      by_reading (λ u. Plane m heights u q (l +ℤ a +ℤ r) (eastward m heights u) (northward m heights u)) k t.l t.a t.r
      (λ e. plane_of m heights (three t.l t.a t.r) q t.wl t.wa t.wr (omega (arith, (turns w.triangle).even e)) w.sum w.east w.north)
      (λ o.
      rw (← backwards l a r)
      (plane_of m heights (three t.r t.a t.l) q t.wr t.wa t.wl (omega (arith, (turns w.triangle).odd o, mirror t.l t.a t.r))
      (omega (arith, w.sum)) (omega (arith, w.east)) (omega (arith, w.north))))

-- a test holds of a corner p of weight n, and it weighs in
abbrev one : (Point → Bool) → ℕ → Point → Bool
one test n p = not (eqb n 0) && test p

-- of some corner
abbrev pub weighing : (Point → Bool) → Weighed → Bool
weighing test t = one test t.wl t.l || (one test t.wa t.a || one test t.wr t.r)

module _ (test : Point → Bool) (q : Point) where
  -- a corner weighs in where the point is not on the line of the other two
  module _ (p s r : Point) (n : ℕ) (line : OnLine s r q ↔ (n ≡ 0)) where
    one_by : (one test n p ≡ true) ↔ WeighsIn (λ p. test p ≡ true) q p s r
    one_by =
        let both = and-eq-true_iff (not (eqb n 0)) (test p) in (
          λ e. let b = both.0 e in record { weighs = λ on. true≢false (sym b.0 ∙ rw (eq-eqb n 0 (line.0 on))); holds = b.1 },
          λ f. both.1 (rw (ne_eqb n 0 (λ z. f.weighs (line.1 z))), f.holds),
        )

  -- which is the same from either end
  module _ (p s r : Point) (n : ℕ) (line : OnLine s r q ↔ (n ≡ 0)) where
    one_back : (one test n p ≡ true) ↔ WeighsIn (λ p. test p ≡ true) q p r s
    one_back = one_by p r s n (λ on. line.0 (swap r s q on), λ z. swap s r q (line.1 z))

pub weighing_here : {m : ℕ} {q : Point} {k : ℕ} {t : Weighed} → Weighs m k q t → (test : Point → Bool) →
    (weighing test t ≡ true) ↔ SomeCorner (λ p. test p ≡ true) (written k t.l t.a t.r) q
weighing_here {q = q} {k = k} {t = t} w test =
    let three = any (one test t.wl t.l) (one test t.wa t.a) (one test t.wr t.r) in
    let back =
    same_of three (one_back test q t.l t.a t.r t.wl (weighs_l w)) (one_back test q t.a t.r t.l t.wa (weighs_a w))
    (one_back test q t.r t.l t.a t.wr (weighs_r w))
    in
    by_reading (λ u. (weighing test t ≡ true) ↔ SomeCorner (λ p. test p ≡ true) u q) k t.l t.a t.r
    (λ e.
    same_of three (one_by test q t.l t.a t.r t.wl (weighs_l w)) (one_by test q t.a t.r t.l t.wa (weighs_a w))
    (one_by test q t.r t.l t.a t.wr (weighs_r w)))
    (λ o. (λ f. turn_about (back.0 f), λ c. back.1 (turn_about c)))

module _ (h : Handed) (w : Within h) where
  pub weighs : Weighs h.m (ended h).left (queried h) (ended h).triangle
  unfolding ended
  weighs = walked (kept_of h) (2 * h.m) (start h.m (queried h)) (started h.m (queried h) w.east w.north)

  pub cuts_left : (ended h).left ≤ 2 * h.m
  unfolding ended
  cuts_left = walked_left (kept_of h) (2 * h.m) (start h.m (queried h))

  pub plane : Plane h.m h.heights (as_written (ended h)) (queried h) (weighted h.m h.heights (ended h).triangle)
      (eastward h.m h.heights (as_written (ended h))) (northward h.m h.heights (as_written (ended h)))
  plane = plane_here weighs h.heights

  pub filled_here : (is_filled h.m h.marks (ended h).triangle ≡ true) ↔ FilledCorner h (as_written (ended h))
  unfolding is_filled
  filled_here = weighing_here weighs (λ p. filled_mark (mark_at h.m h.marks p))
