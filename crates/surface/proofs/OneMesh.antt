-- One mesh: each triangle that holds a point agrees with the one in which the walk ends, so any two agree. The point's weights are the only
-- barycentric ones, and its plane the only one, so it does not matter which are taken.
use mathlib.Core.Path.{◌≡◌, refl, sym, ap, ◌∙◌, subst}
use mathlib.Core.Bool.{Bool, true, ◌&&◌, and-eq-true_iff}
use mathlib.Core.List.{List}
use mathlib.Core.Logic.{inl, inr, ⊎_elim}
use Prim.Native.Nat.{ℕ, ◌*◌, ◌<◌}
use native.Mathlib.Nat.{eq_of_mul-eq-mul_left}
use native.Mathlib.Omega.{arith}
use lib.Dec.{eqb}
use borrow.Author.Tests.{eq-eqb, eqb-true}
use lib.IntN.{ℤ}
use lib.Pow.{pow_pos}
use Rattle.grid.specs.declared.points.Point.{Point}
use Rattle.grid.proofs.Around.{same_point}
use Rattle.mesh.specs.Triangles.{Three, written}
use Rattle.aim.specs.Geometry.{area, OfSquare, Plane, SomeCorner, Share}
use Rattle.aim.specs.Walk.{Weighed}
use Rattle.aim.specs.Aimed.{weighted, eastward, northward}
use Rattle.aim.proofs.Grounds.{plane_here, weighing_here, with_corners}
use Rattle.aim.proofs.Planes.{plane_only}
use Rattle.aim.proofs.Shares.{by_reading}
use Rattle.aim.proofs.Weights.{Weighs, area_power, barycentric_even, barycentric_odd}
use Rattle.surface.specs.OneMesh.{Restricted, Holding, Weights, weighed, Continuous}
use Rattle.surface.proofs.Landings.{mean}
use Rattle.surface.proofs.Agreement.{end, Agrees, agrees}
use Rattle.surface.proofs.Means.{same_height, same_weighing}

-- one weight is that share
share_only : (m : ℕ) (t : Three) (q p s : Point) (w v : ℕ) → 0 < area t → Share m t q p s w → Share m t q p s v → w ≡ v
share_only m t q p s w v some e k = eq_of_mul-eq-mul_left (area t) some w v (omega (arith, e, k))

-- so any weights come to what others do
weighed_only : (f : Point → ℕ) (m : ℕ) (t : Three) (q : Point) → 0 < area t → (w v : Weights m t q) → weighed f w ≡ weighed f v
weighed_only f m t q some w v =
    let first = share_only m t q t.second t.third w.first v.first some w.are.first_turn v.are.first_turn in
    let second = share_only m t q t.third t.first w.second v.second some w.are.second_turn v.are.second_turn in
    let third = share_only m t q t.first t.second w.third v.third some w.are.third_turn v.are.third_turn in
    omega (arith, ap (λ (n : ℕ). n * f t.first) first, ap (λ (n : ℕ). n * f t.second) second, ap (λ (n : ℕ). n * f t.third) third)

-- the walk's weights, of a triangle as it is written
pub record Own (m : ℕ) (q : Point) (t : Weighed) (u : Three) : Type 0 where
  pub weights : Weights m u q
  pub comes : (f : Point → ℕ) → weighed f weights ≡ mean f t

own : {m k : ℕ} {q : Point} {t : Weighed} → Weighs m k q t → Own m q t (written k t.l t.a t.r)
own {m} {k} {q} {t} h =
    by_reading (λ u. Own m q t u) k t.l t.a t.r
    (λ e. record {
      weights = record { first = t.wl; second = t.wa; third = t.wr; are = barycentric_even h e };
      comes = λ f. refl;
    })
    (λ o. record {
      weights = record { first = t.wr; second = t.wa; third = t.wl; are = barycentric_odd h o };
      comes = λ f. omega arith;
    })

-- the sample is that one
abbrev is : Point → Point → Bool
is p c = eqb c.x p.x && eqb c.y p.y

is_it : (p c : Point) → is p c ≡ true → c ≡ p
is_it p c e =
    let both = (and-eq-true_iff (eqb c.x p.x) (eqb c.y p.y)).0 e in
    same_point (eqb-true c.x p.x both.0) (eqb-true c.y p.y both.1)

is_self : (p : Point) → is p p ≡ true
is_self p = rw (eq-eqb p.x p.x refl, eq-eqb p.y p.y refl) refl

module _ {m : ℕ} {kept : Point → Bool} {q : Point} {t s : Three} (a : Agrees m kept q t) (b : Agrees m kept q s) where
  -- a corner p that weighs in t weighs in s
  found : (Holds : Point → Type 0) {p : Point} → Holds p → SomeCorner (λ c. is p c ≡ true) t q → SomeCorner Holds s q
  found Holds {p} holds here =
      let test = is p in
      let same = same_weighing test a.triangle (end m kept q) a.same ∙ sym (same_weighing test b.triangle (end m kept q) b.same) in
      let mine = (weighing_here a.weighs test).1 (subst (λ (u : Three). SomeCorner (λ c. test c ≡ true) u q) a.is here) in
      let there = subst (λ (u : Three). SomeCorner (λ c. test c ≡ true) u q) (sym b.is) ((weighing_here b.weighs test).0 (sym same ∙ mine)) in
      let it : (c : Point) → is p c ≡ true → Holds c = λ c e. subst Holds (sym (is_it p c e)) holds in
      with_corners (it s.first) (it s.second) (it s.third) there

  carried : (Holds : Point → Type 0) → SomeCorner Holds t q → SomeCorner Holds s q
  carried Holds o =
      ⊎_elim (λ w. found Holds w.holds (inl (record { weighs = w.weighs; holds = is_self t.first })))
      (λ o.
      ⊎_elim (λ w. found Holds w.holds (inr (inl (record { weighs = w.weighs; holds = is_self t.second }))))
      (λ w. found Holds w.holds (inr (inr (record { weighs = w.weighs; holds = is_self t.third })))) o) o

-- by what any f comes to, and by the only plane
module _ {m : ℕ} {kept : Point → Bool} {q : Point} {t : Three} (a : Agrees m kept q t) where
  mine : Own m q a.triangle t
  mine = rw a.is (own a.weighs)

  some : 0 < area t
  some = rw (a.is, area_power a.weighs.triangle) (pow_pos a.left)

  comes : (w : Weights m t q) (f : Point → ℕ) → weighed f w ≡ mean f (end m kept q)
  comes w f = weighed_only f m t q some w mine.weights ∙ mine.comes f ∙ a.same f

  whole : (heights : List ℤ) {z e n : ℤ} → Plane m heights t q z e n → z ≡ weighted m heights (end m kept q)
  whole heights {z} {e} {n} p =
      let u = a.triangle in
      let here : Plane m heights t q (weighted m heights u) (eastward m heights t) (northward m heights t) =
      rw a.is (plane_here a.weighs heights) in
      (plane_only m heights t q some z e n (weighted m heights u) (eastward m heights t) (northward m heights t) p here).0 ∙ same_height m heights u (end m kept q) a.same

pub continuous : {m : ℕ} {kept : Point → Bool} → Restricted m kept → Continuous m kept
continuous {m} {kept} legs = record {
  weights = λ q inside t h. (mine (at q inside t h)).weights;
  same = λ q inside t s h k w v f. comes (at q inside t h) w f ∙ sym (comes (at q inside s k) v f);
  level = λ q inside t s h k heights p r. whole (at q inside t h) heights p ∙ sym (whole (at q inside s k) heights r);
  origin = λ q inside t s h k Holds.
      let a = at q inside t h in
      let b = at q inside s k in
      (carried a b Holds, carried b a Holds);
}
  where
    at : (q : Point) → OfSquare m q → (t : Three) → Holding m kept q t → Agrees m kept q t
    at q inside t h = agrees legs inside h.written h.contains
