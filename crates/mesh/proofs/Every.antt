-- Every member of a list: what `every` says of the members, and of the grid's points. By the list's first member and the rest; the
-- grid's points are those inside the square, each at its place.
use mathlib.Core.Path.{◌≡◌, refl, sym, ap, ◌∙◌, subst⁻¹}
use mathlib.Core.Bool.{Bool, true, ◌&&◌, and_assoc, and-eq-true_iff}
use mathlib.Core.List.Memᴰ
use mathlib.Core.List.{List, [], ◌∷◌, ◌++◌, Memᴰ}
use mathlib.Core.Logic.{⊎_elim, ◌↔◌}
use Prim.Native.Nat.{ℕ, zero, suc, ◌-◌, ◌<◌}
use native.Mathlib.Nat.{not-suc-le-zero, le_of_suc-le-suc}
use native.Mathlib.Omega.{arith}
use lib.ListN.{length, get_or, take, drop}
use Rattle.grid.specs.Grid.{samples, place, point, Inside}
use Rattle.grid.specs.declared.points.Point.{Point}
use Rattle.grid.proofs.OnGrid.{length_on_grid, on_grid_place, on_grid_point, room}
use Rattle.grid.proofs.Places.{point_inside}
use Rattle.mesh.specs.Triangles.{points}
use Rattle.mesh.specs.Closed.{every}

-- the members of a list from one place on and before another
abbrev pub slice : {A : Type 0} → ℕ → ℕ → List A → List A
slice from to l = take (to - from) (drop from l)

-- a member stands at an index, and what stands at an index is a member
module _ {A : Type 0} where
  pub at_in : (l : List A) (i : ℕ) (d : A) → i < length l → Memᴰ (get_or l i d) l
  at_in [] i d h = absurd (not-suc-le-zero h)
  at_in (a ∷ l) zero d h = Memᴰ.head refl
  at_in (a ∷ l) (suc i) d h = Memᴰ.tail (at_in l i d (le_of_suc-le-suc h))

  pub in_at : {q : A} (l : List A) (d : A) → Memᴰ q l → (i : ℕ) × (i < length l) × (q ≡ get_or l i d)
  in_at [] d k = absurd (Memᴰ.not-nil k)
  in_at {q} (a ∷ l) d k =
      ⊎_elim (λ e. (0, omega arith, e)) (λ (r : Memᴰ q l). let w = in_at l d r in (suc w.0, omega (arith, w.1), w.2)) (Memᴰ.cases_cons k)

module _ {A : Type 0} (f : A → Bool) where
  pub every_in : {q : A} (l : List A) → every f l ≡ true → Memᴰ q l → f q ≡ true
  every_in [] e i = absurd (Memᴰ.not-nil i)
  every_in (a ∷ l) e i =
      let both = (and-eq-true_iff (f a) (every f l)).0 e in
      ⊎_elim (λ s. ap f s ∙ both.0) (λ k. every_in l both.1 k) (Memᴰ.cases_cons i)

  pub in_every : (l : List A) → ((q : A) → Memᴰ q l → f q ≡ true) → every f l ≡ true
  in_every [] all = refl
  in_every (a ∷ l) all = rw (all a (Memᴰ.head refl)) (in_every l (λ q i. all q (Memᴰ.tail i)))

-- the members of two lists in a row, and two tests that agree at the members
module _ {A : Type 0} (f : A → Bool) where
  pub every_append : (l k : List A) → every f (l ++ k) ≡ (every f l && every f k)
  every_append [] k = refl
  every_append (a ∷ l) k = rw (every_append l k) (sym (and_assoc (f a) (every f l) (every f k)))

  pub every_same : (g : A → Bool) (l : List A) → ((q : A) → Memᴰ q l → f q ≡ g q) → every f l ≡ every g l
  every_same g [] same = refl
  every_same g (a ∷ l) same =
      let first = same a (Memᴰ.head refl) in
      let rest = every_same g l (λ q i. same q (Memᴰ.tail i)) in
      λ i. first i && rest i

-- the grid's points: one for each sample, at its place
points_long : (m : ℕ) → length (points m) ≡ samples m
points_long m = length_on_grid m (λ p. p)

points_place : (m i : ℕ) (d : Point) → i < samples m → get_or (points m) i d ≡ point m i
points_place m i d h = on_grid_place m (λ p. p) d i h

-- they are those inside the square
point_in : (m : ℕ) (p : Point) → Inside m p → Memᴰ p (points m)
point_in m p h =
    Memᴰ.cast (sym (on_grid_point m (λ q. q) p p h)) (at_in (points m) (place m p) p (room (points m) (points_long m) h refl))

in_inside : (m : ℕ) (p : Point) → Memᴰ p (points m) → Inside m p
in_inside m p i =
    let w = in_at (points m) p i in
    let h : w.0 < samples m = rw (points_long m) at w.1 in
    subst⁻¹ (Inside m) (w.2 ∙ points_place m w.0 p h) (point_inside m w.0 h)

pub every_point : (m : ℕ) (f : Point → Bool) → (every f (points m) ≡ true) ↔ ((p : Point) → Inside m p → f p ≡ true)
every_point m f = (
  λ e p h. every_in f (points m) e (point_in m p h),
  λ all. in_every f (points m) (λ p i. all p (in_inside m p i)),
)
