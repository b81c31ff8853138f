-- What is a member of the lists that the rules of points are written with: those near a number, in line, crossing.
-- A member near y, counted in units of s, is one unit from y.
use mathlib.Core.Path.{◌≡◌, refl, sym, ap, ◌∙◌, subst}
use mathlib.Core.Bool.{Bool, true, false, cond}
use mathlib.Core.List.Memᴰ
use mathlib.Core.List.{List, [], ◌∷◌, ◌++◌, Memᴰ}
use mathlib.Core.Logic.{◌⊎◌, inl, inr, ⊎_elim, ◌↔◌}
use Prim.Native.Nat.{ℕ, zero, suc, ◌+◌, ◌-◌, ◌*◌, ◌%◌, ◌≤◌, ◌<◌}
use native.Mathlib.Nat.{mul-suc, mul-zero}
use native.Mathlib.Decide.{dec_lt}
use native.Mathlib.Omega.{arith}
use lib.Dec.{leb}
use borrow.Author.Tests.{le-leb, leb-true}
use Rattle.grid.specs.Points.{near, each, laid, in_line, crossing}
use Rattle.grid.specs.Rule.{Away}
use Rattle.grid.specs.declared.points.Point.{Point}
use Rattle.grid.proofs.Sums.{choose, Close}

-- every point of a list is P
abbrev pub All : (Point → Type 0) → List Point → Type 0
All P [] = Unit {0}
All P (q ∷ qs) = P q × All P qs

pub all : (P : Point → Type 0) {q : Point} (qs : List Point) → All P qs → Memᴰ q qs → P q
all P [] h i = absurd (Memᴰ.not-nil i)
all P {q} (p ∷ qs) h i = by (all P qs h.1) (Memᴰ.cases_cons i)
  where
    by : (Memᴰ q qs → P q) → (q ≡ p) ⊎ Memᴰ q qs → P q
    by below (inl e) = subst P (sym e) h.0
    by below (inr k) = below k

-- a member of what f names for the numbers of a list
pub each_in : (f : ℕ → List Point) {q : Point} (cs : List ℕ) → Memᴰ q (each f cs) → (c : ℕ) × Memᴰ c cs × Memᴰ q (f c)
each_in f [] i = absurd (Memᴰ.not-nil i)
each_in f {q} (c ∷ cs) i = by (each_in f cs) (Memᴰ.append_cases (f c) i)
  where
    by : (Memᴰ q (each f cs) → (d : ℕ) × Memᴰ d cs × Memᴰ q (f d)) → Memᴰ q (f c) ⊎ Memᴰ q (each f cs) →
        (d : ℕ) × Memᴰ d (c ∷ cs) × Memᴰ q (f d)
    by below (inl k) = (c, Memᴰ.head refl, k)
    by below (inr k) = let r = below k in (r.0, Memᴰ.tail r.1, r.2)

each_of : (f : ℕ → List Point) {q : Point} {c : ℕ} (cs : List ℕ) → Memᴰ c cs → Memᴰ q (f c) → Memᴰ q (each f cs)
each_of f [] i k = absurd (Memᴰ.not-nil i)
each_of f {q} {c} (d ∷ cs) i k = by (λ r. each_of f cs r k) (Memᴰ.cases_cons i)
  where
    by : (Memᴰ c cs → Memᴰ q (each f cs)) → (c ≡ d) ⊎ Memᴰ c cs → Memᴰ q (f d ++ each f cs)
    by below (inl e) = Memᴰ.append_left (each f cs) (subst (λ (n : ℕ). Memᴰ q (f n)) e k)
    by below (inr r) = Memᴰ.append_right (f d) (below r)

-- y is b times s, at most n
pub record Axis (n s b y : ℕ) : Type 0 where
  pub positive : 0 < s
  pub times : y ≡ s * b
  pub most : y ≤ n

-- c, a number of s that is one from b, is at most n
pub record Stepped (n s b c : ℕ) : Type 0 where
  pub unit : ℕ
  pub times : c ≡ s * unit
  pub close : Close unit b
  pub other : (b + unit) % 2 ≡ 1
  pub most : c ≤ n

cond_in : {a : ℕ} (t : Bool) (c : ℕ) → Memᴰ a (cond t (c ∷ []) []) → (t ≡ true) × (a ≡ c)
cond_in true c i = (refl, Memᴰ.eq_of_singleton i)
cond_in false c i = absurd (Memᴰ.not-nil i)

-- a number near y; a point on a line of those numbers
pub near_is : (n s y c : ℕ) → y ≤ n → Memᴰ c (near n s y) ↔ (Away s y c × (c ≤ n))
near_is n s y c l = (
  λ i.
      ⊎_elim
      (λ k. let r = cond_in (leb s y) (y - s) k in let d = leb-true s y r.0 in (inl (omega arith), omega arith))
      (λ k. let r = cond_in (leb (y + s) n) (y + s) k in let d = leb-true (y + s) n r.0 in (inr r.1, omega arith))
      (Memᴰ.append_cases (cond (leb s y) ((y - s) ∷ []) []) i),
  λ r. of r.0 r.1,
)
  where
    of : Away s y c → c ≤ n → Memᴰ c (near n s y)
    of (inl e) k =
        let f : c ≡ y - s = omega arith in
        Memᴰ.cast f (rw (le-leb s y (omega arith)) (Memᴰ.head refl))
    of (inr e) k =
        let d : y + s ≤ n = omega arith in
        Memᴰ.append_right (cond (leb s y) ((y - s) ∷ []) []) (Memᴰ.cast e (rw (le-leb (y + s) n d) (Memᴰ.head refl)))

pub line_near : (n s y x : ℕ) (turned : Bool) {q : Point} → y ≤ n →
    Memᴰ q (in_line turned x (near n s y)) ↔ ((c : ℕ) × (Away s y c × (c ≤ n)) × (q ≡ laid turned c x))
line_near n s y x turned l = (
  λ i.
      let r = each_in (λ c. laid turned c x ∷ []) (near n s y) i in
      (r.0, (near_is n s y r.0 l).0 r.1, Memᴰ.eq_of_singleton r.2),
  λ r. each_of (λ c. laid turned c x ∷ []) (near n s y) ((near_is n s y r.0 l).1 r.1) (Memᴰ.head r.2),
)

-- the numbers of s one below and one above b
below : (n s b y c : ℕ) → Axis n s b y → c + s ≡ y → Stepped n s b c
below n s zero y c g e = let z : s * 0 ≡ 0 = mul-zero s in absurd (omega arith)
below n s (suc b) y c g e =
    let z : s * suc b ≡ s * b + s = mul-suc s b in
    record { unit = b; times = omega arith; close = omega arith; other = omega arith; most = omega arith }

above : (n s b y c : ℕ) → Axis n s b y → c ≡ y + s → c ≤ n → Stepped n s b c
above n s b y c g e l =
    let z : s * suc b ≡ s * b + s = mul-suc s b in
    record { unit = suc b; times = omega arith; close = omega arith; other = omega arith; most = l }

-- s away, counted in units of s
module _ {n s b y : ℕ} (g : Axis n s b y) where
  stepped_is : {c : ℕ} → (Away s y c × (c ≤ n)) ↔ Stepped n s b c
  stepped_is {c} = (
    λ a. ⊎_elim (below n s b y c g) (λ e. above n s b y c g e a.1) a.0,
    λ t.
        let v = t.unit in (
          ⊎_elim
              (λ (k : suc v ≡ b). let z : s * b ≡ s * v + s = rw (← k) (mul-suc s v) in inl (omega arith))
              (λ (k : v ≡ suc b). let z : c ≡ s * b + s = t.times ∙ ap (λ (w : ℕ). s * w) k ∙ mul-suc s b in inr (omega arith))
              (choose (dec_lt v b) (λ k. omega arith) (λ k. omega arith)),
          t.most,
        ),
  )

  near_stepped : {c : ℕ} → Memᴰ c (near n s y) ↔ Stepped n s b c
  near_stepped {c} =
      let e = near_is n s y c g.most in (λ i. stepped_is.0 (e.0 i), λ t. e.1 (stepped_is.1 t))

  pub line_is : (turned : Bool) (x : ℕ) {q : Point} →
      Memᴰ q (in_line turned x (near n s y)) ↔ ((c : ℕ) × Stepped n s b c × (q ≡ laid turned c x))
  line_is turned x =
      let e = line_near n s y x turned g.most in (
        λ i. let r = e.0 i in (r.0, stepped_is.0 r.1, r.2),
        λ r. e.1 (r.0, stepped_is.1 r.1, r.2),
      )

-- a member crosswise: near both ways
pub crossing_is : {n s a b x y : ℕ} {q : Point} → Axis n s a x → Axis n s b y →
    Memᴰ q (crossing n s x y) ↔ (Stepped n s a q.x × Stepped n s b q.y)
crossing_is {n} {s} {a} {b} {x} {y} {q} g h = (
  λ i.
      let r = each_in (λ c. in_line false c (near n s x)) (near n s y) i in
      let t = (line_is g false r.0).0 r.2 in
      rw t.2 (t.1, (near_stepped h).0 r.1),
  λ t.
      each_of (λ c. in_line false c (near n s x)) (near n s y) ((near_stepped h).1 t.1) ((line_is g false q.y).1 (q.x, t.0, refl)),
)
