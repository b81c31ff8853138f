-- The plane through a triangle's corners: the mean of their heights by a point's weights is its height there, and the tilts are its slopes.
-- There is no other such plane, it rises by its slopes, and none of these numbers is large.
use mathlib.Core.Path.{◌≡◌, refl, ap, sym, ◌∙◌}
use mathlib.Core.List.{List}
use Prim.Native.Nat.{ℕ, ◌+◌, ◌*◌, ◌≤◌, ◌<◌}
use native.Mathlib.Nat.{add_assoc, add_comm, add_left_comm, add-mul, mul-add, mul_assoc, mul_comm, mul_left_comm}
use native.Mathlib.Nat.{mul-le-mul, eq_of_mul-eq-mul_left}
use native.Mathlib.Omega.{arith}
use lib.Pow.{pow_pos}
use lib.IntN.{ℤ, pos, negsuc, nat_abs, ◌+ℤ◌, ◌-ℤ◌, ◌*ℤ◌}
use Rattle.grid.specs.Grid.{quarters, side, in_quarters, at}
use Rattle.grid.specs.Turn.{onward, backward}
use Rattle.grid.specs.declared.points.Point.{Point}
use Rattle.survey.specs.Filled.{sample}
use Rattle.mesh.specs.Triangles.{Three}
use Rattle.selection.proofs.Exact as exact
use Rattle.selection.proofs.Exact.{Exact}
use Rattle.aim.specs.Aimed.{tilt, eastward, northward}
use Rattle.aim.specs.Geometry.{Through, Plane, area}
use Rattle.aim.proofs.Differences.{Difference, over, under, whole, count, sum, difference, product, multiple, by, equal, apart, size}

sized : (z : ℤ) {n : ℕ} → nat_abs z ≤ n → Exact z z n
sized z l = record { same = refl; size = l }

-- heights by their weights are no more than the highest by all the weights
pub weighted_most : (w₁ w₂ w₃ : ℕ) (h₁ h₂ h₃ : ℤ) (most : ℕ) → nat_abs h₁ ≤ most → nat_abs h₂ ≤ most → nat_abs h₃ ≤ most →
    nat_abs (pos w₁ *ℤ h₁ +ℤ pos w₂ *ℤ h₂ +ℤ pos w₃ *ℤ h₃) ≤ (w₁ + w₂ + w₃) * most
weighted_most w₁ w₂ w₃ h₁ h₂ h₃ most l₁ l₂ l₃ =
    let first = exact.times w₁ (sized h₁ l₁) in
    let second = exact.times w₂ (sized h₂ l₂) in
    let third = exact.times w₃ (sized h₃ l₃) in
    omega (arith, (exact.sum (exact.sum first second) third).size)

-- a height by the difference of two places
stretch_most : (h : ℤ) (p q most wide : ℕ) → nat_abs h ≤ most → p ≤ wide → q ≤ wide → nat_abs (h *ℤ (pos p -ℤ pos q)) ≤ most * wide
stretch_most (pos n) p q most wide l u v =
    size (product (whole (pos n)) (difference (count p) (count q))) (omega (arith, mul-le-mul l u)) (omega (arith, mul-le-mul l v))
stretch_most (negsuc n) p q most wide l u v =
    size (product (whole (negsuc n)) (difference (count p) (count q))) (omega (arith, mul-le-mul l v)) (omega (arith, mul-le-mul l u))

pub tilt_most : (h₁ h₂ h₃ : ℤ) (c₁ c₂ c₃ most wide : ℕ) → nat_abs h₁ ≤ most → nat_abs h₂ ≤ most → nat_abs h₃ ≤ most →
    c₁ ≤ wide → c₂ ≤ wide → c₃ ≤ wide → nat_abs (tilt h₁ h₂ h₃ c₁ c₂ c₃) ≤ 3 * (most * wide)
tilt_most h₁ h₂ h₃ c₁ c₂ c₃ most wide l₁ l₂ l₃ u₁ u₂ u₃ =
    let first = sized (h₁ *ℤ (pos c₂ -ℤ pos c₃)) (stretch_most h₁ c₂ c₃ most wide l₁ u₂ u₃) in
    let second = sized (h₂ *ℤ (pos c₃ -ℤ pos c₁)) (stretch_most h₂ c₃ c₁ most wide l₂ u₃ u₁) in
    let third = sized (h₃ *ℤ (pos c₁ -ℤ pos c₂)) (stretch_most h₃ c₁ c₂ most wide l₃ u₁ u₂) in
    omega (arith, (exact.sum (exact.sum first second) third).size)

-- k times what slopes come to, over x east and y north
spread : {a b c d : ℕ} {e n : ℤ} (k x y : ℕ) {u v : ℕ} → Difference a b e → Difference c d n → k * x ≡ u → k * y ≡ v →
    Difference (a * u + c * v) (b * u + d * v) (pos k *ℤ (e *ℤ pos x +ℤ n *ℤ pos y))
spread {a} {b} {c} {d} k x y f g s t =
    omega (
      arith,
      multiple k (sum (by f x) (by g y)),
      ap (λ (i : ℕ). a * i) s,
      ap (λ (i : ℕ). b * i) s,
      ap (λ (i : ℕ). c * i) t,
      ap (λ (i : ℕ). d * i) t,
    )

-- sums of products, multiplied out
ruleset multiplied = (add-mul, mul_assoc, mul_comm, mul_left_comm)

-- of three corners, the height of each by the place of the next, or of the one before: the two halves of a tilt
unfoldable ahead : ℕ → ℕ → ℕ → ℕ → ℕ → ℕ → ℕ
ahead a₁ a₂ a₃ c₁ c₂ c₃ = a₁ * c₂ + a₂ * c₃ + a₃ * c₁

unfoldable behind : ℕ → ℕ → ℕ → ℕ → ℕ → ℕ → ℕ
behind a₁ a₂ a₃ c₁ c₂ c₃ = a₁ * c₃ + a₂ * c₁ + a₃ * c₂

-- the doubled area d of a triangle (p, s, w), and the tilts of its corners' heights, as differences
record Sloped (h₁ h₂ h₃ : ℤ) (p s w : Point) (d : ℕ) (e n : ℤ) : Type 0 where
  doubled : Difference (onward p s w) (backward p s w) (pos d)
  east : Difference
      (ahead (over h₁) (over h₂) (over h₃) p.y s.y w.y + behind (under h₁) (under h₂) (under h₃) p.y s.y w.y)
      (behind (over h₁) (over h₂) (over h₃) p.y s.y w.y + ahead (under h₁) (under h₂) (under h₃) p.y s.y w.y)
      e
  north : Difference
      (behind (over h₁) (over h₂) (over h₃) p.x s.x w.x + ahead (under h₁) (under h₂) (under h₃) p.x s.x w.x)
      (ahead (over h₁) (over h₂) (over h₃) p.x s.x w.x + behind (under h₁) (under h₂) (under h₃) p.x s.x w.x)
      n

-- from the next corner on, they are the same
next : {h₁ h₂ h₃ : ℤ} {p s w : Point} {d : ℕ} {e n : ℤ} → Sloped h₁ h₂ h₃ p s w d e n → Sloped h₂ h₃ h₁ s w p d e n
unfolding ahead behind
next c = omega arith

-- a plane with the slopes e / d and n / d that has height h at p has height k at q
abbrev Rise : ℕ → ℤ → ℤ → ℤ → Point → ℤ → Point → Type 0
Rise d e n h p k q =
    pos d *ℤ k +ℤ (e *ℤ pos p.x +ℤ n *ℤ pos p.y) ≡ pos d *ℤ h +ℤ (e *ℤ pos q.x +ℤ n *ℤ pos q.y)

-- between two corners, for heights that are counts
stand : (a₁ a₂ a₃ : ℕ) (p s w : Point) →
    onward p s w * a₂ + ahead a₁ a₂ a₃ p.y s.y w.y * p.x + behind a₁ a₂ a₃ p.y s.y w.y * s.x
    + behind a₁ a₂ a₃ p.x s.x w.x * p.y + ahead a₁ a₂ a₃ p.x s.x w.x * s.y + backward p s w * a₁
    ≡ onward p s w * a₁ + ahead a₁ a₂ a₃ p.y s.y w.y * s.x + behind a₁ a₂ a₃ p.y s.y w.y * p.x
    + behind a₁ a₂ a₃ p.x s.x w.x * s.y + ahead a₁ a₂ a₃ p.x s.x w.x * p.y + backward p s w * a₂
unfolding ahead behind
stand a₁ a₂ a₃ p s w = simp (multiplied, add_assoc, add_comm, add_left_comm)

rise : {h₁ h₂ h₃ : ℤ} {p s w : Point} {d : ℕ} {e n : ℤ} → Sloped h₁ h₂ h₃ p s w d e n → Rise d e n h₁ p h₂ s
rise {h₁} {h₂} {h₃} {p} {s} {w} c =
    equal
    (sum (product c.doubled (whole h₂)) (sum (by c.east p.x) (by c.north p.y)))
    (sum (product c.doubled (whole h₁)) (sum (by c.east s.x) (by c.north s.y)))
    (simp add-mul (omega (
      arith,
      simp add-mul at (stand (over h₁) (over h₂) (over h₃) p s w),
      simp add-mul at (stand (under h₁) (under h₂) (under h₃) p s w),
    )))

-- the slopes that are answered are those tilts
sloped : (m : ℕ) (heights : List ℤ) (t : Three) → backward t.first t.second t.third ≤ onward t.first t.second t.third →
    Sloped (sample m heights t.first) (sample m heights t.second) (sample m heights t.third) t.first t.second t.third
    (area t) (eastward m heights t) (northward m heights t)
unfolding eastward northward ahead behind
sloped m heights t l =
    let p = t.first in
    let s = t.second in
    let w = t.third in
    let h₁ = sample m heights p in
    let h₂ = sample m heights s in
    let h₃ = sample m heights w in
    record {
      doubled = omega arith;
      east = omega (arith, tilted h₁ h₂ h₃ p.y s.y w.y);
      north = omega (arith, tilted h₃ h₂ h₁ w.x s.x p.x);
    }
  where
    tilted : (h₁ h₂ h₃ : ℤ) (c₁ c₂ c₃ : ℕ) →
        Difference (ahead (over h₁) (over h₂) (over h₃) c₁ c₂ c₃ + behind (under h₁) (under h₂) (under h₃) c₁ c₂ c₃)
        (behind (over h₁) (over h₂) (over h₃) c₁ c₂ c₃ + ahead (under h₁) (under h₂) (under h₃) c₁ c₂ c₃) (tilt h₁ h₂ h₃ c₁ c₂ c₃)
    tilted h₁ h₂ h₃ c₁ c₂ c₃ =
        let first = product (whole h₁) (difference (count c₂) (count c₃)) in
        let second = product (whole h₂) (difference (count c₃) (count c₁)) in
        let third = product (whole h₃) (difference (count c₁) (count c₂)) in
        omega (arith, sum (sum first second) third)

-- three numbers, each by its weight
abbrev mean : ℕ → ℕ → ℕ → ℤ → ℤ → ℤ → ℤ
mean w₁ w₂ w₃ z₁ z₂ z₃ = pos w₁ *ℤ z₁ +ℤ pos w₂ *ℤ z₂ +ℤ pos w₃ *ℤ z₃

mean_same : (w₁ w₂ w₃ : ℕ) (z : ℤ) → mean w₁ w₂ w₃ z z z ≡ pos (w₁ + w₂ + w₃) *ℤ z
mean_same w₁ w₂ w₃ z =
    let each = whole z in
    equal (sum (sum (multiple w₁ each) (multiple w₂ each)) (multiple w₃ each)) (multiple (w₁ + w₂ + w₃) each) (omega arith)

-- heights and slopes weighed at three points come to the heights weighed, and the slopes at the points' mean
gather : (k x y w₁ w₂ w₃ d : ℕ) (e n z₁ z₂ z₃ : ℤ) (p₁ p₂ p₃ : Point) → k * x ≡ w₁ * p₁.x + w₂ * p₂.x + w₃ * p₃.x →
    k * y ≡ w₁ * p₁.y + w₂ * p₂.y + w₃ * p₃.y →
    pos d *ℤ mean w₁ w₂ w₃ z₁ z₂ z₃ +ℤ pos k *ℤ (e *ℤ pos x +ℤ n *ℤ pos y)
    ≡ mean w₁ w₂ w₃ (pos d *ℤ z₁ +ℤ (e *ℤ pos p₁.x +ℤ n *ℤ pos p₁.y)) (pos d *ℤ z₂ +ℤ (e *ℤ pos p₂.x +ℤ n *ℤ pos p₂.y))
    (pos d *ℤ z₃ +ℤ (e *ℤ pos p₃.x +ℤ n *ℤ pos p₃.y))
gather k x y w₁ w₂ w₃ d e n z₁ z₂ z₃ p₁ p₂ p₃ s t =
    let heights = sum (sum (multiple w₁ (whole z₁)) (multiple w₂ (whole z₂))) (multiple w₃ (whole z₃)) in
    let first = multiple w₁ (sum (multiple d (whole z₁)) (sum (by (whole e) p₁.x) (by (whole n) p₁.y))) in
    let second = multiple w₂ (sum (multiple d (whole z₂)) (sum (by (whole e) p₂.x) (by (whole n) p₂.y))) in
    let third = multiple w₃ (sum (multiple d (whole z₃)) (sum (by (whole e) p₃.x) (by (whole n) p₃.y))) in
    equal (sum (multiple d heights) (spread k x y (whole e) (whole n) s t)) (sum (sum first second) third)
    (simp (mul-add, mul_left_comm) (omega arith))

-- a plane through p and the corners has at q the mean of the corners' heights
module _ (m : ℕ) (heights : List ℤ) (t : Three) (q : Point) (w₁ w₂ w₃ : ℕ) (all : w₁ + w₂ + w₃ ≡ in_quarters m)
    (along : w₁ * t.first.x + w₂ * t.second.x + w₃ * t.third.x ≡ side m * q.x)
    (up : w₁ * t.first.y + w₂ * t.second.y + w₃ * t.third.y ≡ side m * q.y) where
  weigh : (d : ℕ) (e n : ℤ) (p : Point) → Rise d e n (sample m heights p) p (sample m heights t.first) t.first →
      Rise d e n (sample m heights p) p (sample m heights t.second) t.second →
      Rise d e n (sample m heights p) p (sample m heights t.third) t.third →
      Through m heights q (mean w₁ w₂ w₃ (sample m heights t.first) (sample m heights t.second) (sample m heights t.third)) e n d p
  weigh d e n p r₁ r₂ r₃ =
      let h = sample m heights p in
      let total : (x : ℕ) → side m * (quarters * x) ≡ w₁ * x + w₂ * x + w₃ * x = λ x. omega (arith, ap (λ (k : ℕ). k * x) all) in
      let h₁ = sample m heights t.first in
      let h₂ = sample m heights t.second in
      let h₃ = sample m heights t.third in
      gather (side m) (quarters * p.x) (quarters * p.y) w₁ w₂ w₃ d e n h₁ h₂ h₃ p p p (total p.x) (total p.y)
      ∙ (λ i. mean w₁ w₂ w₃ (r₁ i) (r₂ i) (r₃ i))
      ∙ sym (gather (side m) q.x q.y w₁ w₂ w₃ d e n h h h t.first t.second t.third (sym along) (sym up))
      ∙ ap (λ (z : ℤ). pos d *ℤ z +ℤ pos (side m) *ℤ (e *ℤ pos q.x +ℤ n *ℤ pos q.y))
      (mean_same w₁ w₂ w₃ h ∙ ap (λ (k : ℕ). pos k *ℤ h) all)

-- the weighted heights and the tilts are the height and the slopes of the plane through the corners
pub plane_of : (m : ℕ) (heights : List ℤ) (t : Three) (q : Point) (w₁ w₂ w₃ : ℕ) →
    backward t.first t.second t.third ≤ onward t.first t.second t.third → w₁ + w₂ + w₃ ≡ in_quarters m →
    w₁ * t.first.x + w₂ * t.second.x + w₃ * t.third.x ≡ side m * q.x →
    w₁ * t.first.y + w₂ * t.second.y + w₃ * t.third.y ≡ side m * q.y →
    Plane m heights t q
    (pos w₁ *ℤ sample m heights t.first +ℤ pos w₂ *ℤ sample m heights t.second +ℤ pos w₃ *ℤ sample m heights t.third)
    (eastward m heights t) (northward m heights t)
plane_of m heights t q w₁ w₂ w₃ turns all along up =
    let corner = weigh m heights t q w₁ w₂ w₃ all along up (area t) (eastward m heights t) (northward m heights t) in
    let slopes = sloped m heights t turns in
    record {
      first = corner t.first refl (rise slopes) (sym (rise (next (next slopes))));
      second = corner t.second (sym (rise slopes)) refl (rise (next slopes));
      third = corner t.third (rise (next (next slopes))) (sym (rise (next slopes))) refl;
    }

-- a plane through a point, as an equation of counts
balanced : (m : ℕ) (heights : List ℤ) (q : Point) (z e n : ℤ) (d : ℕ) (p : Point) → Through m heights q z e n d p →
    d * over z + (over e * (side m * (quarters * p.x)) + over n * (side m * (quarters * p.y)))
    + (d * (in_quarters m * under (sample m heights p)) + (under e * (side m * q.x) + under n * (side m * q.y)))
    ≡ d * (in_quarters m * over (sample m heights p)) + (over e * (side m * q.x) + over n * (side m * q.y))
    + (d * under z + (under e * (side m * (quarters * p.x)) + under n * (side m * (quarters * p.y))))
balanced m heights q z e n d p through =
    apart
    (sum (multiple d (whole z)) (spread (side m) (quarters * p.x) (quarters * p.y) (whole e) (whole n) refl refl))
    (sum (multiple d (multiple (in_quarters m) (whole (sample m heights p)))) (spread (side m) q.x q.y (whole e) (whole n) refl refl))
    through

-- four quarters further on, by a slope
further : (a m x : ℕ) → a * (side m * (x + quarters)) ≡ a * (side m * x) + in_quarters m * a
further a m x = omega arith

-- a cell further east the plane is higher by its slope east, and a cell further north by its slope north
module _ (m : ℕ) (heights : List ℤ) (q : Point) (z z' e n : ℤ) (d : ℕ) (p : Point) (here : Through m heights q z e n d p) where
  higher_east : Through m heights (at (q.x + quarters) q.y) z' e n d p → pos d *ℤ z' ≡ pos d *ℤ z +ℤ pos (in_quarters m) *ℤ e
  higher_east there =
      equal (multiple d (whole z')) (sum (multiple d (whole z)) (multiple (in_quarters m) (whole e)))
      (omega (
        arith,
        balanced m heights q z e n d p here,
        balanced m heights (at (q.x + quarters) q.y) z' e n d p there,
        further (over e) m q.x,
        further (under e) m q.x,
      ))

  higher_north : Through m heights (at q.x (q.y + quarters)) z' e n d p → pos d *ℤ z' ≡ pos d *ℤ z +ℤ pos (in_quarters m) *ℤ n
  higher_north there =
      equal (multiple d (whole z')) (sum (multiple d (whole z)) (multiple (in_quarters m) (whole n)))
      (omega (
        arith,
        balanced m heights q z e n d p here,
        balanced m heights (at q.x (q.y + quarters)) z' e n d p there,
        further (over n) m q.y,
        further (under n) m q.y,
      ))

pub moved_east : (m : ℕ) (heights : List ℤ) (t : Three) (q : Point) (z z' e n : ℤ) → Plane m heights t q z e n →
    Plane m heights t (at (q.x + quarters) q.y) z' e n → pos (area t) *ℤ z' ≡ pos (area t) *ℤ z +ℤ pos (in_quarters m) *ℤ e
moved_east m heights t q z z' e n here there = higher_east m heights q z z' e n (area t) t.first here.first there.first

pub moved_north : (m : ℕ) (heights : List ℤ) (t : Three) (q : Point) (z z' e n : ℤ) → Plane m heights t q z e n →
    Plane m heights t (at q.x (q.y + quarters)) z' e n → pos (area t) *ℤ z' ≡ pos (area t) *ℤ z +ℤ pos (in_quarters m) *ℤ n
moved_north m heights t q z z' e n here there = higher_north m heights q z z' e n (area t) t.first here.first there.first

-- two planes that meet at two points rise alike from one to the other: a less b and c less g are what their slopes differ by
alike : (k u v a b c g : ℕ) (p s : Point) → 0 < k →
    u + (a * (k * (quarters * p.x)) + c * (k * (quarters * p.y))) ≡ v + (b * (k * (quarters * p.x)) + g * (k * (quarters * p.y))) →
    u + (a * (k * (quarters * s.x)) + c * (k * (quarters * s.y))) ≡ v + (b * (k * (quarters * s.x)) + g * (k * (quarters * s.y))) →
    a * p.x + c * p.y + b * s.x + g * s.y ≡ b * p.x + g * p.y + a * s.x + c * s.y
alike k u v a b c g p s l e f =
    eq_of_mul-eq-mul_left k l (a * p.x + c * p.y + b * s.x + g * s.y) (b * p.x + g * p.y + a * s.x + c * s.y) (omega arith)

-- at three that are not in line, they have the same slopes
same_slope : (a b c g x₁ y₁ x₂ y₂ x₃ y₃ d : ℕ) → 0 < d → x₂ * y₁ + x₁ * y₃ + y₂ * x₃ + d ≡ x₂ * y₃ + x₁ * y₂ + y₁ * x₃ →
    a * x₁ + c * y₁ + b * x₂ + g * y₂ ≡ b * x₁ + g * y₁ + a * x₂ + c * y₂ →
    a * x₂ + c * y₂ + b * x₃ + g * y₃ ≡ b * x₂ + g * y₂ + a * x₃ + c * y₃ →
    a * x₃ + c * y₃ + b * x₁ + g * y₁ ≡ b * x₃ + g * y₃ + a * x₁ + c * y₁ → a ≡ b
same_slope a b c g x₁ y₁ x₂ y₂ x₃ y₃ d l t e₁ e₂ e₃ =
    eq_of_mul-eq-mul_left d l a b (simp multiplied (omega (
      arith,
      simp multiplied at (ap (λ (k : ℕ). k * y₃) e₁),
      simp multiplied at (ap (λ (k : ℕ). k * y₁) e₂),
      simp multiplied at (ap (λ (k : ℕ). k * y₂) e₃),
      simp multiplied at (ap (λ (k : ℕ). k * a) t),
      simp multiplied at (ap (λ (k : ℕ). k * b) t),
    )))

-- and so the same height
same_height : (u v a b c g x y x' y' : ℕ) → a ≡ b → c ≡ g →
    u + (b * x + g * y) + (a * x' + c * y') ≡ v + (a * x + c * y) + (b * x' + g * y') → u ≡ v
same_height u v a b c g x y x' y' e f =
    let by_both : (k j : ℕ) → a * k + c * j ≡ b * k + g * j = λ k j i. e i * k + f i * j in
    omega (arith, by_both x y, by_both x' y')

module _ (m : ℕ) (heights : List ℤ) (q : Point) (z e n z' e' n' : ℤ) (d : ℕ) where
  -- two planes through the same sample
  meet : (p : Point) → Through m heights q z e n d p → Through m heights q z' e' n' d p →
      d * (over z + under z') + ((over e' + under e) * (side m * q.x) + (over n' + under n) * (side m * q.y))
      + ((over e + under e') * (side m * (quarters * p.x)) + (over n + under n') * (side m * (quarters * p.y)))
      ≡ d * (over z' + under z) + ((over e + under e') * (side m * q.x) + (over n + under n') * (side m * q.y))
      + ((over e' + under e) * (side m * (quarters * p.x)) + (over n' + under n) * (side m * (quarters * p.y)))
  meet p one other =
      simp (add-mul, mul-add d) (omega (arith, balanced m heights q z e n d p one, balanced m heights q z' e' n' d p other))

  only : (p s w : Point) → 0 < d → backward p s w + d ≡ onward p s w →
      Through m heights q z e n d p → Through m heights q z e n d s → Through m heights q z e n d w →
      Through m heights q z' e' n' d p → Through m heights q z' e' n' d s → Through m heights q z' e' n' d w →
      (z ≡ z') × (e ≡ e') × (n ≡ n')
  only p s w l turns p₁ s₁ w₁ p₂ s₂ w₂ =
      let u = d * (over z + under z') + ((over e' + under e) * (side m * q.x) + (over n' + under n) * (side m * q.y)) in
      let v = d * (over z' + under z) + ((over e + under e') * (side m * q.x) + (over n + under n') * (side m * q.y)) in
      let a = over e + under e' in
      let b = over e' + under e in
      let c = over n + under n' in
      let g = over n' + under n in
      let ps = alike (side m) u v a b c g p s (pow_pos m) (meet p p₁ p₂) (meet s s₁ s₂) in
      let sw = alike (side m) u v a b c g s w (pow_pos m) (meet s s₁ s₂) (meet w w₁ w₂) in
      let wp = alike (side m) u v a b c g w p (pow_pos m) (meet w w₁ w₂) (meet p p₁ p₂) in
      let east = same_slope a b c g p.x p.y s.x s.y w.x w.y d l turns ps sw wp in
      let north =
      same_slope c g a b w.y w.x s.y s.x p.y p.x d l (omega arith)
      (omega (arith, sw)) (omega (arith, ps)) (omega (arith, wp)) in (
        equal (whole z) (whole z') (eq_of_mul-eq-mul_left d l (over z + under z') (over z' + under z) (
            same_height (d * (over z + under z')) (d * (over z' + under z)) a b c g (side m * q.x) (side m * q.y)
            (side m * (quarters * p.x)) (side m * (quarters * p.y)) east north (meet p p₁ p₂)
            )),
        equal (whole e) (whole e') east,
        equal (whole n) (whole n') north,
      )

-- no other plane goes through the corners of a triangle
pub plane_only : (m : ℕ) (heights : List ℤ) (t : Three) (q : Point) → 0 < area t → (z e n z' e' n' : ℤ) → Plane m heights t q z e n →
    Plane m heights t q z' e' n' → (z ≡ z') × (e ≡ e') × (n ≡ n')
plane_only m heights t q l z e n z' e' n' one other =
    only m heights q z e n z' e' n' (area t) t.first t.second t.third l (omega arith)
    one.first one.second one.third other.first other.second other.third
