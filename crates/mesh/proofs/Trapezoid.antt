-- Sums along a line and over a square of cells. The sum from 0 to N, over the cells of a line, of what stands at both ends of each
-- counts an outermost number once and every other twice: all but the outermost lie between two cells.
use mathlib.Core.Path.{◌≡◌, refl, sym, ap, ◌∙◌}
use mathlib.Core.Bool.{Bool, true, false}
use Prim.Native.Nat.{ℕ, zero, suc, ◌+◌, ◌<◌}
use native.Mathlib.Nat.{zero-add, add-zero, suc-add}
use native.Mathlib.Omega.{arith}
use native.Mathlib.Numerals.{add-one}
use borrow.Author.Tests.{ne_eqb}
use lib.Pow.{pow_pos}
use Rattle.grid.specs.Grid.{side}
use Rattle.grid.specs.Points.{outermost}
use Rattle.selection.proofs.Corners.{at_east}
use Rattle.mesh.specs.Inner.{sum}

pub sum_split : (f : ℕ → ℕ) (i n k : ℕ) → sum f i (n + k) ≡ sum f i n + sum f (i + n) k
sum_split f i zero k = rw (zero-add k, add-zero i) (omega arith)
sum_split f i (suc n) k =
    let e : i + suc n ≡ suc i + n = omega arith in
    rw (suc-add n k, e) (omega (arith, sum_split f (suc i) n k))

pub sum_add : (f g : ℕ → ℕ) (i n : ℕ) → sum (λ c. f c + g c) i n ≡ sum f i n + sum g i n
sum_add f g i zero = refl
sum_add f g i (suc n) = omega (arith, sum_add f g (suc i) n)

-- over the n by n cells from (x, y)
abbrev pub area : (ℕ → ℕ → ℕ) → ℕ → ℕ → ℕ → ℕ
area f x y n = sum (λ b. sum (λ a. f a b) x n) y n

-- a square of cells is its four quarters
pub area_quarters : (f : ℕ → ℕ → ℕ) (x y n : ℕ) →
    area f x y (n + n) ≡ area f x y n + area f (x + n) y n + area f x (y + n) n + area f (x + n) (y + n) n
area_quarters f x y n = omega (arith, sum_split (λ b. sum (λ a. f a b) x (n + n)) y n n, halves y, halves (y + n))
  where
    halves : (z : ℕ) →
        sum (λ b. sum (λ a. f a b) x (n + n)) z n ≡ sum (λ b. sum (λ a. f a b) x n) z n + sum (λ b. sum (λ a. f a b) (x + n) n) z n
    halves z =
        ap (λ (g : ℕ → ℕ). sum g z n) (λ i b. sum_split (λ a. f a b) x n n i)
        ∙ sum_add (λ b. sum (λ a. f a b) x n) (λ b. sum (λ a. f a b) (x + n) n) z n

-- once where a number is outermost, else twice
abbrev pub touched : Bool → ℕ → ℕ
touched true n = n
touched false n = n + n

pub touched_sum : (t : Bool) (f : ℕ → ℕ) (i n : ℕ) → touched t (sum f i n) ≡ sum (λ c. touched t (f c)) i n
touched_sum true f i n = refl
touched_sum false f i n = sym (sum_add f f i n)

-- a number that is not outermost
pub not_outermost : (m c : ℕ) → 0 < c → c < side m → outermost m c ≡ false
not_outermost m c l h = rw (ne_eqb c 0 (λ e. omega arith), ne_eqb c (side m) (λ e. omega arith))

module _ (m : ℕ) (f : ℕ → ℕ) where
  -- from some number after 0 on
  after : (i n : ℕ) → 0 < i → i + n ≡ side m → f i + sum (λ c. f c + f (suc c)) i n ≡ sum (λ c. touched (outermost m c) (f c)) i (suc n)
  after i zero l e = let g : i ≡ side m = omega arith in rw (g, at_east m) (omega arith)
  after i (suc n) l e = rw (not_outermost m i l (omega arith)) (omega (arith, after (suc i) n (omega arith) (omega arith)))

  whole : (n : ℕ) → n ≡ side m → sum (λ c. f c + f (suc c)) 0 n ≡ sum (λ c. touched (outermost m c) (f c)) 0 (suc n)
  whole zero e = absurd (omega (arith, pow_pos m))
  whole (suc n) e = omega (arith, after 1 n (omega arith) (omega arith))

  pub trapezoid : sum (λ c. f c + f (suc c)) 0 (side m) ≡ sum (λ c. touched (outermost m c) (f c)) 0 (side m + 1)
  trapezoid = rw (add-one (side m)) (whole (side m) refl)
