-- Three places that turn counter-clockwise do so from the next one on, no two of them are the same, and a triangle that runs back along a side of
-- them has another third corner.
use mathlib.Core.Path.{◌≡◌, sym, subst}
use mathlib.Core.Bool.{false}
use Prim.Native.Nat.{ℕ}
use native.Mathlib.Nat.{mul_comm}
use native.Mathlib.Omega.{arith}
use borrow.Author.Tests.{ne_eqb}
use lib.Dec.{eqb}
use Rattle.grid.specs.Grid.{point}
use Rattle.grid.specs.Turn.{CounterClockwise}
use Rattle.grid.specs.declared.points.Point.{Point}
use Rattle.mesh.proofs.Proper.{flat_first}

pub record Turns (m x y z : ℕ) : Type 0 where
  pub does : CounterClockwise (point m x) (point m y) (point m z)

onward_again : (p q w : Point) → CounterClockwise p q w → CounterClockwise q w p
onward_again p q w h =
    omega (arith, mul_comm w.x p.y, mul_comm p.x q.y, mul_comm w.x q.y, mul_comm w.y p.x)

not_back : (p q w : Point) → CounterClockwise p q w → ¬ (CounterClockwise q p w)
not_back p q w h k = omega (arith, mul_comm p.x q.y, mul_comm p.y q.x)

pub turn : {m x y z : ℕ} → Turns m x y z → Turns m y z x
turn {m} {x} {y} {z} t = record { does = onward_again (point m x) (point m y) (point m z) t.does }

pub parted : {m x y z w : ℕ} → Turns m x y z → Turns m y x w → ¬ (z ≡ w)
parted {m} {x} {y} {z} t u e = not_back (point m x) (point m y) (point m z) t.does (subst (λ (i : ℕ). Turns m y x i) (sym e) u).does

pub differ : {m x y z : ℕ} → Turns m x y z → ¬ (x ≡ y)
differ {m} {x} {y} {z} t e =
    omega (
      arith,
      flat_first (point m x) (point m z),
      (subst (λ (i : ℕ). Turns m x i z) (sym e) t).does,
    )

-- by a test, either way round
pub record Apart (x y z : ℕ) : Type 0 where
  pub xy : eqb x y ≡ false
  pub yx : eqb y x ≡ false
  pub yz : eqb y z ≡ false
  pub zy : eqb z y ≡ false
  pub zx : eqb z x ≡ false
  pub xz : eqb x z ≡ false

pub apart : {m x y z : ℕ} → Turns m x y z → Apart x y z
apart {x = x} {y = y} {z = z} t =
    let d = differ t in
    let e = differ (turn t) in
    let f = differ (turn (turn t)) in
    record {
      xy = ne_eqb x y d;
      yx = ne_eqb y x (λ i. d (sym i));
      yz = ne_eqb y z e;
      zy = ne_eqb z y (λ i. e (sym i));
      zx = ne_eqb z x f;
      xz = ne_eqb x z (λ i. f (sym i));
    }
