-- A triangle along a side has its two ends as corners, and a third one; one along the same side, the other way, has the two ends and not that third.
use mathlib.Core.Path.{◌≡◌, refl, sym}
use mathlib.Core.Bool.{true, false}
use mathlib.Core.Logic.{inl, inr}
use Prim.Native.Nat.{ℕ}
use borrow.Author.Tests.{eq-eqb, ne_eqb}
use lib.Dec.{eqb}
use Rattle.strip.specs.Strip.{Corners, corners, has, begun}
use Rattle.strip.specs.Rule.{Corner}
use Rattle.strip.proofs.Corner.{corner}
use Rattle.strip.proofs.Turns.{Turns, turn, differ, parted}
use Rattle.strip.proofs.Passing.{Begun, first, second, third, Turning}

pub same : (n : ℕ) → eqb n n ≡ true
same n = eq-eqb n n refl

-- begun at the next corner
pub next : {x y z : ℕ} {t : Corners} → Begun x y z t → Begun y z x t
next first = second
next second = third
next third = first

pub turns : {m x y z : ℕ} {t : Corners} → Begun x y z t → Turning m t → Turns m x y z
turns first c = c
turns second c = turn c
turns third c = turn (turn c)

pub corner_first : {x y z : ℕ} {t : Corners} → Begun x y z t → Corner t x
corner_first first = inl refl
corner_first second = inr (inl refl)
corner_first third = inr (inr refl)

has_none : {x y z : ℕ} {t : Corners} (n : ℕ) → Begun x y z t → ¬ (n ≡ x) → ¬ (n ≡ y) → ¬ (n ≡ z) → has t n ≡ false
has_none {x} {y} {z} n first p q w = rw (ne_eqb n x p, ne_eqb n y q, ne_eqb n z w)
has_none {x} {y} {z} n second p q w = rw (ne_eqb n x p, ne_eqb n y q, ne_eqb n z w)
has_none {x} {y} {z} n third p q w = rw (ne_eqb n x p, ne_eqb n y q, ne_eqb n z w)

-- begun at the corner that the next one does not have
pub begun_so : {x y z : ℕ} {t : Corners} (u : Corners) → Begun x y z t → has u x ≡ false → has u y ≡ true → has u z ≡ true →
    begun t u ≡ corners x y z
begun_so u first p q w = rw p
begun_so u second p q w = rw (w, p)
begun_so u third p q w = rw (q, w)

-- a triangle with the side from x to y
pub record Along (m x y : ℕ) (t : Corners) : Type 0 where
  pub z : ℕ
  pub begun : Begun x y z t
  pub turns : Turns m x y z

pub both : {m x y : ℕ} {t : Corners} → Along m x y t → (has t x ≡ true) × (has t y ≡ true)
both {x = x} {y = y} {t = t} s = ((corner t x).1 (corner_first s.begun), (corner t y).1 (corner_first (next s.begun)))

pub not_shared : {m x y z : ℕ} {u : Corners} → Turns m x y z → Along m y x u → has u z ≡ false
not_shared {z = z} s o =
    has_none z o.begun (λ e. differ (turn s) (sym e)) (differ (turn (turn s))) (parted s o.turns)
