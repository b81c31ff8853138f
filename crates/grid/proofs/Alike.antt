-- Two grids of one size are one grid: N goes with the size, and a grid is sound in one way only.
use mathlib.Core.Path.{◌≡◌, sym, subst, ◌∙◌, ap}
use Prim.Native.Nat.{ℕ}
use Rattle.std.proofs.Math.Bridge.{le_prop}
use Rattle.std.proofs.Math.Nat.{ℕ_set}
use Rattle.grid.specs.Grid.{Sound, side}
use Rattle.grid.specs.declared.Grid.{Grid}

abbrev grid : (m n : ℕ) → Sound m n → Grid
grid m n sound = record { m = m; side = n; sound = sound }

one_way : (m n : ℕ) (a b : Sound m n) → a ≡ b
one_way m n a b = λ i. record { small = le_prop a.small b.small i; sided = ℕ_set _ _ a.sided b.sided i }

alike : {m m' n n' : ℕ} → m ≡ m' → n ≡ n' → (a : Sound m n) (b : Sound m' n') → grid m n a ≡ grid m' n' b
alike {m} {m'} {n} {n'} p q a =
    subst (λ (k : ℕ). (b : Sound k n') → grid m n a ≡ grid k n' b) p
    (subst (λ (l : ℕ). (b : Sound m l) → grid m n a ≡ grid m l b) q (λ b i. grid m n (one_way m n a b i)))

pub same_grid : (g h : Grid) → g.m ≡ h.m → g ≡ h
same_grid g h e = alike e (g.sound.sided ∙ ap side e ∙ sym h.sound.sided) g.sound h.sound
