-- `grid::points::units_of` meets its contract. The invariant: the point is s times (a, b), and what is left to find of its
-- spacing is the spacing of (a, b). Each turn halves both.
use mathlib.Core.Path.{◌≡◌}
use Prim.Native.Nat.{ℕ, ◌-◌, ◌*◌, ◌^◌}
use Rattle.grid.specs.Points.{level}
use Rattle.grid.proofs.points.units_of.Given as goal

-- x and y are s times a and b; `left` halvings are still allowed
pub record Halved (m x y left s a b : ℕ) : Type 0 where
  pub east : x ≡ s * a
  pub north : y ≡ s * b
  pub size : 2 ^ m ≡ s * 2 ^ left
  pub found : 2 ^ level m x y ≡ s * 2 ^ level left a b

abbrev pub invariant-loop : goal.invariant-loop
invariant-loop l = Halved l.fn.g.m l.initial.a l.initial.b (l.fn.g.m - l.counter) l.s l.a l.b
