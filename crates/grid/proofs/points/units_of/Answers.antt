-- `grid::points::units_of` meets its contract. The invariant: the point is s times (a, b), and what is left to find of its
-- spacing is the spacing of (a, b). Each turn halves both.
use mathlib.Core.Path.{◌≡◌, refl, sym, ap, ◌∙◌}
use mathlib.Core.Logic.{inl, inr}
use Prim.Native.Nat.{ℕ, zero, suc, ◌+◌, ◌-◌, ◌*◌, ◌^◌, ◌/◌, ◌%◌, ◌<◌}
use native.Mathlib.Nat.{not-suc-le-zero, pow-suc, mul-one, mul_assoc, mul_comm, mul-div_cancel_left}
use native.Mathlib.Omega.{arith}
use lib.Pow.{pow_pos}
use Rattle.grid.specs.Points.{level, spacing, units}
use Rattle.grid.specs.declared.points.Units.{Units}
use Rattle.grid.proofs.Level.{level_odd, level_even}
use Rattle.grid.proofs.points.units_of.Goals as goal
use Rattle.grid.proofs.points.units_of.Goals.{then-a-eq1-via-then-a-eq1, then-a-eq1-via-else-a-eq1+then-b-eq1}
use Rattle.grid.proofs.points.units_of.Invariants.{Halved}

half : (s a : ℕ) → a % 2 ≡ 0 → s * a ≡ s * 2 * (a / 2)
half s a e =
    let d : a ≡ 2 * (a / 2) = omega arith in
    ap (λ (n : ℕ). s * n) d ∙ sym (mul_assoc s 2 (a / 2))

more : (s k : ℕ) → s * 2 ^ suc k ≡ s * 2 * 2 ^ k
more s k = ap (λ (n : ℕ). s * n) (pow-suc 2 k ∙ mul_comm (2 ^ k) 2) ∙ sym (mul_assoc s 2 (2 ^ k))

module _ {m x y : ℕ} where
  step : (left s a b : ℕ) → 0 < left → a % 2 ≡ 0 → b % 2 ≡ 0 → Halved m x y left s a b → Halved m x y (left - 1) (s * 2) (a / 2) (b / 2)
  step zero s a b l ea eb h = absurd (not-suc-le-zero l)
  step (suc k) s a b l ea eb h =
      let e : suc k - 1 ≡ k = omega arith in
      rw e
      (record {
        east = h.east ∙ half s a ea;
        north = h.north ∙ half s b eb;
        size = h.size ∙ more s k;
        found =
            h.found ∙ ap (λ (n : ℕ). s * 2 ^ n) (level_even k a b ea eb) ∙ more s (level k (a / 2) (b / 2));
      })

  -- where nothing is left to find, s is the spacing and (a, b) the point in its units
  done : (left s a b : ℕ) → level left a b ≡ 0 → Halved m x y left s a b →
      ◌≡◌ {A = Units} (record { spacing = s; across = a; up = b }) (units m (record { x = x; y = y }))
  unfolding units spacing
  done left s a b z h =
      let e : s ≡ 2 ^ level m x y = sym (h.found ∙ ap (λ (n : ℕ). s * 2 ^ n) z ∙ mul-one s) in
      let pos : 0 < s = rw e (pow_pos (level m x y)) in
      let ea : a ≡ x / 2 ^ level m x y = sym (ap (λ (n : ℕ). x / n) (sym e) ∙ ap (λ (n : ℕ). n / s) h.east ∙ mul-div_cancel_left a pos) in
      let eb : b ≡ y / 2 ^ level m x y = sym (ap (λ (n : ℕ). y / n) (sym e) ∙ ap (λ (n : ℕ). n / s) h.north ∙ mul-div_cancel_left b pos) in
      λ i. record { spacing = e i; across = ea i; up = eb i }

pub loop-preserved : goal.loop-preserved
loop-preserved c =
    let e : c.args.g.m - (c.loop.counter + 1) ≡ c.args.g.m - c.loop.counter - 1 = omega arith in
    rw e (step _ _ _ _ (omega arith) (omega arith) (omega arith) c.loop.invariant)

pub returns-after-loop : goal.returns-after-loop
unfolding level
returns-after-loop c =
    let e : c.args.g.m - c.loop.counter ≡ 0 = omega arith in
    done _ _ _ _ (rw e refl) c.loop.invariant

pub returns-then-a-eq1 : goal.returns-then-a-eq1
returns-then-a-eq1 c =
    elim c.then-a-eq1.branch [
      | then-a-eq1-via-then-a-eq1 w ↦ done _ _ _ _ (level_odd _ _ _ (inl w.if-a-eq1.true)) c.loop.invariant
      | then-a-eq1-via-else-a-eq1+then-b-eq1 w ↦ done _ _ _ _ (level_odd _ _ _ (inr w.if-b-eq1.true)) c.loop.invariant
    ]
