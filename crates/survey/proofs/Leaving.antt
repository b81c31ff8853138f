-- What methods leave of a filling, one after the other.
use mathlib.Core.Path.{◌≡◌, refl, sym, ◌∙◌, subst}
use Prim.Native.Nat.{ℕ}
use Rattle.grid.specs.declared.Grid.{Grid}
use Rattle.survey.specs.Inner.{Stands, Swept, Run}
use Rattle.survey.specs.Left.{Leaves}
use Rattle.survey.specs.declared.spacings.Filling.{Filling}
use Rattle.survey.proofs.Partial.{partly_none, partly_then}

pub left_none : (f : Filling) {there : Type 0} → there → Leaves f f there
left_none f t = record { grid = refl; lent = refl; swept = record { partly = partly_none f.grid.m f.heights.now; stand = t } }

pub left_stood : {a b : Filling} (i : ℕ) → b ≡ a → Stands a.heights.now i → Leaves a b (Stands b.heights.now i)
left_stood {a} i e h = subst (λ (f : Filling). Leaves a f (Stands f.heights.now i)) (sym e) (left_none a h)

pub left_so : {a b : Filling} {x y : Type 0} → Leaves a b x → y → Leaves a b y
left_so p y = record { grid = p.grid; lent = p.lent; swept = record { partly = p.swept.partly; stand = y } }

module _ {a b : Filling} {x : Type 0} (p : Leaves a b x) where
  -- what is asked of the grid at a later call holds still
  pub asked : (P : ℕ → Type 0) → P a.grid.m → P b.grid.m
  asked P h = subst (λ (g : Grid). P g.m) (sym p.grid) h

  pub run_asked : {from to step reach : ℕ} → Run a.grid.m from to step reach → Run b.grid.m from to step reach
  run_asked {from} {to} {step} {reach} r = asked (λ m. Run m from to step reach) r

  module _ {c : Filling} where
    -- and what that call leaves is said of the grid at first
    pub left_of : (P : ℕ → Type 0) → Leaves b c (P b.grid.m) → Swept a.grid.m b.heights.now c.heights.now (P a.grid.m)
    left_of P q = subst (λ (g : Grid). Swept g.m b.heights.now c.heights.now (P g.m)) p.grid q.swept

    pub left_swept : {y : Type 0} → Leaves b c y → Swept a.grid.m b.heights.now c.heights.now y
    left_swept {y} q = left_of (λ m. y) q

    pub left_then : {y z : Type 0} → Leaves b c y → z → Leaves a c z
    left_then q z =
        let part = partly_then a.grid.m a.heights.now b.heights.now c.heights.now p.swept.partly (left_swept q).partly in
        record { grid = q.grid ∙ p.grid; lent = q.lent ∙ p.lent; swept = record { partly = part; stand = z } }

    pub left_two : {y : Type 0} → Leaves b c y → Leaves a c y
    left_two q = left_then q q.swept.stand
