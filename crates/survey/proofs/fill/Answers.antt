-- `survey::fill` meets its contract: what the sweep leaves has no void, and so is filled.
use mathlib.Core.Path.{◌≡◌, ◌∙◌, refl, sym, subst⁻¹}
use mathlib.Core.Bool.{Bool, true, false, ◌||◌}
use mathlib.Core.List.{List, [], ◌∷◌}
use Rattle.std.proofs.Common.{rules}
use Rattle.std.specs.List.{fold}
use Prim.Native.Nat.{ℕ, zero, suc, ◌<◌}
use native.Mathlib.Omega.{arith}
use lib.ListN.{length}
use lib.IntN.{ℤ}
use Rattle.grid.specs.Grid.{is_void, samples}
use Rattle.survey.specs.Filled.{CornersSurveyed}
use Rattle.survey.specs.Inner.{Ready, Stands, NoVoid}
use Rattle.survey.proofs.Partial.{partly_none}
use Rattle.survey.proofs.Sweep.{none_left}
use Rattle.survey.proofs.fill.Goals as goal

-- what is known of the survey is known of its copy
copied : {m : ℕ} {survey heights : List ℤ} → heights ≡ survey → length survey ≡ samples m → CornersSurveyed m survey → Ready m heights
copied {m} e long corners = subst⁻¹ (Ready m) e (record { long = long; corners = corners })

-- where none is found none is there
none_found : (a : Bool) (ys : List ℤ) → fold (λ any h. any || is_void h) a ys ≡ false → (a ≡ false) × NoVoid ys
none_found a [] e = (e, λ i l. absurd (omega arith))
none_found true (y ∷ ys) e = let rest = none_found true ys e in cc
none_found false (y ∷ ys) e =
    let rest = none_found (is_void y) ys e in (refl, λ i l. go i l rest.0 rest.1)
  where
    go : (i : ℕ) → i < length (y ∷ ys) → is_void y ≡ false → NoVoid ys → Stands (y ∷ ys) i
    go zero l first rest = first
    go (suc i) l first rest = rest i (omega arith)

pub returns-then-has_void : goal.returns-then-has_void
returns-then-has_void c =
    let lent = sym c.fill_spacings.ensures.lent in
    let swept = c.fill_spacings.ensures.swept in
    let filled = none_left c.args.g.m _ _ c.requires.0 (rw c.copy.ensures.whole at swept.partly) swept.stand in
    record { is = search (rules, lent) ∙ filled; sixteen = c.copy.ensures.sixteen }

pub returns-else-has_void : goal.returns-else-has_void
returns-else-has_void c =
    let s = c in
    record {
      is = s.copy.ensures.whole ∙ none_left s.args.g.m _ _ s.requires.0 (partly_none _ _) (none_found _ _ (sym s.has_void.ensures ∙ s.if-has_void.false)).1;
      sixteen = s.copy.ensures.sixteen;
    }
