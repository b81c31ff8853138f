-- A step of the walk by places: the half has a cut less, marks stand at its corners, and its weights add up to no more. And what the walk
-- makes of a triangle: a refusal, its half's end, or its own.
use mathlib.Core.Path.{◌≡◌, refl}
use mathlib.Core.Bool.{true, false}
use mathlib.Core.List.{List}
use Prim.Native.Nat.{ℕ, zero, suc, ◌-◌, ◌*◌, ◌≤◌, ◌<◌}
use native.Mathlib.Decide.{dec_le}
use native.Mathlib.Omega.{arith}
use borrow.Author.Tests.{le-leb, lt-leb}
use Rattle.grid.specs.declared.refusals.Refusal.TheVariants.{BadMark}
use Rattle.std.specs.Prelude.{Ok, Err}
use Rattle.mesh.specs.Inner.{kept_place, good_inner}
use Rattle.aim.specs.Inner.{corner, half_at, cut_place, walk_from, Stands, Light}
use Rattle.aim.specs.declared.walk.Reached.{Reached}

-- the first half of a triangle cut at the place c, and the second
abbrev pub first_at : ℕ → Reached → Reached
first_at c t = record { l = corner t.l.place (t.l.weight - t.r.weight); a = corner c (2 * t.r.weight); r = t.a; left = t.left - 1 }

abbrev pub second_at : ℕ → Reached → Reached
second_at c t = record { l = t.a; a = corner c (2 * t.l.weight); r = corner t.r.place (t.r.weight - t.l.weight); left = t.left - 1 }

module _ (t : Reached) where
  -- what holds of either half holds of the one that the point goes to
  pub half_either : (P : Reached → Type 0) (c : ℕ) → (t.r.weight ≤ t.l.weight → P (first_at c t)) → (t.l.weight < t.r.weight → P (second_at c t)) → P (half_at c t)
  unfolding half_at
  half_either P c first second = by (dec_le t.r.weight t.l.weight)
    where
      by : Dec (t.r.weight ≤ t.l.weight) → P (half_at c t)
      by (yes h) = rw (le-leb t.r.weight t.l.weight h) (first h)
      by (no h) = let l : t.l.weight < t.r.weight = omega arith in rw (lt-leb t.r.weight t.l.weight l) (second l)

  pub half_left : (c : ℕ) → (half_at c t).left ≡ t.left - 1
  half_left c = half_either (λ u. u.left ≡ t.left - 1) c (λ h. refl) (λ h. refl)

  pub half_light : (c : ℕ) → Light t → Light (half_at c t)
  half_light c light = half_either Light c (λ h. omega arith) (λ h. omega arith)

  pub half_stands : {A : Type 0} {list : List A} → Stands list t → Stands list (half_at (cut_place t) t)
  half_stands {list = list} s = half_either (Stands list) (cut_place t) (λ h. omega (arith, s)) (λ h. omega (arith, s))

-- with no cut left the walk ends
pub walk_out : (marks : List ℕ) (t : Reached) → t.left ≤ 0 → walk_from marks t.left t ≡ Ok t
unfolding walk_from
walk_out marks t none = by t.left none
  where
    by : (k : ℕ) → k ≤ 0 → walk_from marks k t ≡ Ok t
    by zero none = refl
    by (suc k) none = absurd (omega arith)

-- with a cut left
module _ (marks : List ℕ) (t : Reached) (some : 0 < t.left) where
  -- the mark at the midpoint is not good
  pub walk_bad : good_inner marks (cut_place t) ≡ false → walk_from marks t.left t ≡ Err BadMark
  unfolding walk_from
  walk_bad bad = by t.left some
    where
      by : (k : ℕ) → 0 < k → walk_from marks k t ≡ Err BadMark
      by zero some = absurd (omega arith)
      by (suc k) some = rw bad

  -- it is good, and keeps no point
  pub walk_uncut : good_inner marks (cut_place t) ≡ true → kept_place marks (cut_place t) ≡ false → walk_from marks t.left t ≡ Ok t
  unfolding walk_from
  walk_uncut good out = by t.left some
    where
      by : (k : ℕ) → 0 < k → walk_from marks k t ≡ Ok t
      by zero some = absurd (omega arith)
      by (suc k) some = rw (good, out)

  -- or keeps one
  pub walk_on : good_inner marks (cut_place t) ≡ true → kept_place marks (cut_place t) ≡ true →
      walk_from marks (half_at (cut_place t) t).left (half_at (cut_place t) t) ≡ walk_from marks t.left t
  unfolding walk_from
  walk_on good kept = by t.left some (half_left t (cut_place t))
    where
      by : (k : ℕ) → 0 < k → {j : ℕ} → j ≡ k - 1 → walk_from marks j (half_at (cut_place t) t) ≡ walk_from marks k t
      by zero some e = absurd (omega arith)
      by (suc k) some {j} e = let less : j ≡ k = omega arith in rw (good, kept, less)
