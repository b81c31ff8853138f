-- The answers of both calls: where nothing is turned down, and where anything is. Their definitions are opened here alone, beside the
-- values that are computed from them.
use mathlib.Core.Path.{◌≡◌, refl, sym, ap, ◌∙◌}
use mathlib.Core.Bool.{cond}
use mathlib.Core.Logic.{◌≢◌}
use native.Mathlib.Decide.{ℕ_discrete}
use borrow.Author.Tests.{ne_eqb}
use Rattle.grid.specs.Refusal.{accepted}
use Rattle.aim.specs.Quotient.{plus_zero}
use Rattle.aim.specs.Aimed.{Handed, ended, refusal, is_filled, height_in, ground_in, no_ground}
use Rattle.aim.specs.Aimed.{nowhere, surveyed, filled, Said, says, height_at, plane_at}

module _ (h : Handed) where
  module _ (ok : refusal h ≡ accepted) where
    pub height_taken :
        let t = (ended h).triangle in
        height_at h ≡ says accepted (cond (is_filled h.m h.marks t) filled surveyed) (height_in h.m h.heights t)
    unfolding height_at
    height_taken = rw ok

    pub plane_taken : plane_at h ≡ record { refusal = accepted; ground = ground_in h.m h.heights (ended h) }
    unfolding plane_at
    plane_taken = rw ok

  module _ (not_ok : refusal h ≢ accepted) where
    pub height_refused : height_at h ≡ says (refusal h) nowhere plus_zero
    unfolding height_at
    height_refused = rw (ne_eqb (refusal h) accepted not_ok)

    pub plane_refused_lem : plane_at h ≡ record { refusal = refusal h; ground = no_ground }
    unfolding plane_at
    plane_refused_lem = rw (ne_eqb (refusal h) accepted not_ok)

  -- either carries the refusal's number
  pub height_number : (height_at h).refusal ≡ refusal h
  height_number = by (ℕ_discrete (refusal h) accepted)
    where
      by : Dec (refusal h ≡ accepted) → (height_at h).refusal ≡ refusal h
      by (yes ok) = ap (λ (s : Said). s.refusal) (height_taken ok) ∙ sym ok
      by (no not_ok) = ap (λ (s : Said). s.refusal) (height_refused not_ok)

  pub plane_number : (plane_at h).refusal ≡ refusal h
  unfolding plane_at
  plane_number = refl
