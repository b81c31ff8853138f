-- A height is never a NaN, so it has bits of its own: rounding gives a number or an infinity, whatever it is handed.
use mathlib.Core.Bool.{Bool, true, false, not, cond}
use Prim.Native.Nat.{ℕ, zero, suc, ◌+◌, ◌*◌, ◌^◌}
use lib.Dec.{T, ltb, eqb}
use lib.IntN.{ℤ}
use lib.Ieee.{Float, Format, inf, odd, units, round, is_nan, fits, low, prec, emax}
use lib.Ieee.Fits.{round-fits}
use Rattle.grid.specs.Refusal.{accepted}
use Rattle.aim.specs.Quotient.{format, plus_zero, quotient}
use Rattle.aim.specs.Aimed.{Said, Handed, refusal, height_in, height_at}

-- a float of the format that is no NaN
pub record Number (x : Float) : Type 0 where
  pub holds : T (fits format x)
  pub number : T (not (is_nan x))

odd_number : (d : ℕ) (s : Bool) (q k l : ℕ) → T (not (is_nan (odd d s q k l)))
unfolding odd is_nan
odd_number d s zero k l = tt
odd_number d s (suc q) k l = tt

either_number : (b : Bool) (x y : Float) → T (not (is_nan x)) → T (not (is_nan y)) → T (not (is_nan (cond b x y)))
either_number true x y h k = h
either_number false x y h k = k

units_number : (f : Format) (s : Bool) (q k : ℕ) → T (not (is_nan (units f s q k)))
unfolding units is_nan
units_number f s q k =
    either_number (ltb (q * 2 ^ k) (2 ^ (low f + suc (emax f)))) (odd (suc (prec f)) s q k (low f)) (inf s) (odd_number (suc (prec f)) s q k (low f)) tt

round_number : (f : Format) (s : Bool) (n d : ℕ) → T (not (is_nan (round f s n d)))
unfolding round
round_number f s n d = units_number f s _ _

quotient_number : (z : ℤ) (d : ℕ) → Number (quotient format z d)
unfolding quotient
quotient_number z d = record { holds = round-fits format _ _ d; number = round_number format _ _ d }

zero_number : Number plus_zero
unfolding fits is_nan
zero_number = record { holds = tt; number = tt }

either : (b : Bool) (s t : Said) → Number s.height → Number t.height → Number (cond b s t).height
either true s t p q = p
either false s t p q = q

pub height_number : (h : Handed) → Number (height_at h).height
unfolding height_at height_in
height_number h = either (eqb (refusal h) accepted) _ _ (quotient_number _ _) zero_number
