-- `selection::error::exceeds` meets its contract: heights have 16 bits, so twice one, the sum of two and the difference are exact in 32,
-- and what wraps, wraps beyond twice the limit.
use Rattle.std.proofs.Common.{◌≡◌, ℕ, suc, ◌+◌, ◌-◌, ◌*◌, ◌%◌, ◌^◌, ◌<◌, ◌≤◌, ltb, ℤ, pos, negsuc, ◌+ℤ◌, ◌-ℤ◌, ◌*ℤ◌, nat_abs, sym, refl, ap, ◌∙◌, arith, w16, w32, SFits, to_z, of_z, le-ltb, lt-ltb}
use native.Mathlib.Decide.{dec_lt}
use Rattle.selection.specs.Inner.{farthest}
use Rattle.selection.proofs.Exact.{Exact, fits, literal, handed, held, sum, difference, times}
use Rattle.selection.proofs.error.exceeds.Goals as goal

-- a number that the code holds in 32 bits
abbrev in32 : ℤ → ℤ
in32 z = to_z w32 (of_z w32 z)

widened : {z v : ℤ} → SFits w16 z → v ≡ to_z w16 (of_z w16 z) → Exact v z 32768
widened f e = record { same = e ∙ (handed f).same; size = (handed f).size }

-- raised by as far as it may lie from 0, it is no longer below 0
abbrev lift : ℤ → ℕ
lift (pos n) = n + farthest
lift (negsuc n) = farthest - suc n

lifted : (z : ℤ) → nat_abs z ≤ farthest → z +ℤ pos farthest ≡ pos (lift z)
lifted (pos n) l = refl
lifted (negsuc n) l = rw (le-ltb farthest (suc n) l)

lift_most : (z : ℤ) → nat_abs z ≤ farthest → lift z ≤ 2 * farthest
lift_most (pos n) l = omega arith
lift_most (negsuc n) l = omega arith

-- with the limit in its stead it is from 0 to twice the limit just where it lies within the limit, either way
within : (limit : ℕ) (z : ℤ) {r : ℕ} → limit ≤ farthest → nat_abs z ≤ farthest → r < 2 ^ 32 → (r + (farthest - limit)) % 2 ^ 32 ≡ lift z →
    ltb (2 * limit) r ≡ ltb limit (nat_abs z)
within limit (pos n) {r} l k h e = go (dec_lt limit n)
  where
    is : r ≡ n + limit
    is = omega (arith, e)

    go : Dec (limit < n) → ltb (2 * limit) r ≡ ltb limit n
    go (yes d) = lt-ltb (2 * limit) r (omega (arith, is)) ∙ sym (lt-ltb limit n d)
    go (no d) = le-ltb (2 * limit) r (omega (arith, is)) ∙ sym (le-ltb limit n (omega arith))
within limit (negsuc n) {r} l k h e = go (dec_lt limit (suc n))
  where
    go : Dec (limit < suc n) → ltb (2 * limit) r ≡ ltb limit (suc n)
    go (yes d) = lt-ltb (2 * limit) r (omega (arith, e)) ∙ sym (lt-ltb limit (suc n) d)
    go (no d) = le-ltb (2 * limit) r (omega (arith, e)) ∙ sym (le-ltb limit (suc n) (omega arith))

-- a height and its ends' heights, each of 16 bits, widened to v, w and x
module _ {h a b v w x : ℤ} (eh : Exact v h 32768) (ea : Exact w a 32768) (eb : Exact x b 32768) where
  twice : Exact (pos 2 *ℤ in32 v) (pos 2 *ℤ h) 65536
  twice = times 2 (held eh (omega arith))

  both : Exact (in32 w +ℤ in32 x) (a +ℤ b) 65536
  both = sum (held ea (omega arith)) (held eb (omega arith))

  -- the error as it is meant, and as the code has it
  abbrev meant : ℤ
  meant = pos 2 *ℤ h -ℤ (a +ℤ b)

  abbrev had : ℤ
  had = in32 (pos 2 *ℤ in32 v) -ℤ in32 (in32 w +ℤ in32 x)

  error : Exact had meant farthest
  error = difference (held twice (omega arith)) (held both (omega arith))

  raised : Exact (in32 had +ℤ pos farthest) (meant +ℤ pos farthest) (2 * farthest)
  raised = sum (held error (omega arith)) (literal (pos farthest))

  value : in32 (in32 had +ℤ pos farthest) ≡ pos (lift meant)
  value = (held raised (omega arith)).same ∙ lifted meant error.size

pub overflow_sub-error : goal.overflow_sub-error
overflow_sub-error c =
    let f = c.ranges in fits (error (widened f.h c.from.ensures) (widened f.a c.from-2.ensures) (widened f.b c.from-3.ensures)) (omega arith)

pub overflow_add-raised : goal.overflow_add-raised
overflow_add-raised c =
    let f = c.ranges in fits (raised (widened f.h c.from.ensures) (widened f.a c.from-2.ensures) (widened f.b c.from-3.ensures)) (omega arith)

pub overflow_cast-raised-2 : goal.overflow_cast-raised-2
overflow_cast-raised-2 c =
    let f = c.ranges in
    let h = widened f.h c.from.ensures in
    let a = widened f.a c.from-2.ensures in
    let b = widened f.b c.from-3.ensures in
    rw (value h a b) (tt, record { fits = omega (arith, lift_most (meant h a b) (error h a b).size) })

pub returns : goal.returns
returns c =
    let f = c.ranges in
    let h = widened f.h c.from.ensures in
    let a = widened f.a c.from-2.ensures in
    let b = widened f.b c.from-3.ensures in
    within c.args.limit (meant h a b) c.requires (error h a b).size c.wrapping_sub_u32-together.type_inv
    (c.wrapping_sub_u32-together.ensures.value ∙ ap nat_abs (value h a b))
