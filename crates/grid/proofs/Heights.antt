-- Heights counted from the void mark are whole numbers below 65536, 0 exactly for void, and counting back gives the height.
use mathlib.Core.Path.{◌≡◌, refl}
use mathlib.Core.Bool.{Bool, true, false, cond}
use Prim.Native.Nat.{ℕ, suc, ◌-◌, ◌<◌}
use native.Mathlib.Omega.{arith}
use lib.Dec.{ltb}
use lib.IntN.{ℤ, pos, negsuc, ◌-ℤ◌}
use lib.Signed.{mag}
use borrow.Author.Tests.{le-ltb}
use Rattle.grid.specs.Grid.{void, raise, lower}

-- h - void, for a height that 16 bits hold
pub from_void : (h : ℤ) → mag h < 32768 → h -ℤ void ≡ pos (raise h)
from_void (pos n) f = refl
from_void (negsuc n) f = rw (le-ltb 32768 (suc n) f)

pub raise_minus : (n : ℕ) → n < 32768 → raise (negsuc n) ≡ 32768 - suc n
raise_minus n f = rw (le-ltb 32768 (suc n) f)

pub raise_below : (h : ℤ) → mag h < 32768 → raise h < 65536
raise_below (pos n) f = omega arith
raise_below (negsuc n) f = rw (raise_minus n f) (omega arith)

-- a number counted from the void mark, counted back, is a height of 16 bits
pub lower_fits : (b : ℕ) → b < 65536 → mag (lower b) < 32768
lower_fits b h = go (ltb b 32768) refl
  where
    go : (t : Bool) → ltb b 32768 ≡ t → mag (cond t (negsuc (32768 - suc b)) (pos (b - 32768))) < 32768
    go true e = omega arith
    go false e = omega arith
