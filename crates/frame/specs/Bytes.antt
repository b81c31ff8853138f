-- Numbers as bytes hold them. Document 01, "The program": all big-endian; "The grid": heights are signed 16-bit. Definitions only.
use Rattle.std.specs.Prelude.{cond, List, ℕ, zero, suc, ◌+◌, ◌*◌, ltb, get_or, ℤ, pos, ◌-ℤ◌}

-- the byte at an index (0 beyond the last)
abbrev pub byte_at : List ℕ → ℕ → ℕ
byte_at input i = get_or input i 0

-- as many numbers as a byte can hold
abbrev pub byte_values : ℕ
byte_values = 256

-- big-endian: of the bytes from an index on, each counts 256 times what the next one does
abbrev pub number_at : List ℕ → ℕ → ℕ → ℕ
number_at input i zero = 0
number_at input i (suc bytes) = byte_values * number_at input i bytes + byte_at input (i + bytes)

-- 16 bits read as a signed number: below 2^15 themselves, else 2^16 less
abbrev pub signed : ℕ → ℤ
signed n = cond (ltb n 32768) (pos n) (pos n -ℤ pos 65536)
