-- An answer as one number of 64 bits: the ending's number in bits 0-7, its code or step in 8-15, the count of
-- references in 16-31, the logical address in 32-63. Bit 0 is leftmost.
use Rattle.std.specs.Prelude.{ℕ, ◌+◌, ◌*◌, ◌^◌}
use Rattle.rules.specs.Bits.{bits}
use Rattle.rules.specs.Endings.{Numbers}

abbrev pub packed : Numbers → (count : ℕ) → ℕ
packed n count = n.number * 2 ^ 56 + n.code * 2 ^ 48 + count * 2 ^ 32 + n.address

abbrev pub numbers_in : ℕ → Numbers
numbers_in r = record { number = bits 64 0 7 r; code = bits 64 8 15 r; address = bits 64 32 63 r }

abbrev pub count_in : ℕ → ℕ
count_in r = bits 64 16 31 r
