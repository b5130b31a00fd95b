-- The operation byte, the first byte of an instruction: document 02, R-5.
use Rattle.std.specs.Prelude.{ℕ, suc, ◌+◌, Bool, true, cond, ◌&&◌, ◌||◌, List, [], ◌∷◌, eqb, ltb, length}
-- what the first byte says of an instruction: its length, and whether it can be assisted
pub use Rattle.operations.specs.declared.Operation.{Operation}

-- the instruction's length in bytes
abbrev pub length_of : (byte : ℕ) → ℕ
length_of b = cond (ltb b 0x40) 2 (cond (ltb b 0xc0) 4 6)

-- whether the byte begins an assisted instruction; B2 does with one second byte alone
abbrev pub begins_assisted : (byte : ℕ) → Bool
begins_assisted b =
    eqb b 0x08 || eqb b 0x09 || eqb b 0x80 || eqb b 0xac || eqb b 0xad || eqb b 0xb1 || eqb b 0xb2 || eqb b 0xb6

-- both
abbrev pub operation_of : (byte : ℕ) → Operation
operation_of b = record { length = length_of b; assisted = begins_assisted b }

-- ---- the table

-- its entry for a byte: the length, and 80 (hex) more as the mark
abbrev pub entry_of : (byte : ℕ) → ℕ
entry_of b = length_of b + cond (begins_assisted b) 0x80 0

-- each entry is the one for its byte, from this byte on
abbrev pub from_byte : (byte : ℕ) → (entries : List ℕ) → Bool
from_byte b [] = true
from_byte b (x ∷ xs) = eqb x (entry_of b) && from_byte (suc b) xs

-- the test over the whole table: an entry for each of the 256 bytes
abbrev pub by_rule : (entries : List ℕ) → Bool
by_rule entries = eqb (length entries) 256 && from_byte 0 entries
