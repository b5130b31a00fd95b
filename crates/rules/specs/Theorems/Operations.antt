-- Document 02, R-5: with the table over the operation byte no answer changes. Whether a call is assisted, and how far
-- its completion moves the address, is for every call as it was by the operation code, before there was a table. (That
-- the table is by its rule at all 256 bytes is what `operations::operation_of` promises.)
use Rattle.std.specs.Prelude.{◌≡◌, ℕ, Bool, true, ◌||◌, ◌==◌}
use Rattle.operations.specs.Operations.{length_of}
use Rattle.rules.specs.Call.{Call, operation_byte, operation}
use Rattle.rules.specs.Attempt.{is_assisted}
use Rattle.rules.specs.Theorems.Answers.{instruction_length}

-- one of the eight
abbrev pub assisted_code : (operation : ℕ) → Bool
assisted_code op =
    (op == 0x08) || op == 0x09 || op == 0x80 || op == 0xac || op == 0xad || op == 0xb1 || op == 0xb213
    || op == 0xb6

pub record AsByCode (c : Call) : Type 0 where
  pub assisted : is_assisted c ≡ assisted_code (operation c)
  pub length : is_assisted c ≡ true → length_of (operation_byte c) ≡ instruction_length (operation c)

abbrev pub TableAsByCode : Type 0
TableAsByCode = (c : Call) → AsByCode c
