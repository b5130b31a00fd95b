-- One attempt: the tests 10, 11, 12, 13 and 9, then an instruction's reading program, then its writes.
-- Document 01, "The numbered endings".
use Rattle.std.specs.Prelude.{ℕ, ◌/◌, ◌%◌, Bool, not, ◌&&◌, ◌||◌, List, ◌++◌, map, length, ◌==◌, nat_lt}
use Rattle.operations.specs.Operations.{length_of, begins_assisted}
use Rattle.rules.specs.Endings.{
  Ending,
  Completed,
  WrongMode,
  WrongStorageSize,
  WrongKeyCount,
  OddInstructionAddress,
  NotAssisted,
}
pub use Rattle.rules.specs.declared.answer.Answer.{Answer}
use Rattle.rules.specs.Guest.{Guest, instruction_address, extended_control, problem_state, advance}
use Rattle.rules.specs.Machine.{Machine}
use Rattle.rules.specs.Writes.{perform_all, entry}
use Rattle.rules.specs.References.{Reference}
use Rattle.rules.specs.Recording.{noted_all}
use Rattle.rules.specs.Steps.{Steps, branch, ◌>>◌, stop_if}
use Rattle.rules.specs.Run.{Outcome, ended, gave, Run, run}
use Rattle.rules.specs.Call.{Call, operation_byte, operation, RecordChange, changed, Completion}
use Rattle.rules.specs.SetSystemMask.{set_system_mask}
use Rattle.rules.specs.StoreControl.{store_control}
use Rattle.rules.specs.StoreThenMask.{store_then_and, store_then_or}
use Rattle.rules.specs.SetStorageKey.{set_storage_key}
use Rattle.rules.specs.InsertStorageKey.{insert_storage_key}
use Rattle.rules.specs.ResetReferenceBit.{reset_reference_bit}
use Rattle.rules.specs.LoadRealAddress.{load_real_address}

-- ---- the tests

-- 10: not a multiple of 2,048, or outside 2,048 to 16,777,216
abbrev pub wrong_storage : (bytes : ℕ) → Bool
wrong_storage bytes = not (bytes % 2048 == 0) || nat_lt bytes 2048 || nat_lt 16777216 bytes

-- 11: not one key for each 2,048 bytes
abbrev pub wrong_keys : (bytes keys : ℕ) → Bool
wrong_keys bytes keys = not (keys == bytes / 2048)

-- 12: the instruction address is odd
abbrev pub odd_address : Guest → Bool
odd_address g = not (instruction_address g % 2 == 0)

-- 13, where it is not: the operation byte is marked, and B2 has 13 as its second byte
abbrev pub is_assisted : Call → Bool
is_assisted c = begins_assisted (operation_byte c) && (not (operation_byte c == 0xb2) || operation c == 0xb213)

-- 9: real PSW bit 12 or bit 15 is zero
abbrev pub wrong_mode : Guest → Bool
wrong_mode g = not (extended_control g) || not (problem_state g)

-- what comes after them, in a storage of so many bytes with so many keys
unfoldable pub admitted : {A : Type 0} → (bytes keys : ℕ) → (Call → Steps A) → Call → Steps A
admitted bytes keys next c = do
  stop_if (wrong_storage bytes) WrongStorageSize
  stop_if (wrong_keys bytes keys) WrongKeyCount
  stop_if (odd_address c.guest) OddInstructionAddress
  stop_if (not (is_assisted c)) NotAssisted
  stop_if (wrong_mode c.guest) WrongMode
  next c

-- ---- the instruction, by its operation code: B213 is the one of the eight that is left

unfoldable pub instruction : Call → Steps Completion
instruction c =
    branch (operation c == 0x80) (set_system_mask c)
    (branch (operation c == 0xb6) (store_control c)
    (branch (operation c == 0xac) (store_then_and c)
    (branch (operation c == 0xad) (store_then_or c)
    (branch (operation c == 0x08) (set_storage_key c)
    (branch (operation c == 0x09) (insert_storage_key c)
    (branch (operation c == 0xb1) (load_real_address c)
    (reset_reference_bit c)))))))

-- the tests, and then the instruction
abbrev pub program : (bytes keys : ℕ) → Call → Steps Completion
program bytes keys = admitted bytes keys instruction

-- ---- the answer

-- the answer, document 01's word for the ending with all that it carries, the count of references and the record handed
-- back; the list of references; and the machine afterwards
pub record Result : Type 0 where
  pub answer : Answer
  pub references : List Reference
  pub after : Machine

abbrev pub answered : Ending → Guest → List Reference → Machine → Result
answered e g rs m = record {
  answer = record { ending = e; count = length rs; guest = g };
  references = rs;
  after = m;
}

-- the record that completion hands back: its instruction address is moved on by the instruction's length
abbrev pub handed_back : Call → RecordChange → Guest
handed_back c change = advance (changed c change) (length_of (operation_byte c))

-- what was recorded by reading stays; completion makes the writes, and every other ending none
abbrev pub conclude : Machine → Call → List Reference → Outcome Completion → Result
conclude m c rs (ended e) = answered e c.guest rs (noted_all m rs)
conclude m c rs (gave k) =
    answered Completed (handed_back c k.change) (rs ++ map entry k.writes) (perform_all (noted_all m rs) k.writes)

abbrev pub reading : Machine → Call → Run Completion
reading m c = run (program (length m.storage) (length m.keys) c) m

abbrev pub attempt : Machine → Call → Result
attempt m c = conclude m c (reading m c).references (reading m c).outcome
