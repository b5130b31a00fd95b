-- A call, document 01's word for one attempt with all that is fixed beforehand: its fields, and what its completion
-- leaves to do.
use Rattle.std.specs.Prelude.{ℕ, cond, ◌&&◌, List, ◌==◌}
use Rattle.rules.specs.Guest.{Guest, with_byte, with_address, with_code}
use Rattle.rules.specs.Bits.{bit, halfword}
use Rattle.rules.specs.Writes.{Write}
use Rattle.rules.specs.Endings.{Ending, Expanded, refuse}
use Rattle.rules.specs.Steps.{Steps, done}
-- the record, the first halfword, and whether the expanded assist is installed
pub use Rattle.rules.specs.declared.call.Call.{Call}
pub use Rattle.rules.specs.declared.record_change.RecordChange.{RecordChange}
pub use Rattle.rules.specs.declared.record_change.RecordChange.TheVariants.{
  Unchanged,
  RegisterByte,
  ConditionCode,
  LoadedAddress,
}

abbrev pub operation_byte : Call → ℕ
operation_byte c = halfword 0 7 c.first

-- the operation code: a byte, or two where the first is B2
abbrev pub operation : Call → ℕ
operation c = cond (operation_byte c == 0xb2) c.first (operation_byte c)

abbrev pub r1 : Call → ℕ
r1 c = halfword 8 11 c.first

-- R2 of the RR format is R3 of the RS format, and X2, the index, of the RX format
abbrev pub r2 : Call → ℕ
r2 c = halfword 12 15 c.first

abbrev pub r3 : Call → ℕ
r3 = r2

abbrev pub x2 : Call → ℕ
x2 = r2

abbrev pub immediate : Call → ℕ
immediate c = halfword 8 15 c.first

-- Document 01's "expanded", as document 02, R-3 has it: handed over where the expanded assist is installed and bit 6 of
-- control register 6 is one, else refused. Document 002, Figure 3: it wants ones in bits 0 and 6. Bit 0 is one wherever
-- this is asked, since step 1 of each instruction refuses any other.
abbrev pub expanded : Call → Ending
expanded c = cond (c.installed && bit 32 6 c.guest.cr6) Expanded refuse

-- the record with what an instruction changes in it, besides the instruction address
abbrev pub changed : Call → RecordChange → Guest
changed c Unchanged = c.guest
changed c (RegisterByte byte) = with_byte c.guest (r1 c) byte
changed c (ConditionCode code) = with_code c.guest code
changed c (LoadedAddress code address) = with_address (with_code c.guest code) (r1 c) address

-- what is changed in the record, and the writes in order
pub record Completion : Type 0 where
  pub change : RecordChange
  pub writes : List Write

unfoldable pub complete_as : RecordChange → List Write → Steps Completion
complete_as change writes = done (record { change = change; writes = writes })

-- completed with nothing but the instruction address changed in the record
abbrev pub complete : List Write → Steps Completion
complete = complete_as Unchanged
