-- LOAD REAL ADDRESS (B1), RX format. Document 02, R-9; document 002, "LOAD REAL ADDRESS", with Figure 9.
-- The second operand's address is walked by the guest's own tables, which virtual control registers 0 and 1 name and
-- which are found through the real tables of MICRSEG. Condition code and R1 tell what came of it; nothing is stored.
use Rattle.std.specs.Prelude.{ℕ, not, []}
use Rattle.rules.specs.Endings.{FieldMissing, refuse}
use Rattle.rules.specs.Machine.{◌⊕◌}
use Rattle.rules.specs.Guest.{assists_control, indexed}
use Rattle.rules.specs.Steps.{Steps, stop, ◌>>=◌, ◌>>◌, fetch_bytes, stop_if}
use Rattle.rules.specs.Translation.{
  Format,
  SegmentTableLength,
  SegmentInvalid,
  SegmentFormat,
  PageTableLength,
  PageInvalid,
  PageFormat,
  format_of,
  Walk,
  found,
  fault,
  found_or,
  entry_of,
  table_walk,
}
use Rattle.rules.specs.ControlFields.{control_word, micrseg, miccreg, segment_size_in, page_size_in, address_in}
use Rattle.rules.specs.Access.{second_halfword}
use Rattle.rules.specs.Call.{Call, x2, LoadedAddress, Completion, complete_as}

-- ---- the real tables, through which the entries of virtual ones are read: steps 7 to 12, and again 16 to 21

abbrev pub real_format : (rseg : ℕ) → Format
real_format rseg = record { page = page_size_in rseg; segment = segment_size_in rseg }

-- the real address of a virtual one; ending 3 carries the place of the segment entry, or of the page entry, among the
-- control program's fields as tried
unfoldable pub real_by : (rseg segment_place page_place address : ℕ) → Steps ℕ
real_by rseg i j a = do
  walk ← table_walk (entry_of 4 (FieldMissing i)) (entry_of 2 (FieldMissing j)) (real_format rseg) rseg a
  found_or (λ x. refuse) walk

-- an entry of n bytes at a virtual address
unfoldable pub through_real : (rseg segment_place page_place n address : ℕ) → Steps ℕ
through_real rseg i j n a = do
  real ← real_by rseg i j a  -- 7 to 11; 16 to 20
  fetch_bytes real n refuse  -- 12; 21

-- ---- the virtual tables: steps 6 to 24

unfoldable pub virtual_walk : (rseg : ℕ) → Format → (table address : ℕ) → Steps Walk
virtual_walk rseg f table a = table_walk (through_real rseg 5 6 4) (through_real rseg 7 8 2) f table a

abbrev pub loaded : (code address : ℕ) → Steps Completion
loaded code address = complete_as (LoadedAddress code address) []

-- the address in R1 is that of the virtual entry that is invalid or beyond its table, or the real address
abbrev pub loaded_by : Walk → Steps Completion
loaded_by (fault SegmentTableLength entry) = loaded 3 entry  -- 6
loaded_by (fault SegmentInvalid entry) = loaded 1 entry  -- 13
loaded_by (fault SegmentFormat entry) = stop refuse  -- 14
loaded_by (fault PageTableLength entry) = loaded 3 entry  -- 15
loaded_by (fault PageInvalid entry) = loaded 2 entry  -- 22
loaded_by (fault PageFormat entry) = stop refuse  -- 23
loaded_by (found real) = loaded 0 real  -- 24

unfoldable pub load_by : (rseg : ℕ) → Format → (table address : ℕ) → Steps Completion
load_by rseg f table a = virtual_walk rseg f table a >>= loaded_by

-- ---- the instruction: steps 1 to 5

-- steps 3 to 5: virtual control registers 0 and 1, in ECBLOK, and the second halfword
unfoldable pub load_through : Call → (rseg ecblok : ℕ) → Steps Completion
load_through c rseg ecblok = do
  cr0 ← control_word 3 ecblok  -- 3
  cr1 ← control_word 4 (ecblok ⊕ 4)
  f ← format_of refuse cr0  -- 4
  second ← second_halfword c.guest  -- 5
  load_by rseg f cr1 (indexed c.guest (x2 c) second)

unfoldable pub load_real_address : Call → Steps Completion
load_real_address c = do
  stop_if (not (assists_control c.guest)) refuse  -- 1
  rseg ← micrseg 1 c.guest  -- 2
  creg ← miccreg 2 c.guest
  load_through c rseg (address_in creg)
