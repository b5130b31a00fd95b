-- INSERT STORAGE KEY (09), RR format. Document 02, R-4; document 002, "INSERT STORAGE KEY", with Figures 6 and 7.
-- The key of the block that R2 addresses comes into R1: the virtual key of the swap table, and in the virtual EC mode
-- with the reference and change bits of the real key.
use Rattle.std.specs.Prelude.{ℕ, ◌+◌, ◌*◌, Bool, cond, [], Option, Some, None, bit_or}
use Rattle.rules.specs.Endings.{FieldMissing}
use Rattle.rules.specs.Bits.{bits, word}
use Rattle.rules.specs.References.{Whole}
use Rattle.rules.specs.Guest.{Guest}
use Rattle.rules.specs.Steps.{Steps, ◌>>=◌, consult_key}
use Rattle.rules.specs.ControlFields.{control_halfword, micvpsw, address_in}
use Rattle.rules.specs.Masks.{extended_in}
use Rattle.rules.specs.Call.{Call, RegisterByte, Completion, complete_as}
use Rattle.rules.specs.SwapTables.{
  FoundPage,
  places,
  address_word,
  assists_keys,
  segment_table,
  find_page,
  virtual_key,
}

-- Figure 6, bits 24-31 of R1: in either mode bits 0-4 of the virtual key; in the EC mode its bits 5-6 too, ORed with
-- the real key's; zeros for the rest
abbrev pub inserted_key : (extended : Bool) (virtual marks : ℕ) → ℕ
inserted_key extended key marks = bits 8 0 4 key * 8 + cond extended (bit_or (bits 8 5 6 key) marks * 2) 0

-- steps 12 to 14, after so many fields and key blocks were tried
unfoldable pub insert_key : Guest → FoundPage → (tried marks : ℕ) → Steps Completion
insert_key g page tried marks = do
  vpsw ← micvpsw (tried + 1) g  -- 12
  first ← control_halfword (tried + 2) (address_in vpsw)  -- 13
  complete_as (RegisterByte (inserted_key (extended_in first) (virtual_key page) marks)) []  -- 14

-- step 11: the key of a valid page's block
unfoldable pub insert_block_key : Guest → FoundPage → (block : ℕ) → Steps Completion
insert_block_key g page block = do
  key ← consult_key Whole block (FieldMissing places.block)
  insert_key g page places.block (bits 8 5 6 key)

-- steps 11 to 14: on an invalid page, which has no block, no key is tried
abbrev pub insert_by : Guest → FoundPage → (block : Option ℕ) → Steps Completion
insert_by g page None = insert_key g page places.page 0
insert_by g page (Some block) = insert_block_key g page block

unfoldable pub insert_storage_key : Call → Steps Completion
insert_storage_key c = do
  rseg ← segment_table (assists_keys c) places c.guest  -- 1, 2, 3
  page ← find_page places rseg (word 8 31 (address_word c))  -- 4 to 10
  insert_by c.guest page page.block  -- 11 to 14
