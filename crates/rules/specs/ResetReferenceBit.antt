-- RESET REFERENCE BIT (B213), S format. Document 02, R-4; document 002, "RESET REFERENCE BIT", with Figures 10 and 11.
-- The reference bit of the block that the second halfword addresses becomes zero, in the real key and in the swap
-- table; the condition code tells what reference and change bits were.
use Rattle.std.specs.Prelude.{ℕ, ◌+◌, ◌*◌, List, [], ◌∷◌, ◌++◌, Option, Some, None, bit_or}
use Rattle.rules.specs.Endings.{FieldMissing}
use Rattle.rules.specs.Bits.{bits}
use Rattle.rules.specs.Writes.{Write, store, set_key}
use Rattle.rules.specs.References.{Whole}
use Rattle.rules.specs.Guest.{assists_control, effective}
use Rattle.rules.specs.Steps.{Steps, ◌>>=◌, consult_key}
use Rattle.rules.specs.Access.{second_halfword}
use Rattle.rules.specs.Call.{Call, ConditionCode, Completion, complete_as}
use Rattle.rules.specs.SwapTables.{FoundPage, places, segment_table, find_page, virtual_key, swap_with}

-- a key with its reference bit (5) zero; its other bits are as they were
abbrev pub unreferred : (key : ℕ) → ℕ
unreferred k = bits 8 0 4 k * 8 + bits 8 6 7 k

-- step 13, with which both ways of step 12 end, after the keys set before it. The condition code is 2 times the
-- reference bit plus the change bit, each ORed with the virtual one (GA22-7000).
unfoldable pub store_reset : FoundPage → List Write → (marks : ℕ) → Steps Completion
store_reset page keys marks =
    complete_as (ConditionCode (bit_or marks (bits 8 5 6 (virtual_key page))))
    (keys ++ store page.place 4 (swap_with page (unreferred (virtual_key page)) marks) ∷ [])

-- step 12: the key of a valid page's block
unfoldable pub reset_block_key : FoundPage → (block : ℕ) → Steps Completion
reset_block_key page block = do
  old ← consult_key Whole block (FieldMissing places.block)
  store_reset page (set_key block (unreferred old) ∷ []) (bits 8 5 6 old)

-- steps 12 and 13: on an invalid page, which has no block, no key is set
abbrev pub reset_by : FoundPage → (block : Option ℕ) → Steps Completion
reset_by page None = store_reset page [] 0
reset_by page (Some block) = reset_block_key page block

unfoldable pub reset_reference_bit : Call → Steps Completion
reset_reference_bit c = do
  let g = c.guest
  rseg ← segment_table (assists_control g) places g  -- 1, 2, 3
  second ← second_halfword g  -- 4
  page ← find_page places rseg (effective g second)  -- 5 to 11
  reset_by page page.block  -- 12, 13
