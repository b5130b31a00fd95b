-- SET STORAGE KEY (08), RR format. Document 01, "SSK"; GA22-7074, pages 18 and 19.
-- The key of the block that R2 addresses is set from R1, in the real key and in the swap table.
-- The manual's page names R2 as the key's register; GA22-7000 says R1, and document 01 lets that decide.
use Rattle.std.specs.Prelude.{ℕ, ◌+◌, ◌*◌, ◌%◌, List, [], ◌∷◌, ◌++◌, Option, Some, None}
use Rattle.rules.specs.Endings.{FieldMissing}
use Rattle.rules.specs.Bits.{bits, word}
use Rattle.rules.specs.Writes.{Write, store, set_key}
use Rattle.rules.specs.References.{Whole}
use Rattle.rules.specs.Guest.{register}
use Rattle.rules.specs.Steps.{Steps, ◌>>=◌, consult_key}
use Rattle.rules.specs.Call.{Call, r1, Completion, complete}
use Rattle.rules.specs.SwapTables.{
  FoundPage,
  steps,
  address_word,
  assists_keys,
  segment_table,
  find_page,
  swap_with,
}

-- the word in R1, whose bits 24-30 are the key
abbrev pub key_word : Call → ℕ
key_word c = register c.guest (r1 c)

-- step 12, with which both ways of step 11 end: R1 bits 24-30 and a zero in the swap word, after the keys set before it
unfoldable pub store_swap_word : Call → FoundPage → List Write → (marks : ℕ) → Steps Completion
store_swap_word c page keys marks =
    complete (keys ++ store page.place 4 (swap_with page (word 24 30 (key_word c) * 2) marks) ∷ [])

-- step 11: the key of a valid page's block. R1 bits 24-28, then zeros; bit 7 as found
abbrev pub new_key : (key old : ℕ) → ℕ
new_key key old = word 24 28 key * 8 + old % 2

unfoldable pub set_block_key : Call → FoundPage → (block : ℕ) → Steps Completion
set_block_key c page block = do
  old ← consult_key Whole block (FieldMissing steps.block)
  store_swap_word c page (set_key block (new_key (key_word c) old) ∷ []) (bits 8 5 6 old)

-- steps 11 and 12: on an invalid page, which has no block, no key is set
abbrev pub set_by : Call → FoundPage → (block : Option ℕ) → Steps Completion
set_by c page None = store_swap_word c page [] 0
set_by c page (Some block) = set_block_key c page block

unfoldable pub set_storage_key : Call → Steps Completion
set_storage_key c = do
  rseg ← segment_table (assists_keys c) steps c.guest  -- 1, 2, 3
  page ← find_page steps rseg (word 8 31 (address_word c))  -- 4 to 10
  set_by c page page.block  -- 11, 12
