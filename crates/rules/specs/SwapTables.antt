-- The way from MICRSEG to a page's entry, swap word and key block, which SSK, ISK and RRB share; and the swap word.
-- Document 01, "SSK", steps 1 to 10; document 002, ISK, steps 1 to 10, and RRB, steps 1 to 3 and 5 to 11.
use Rattle.std.specs.Prelude.{ℕ, ◌+◌, ◌-◌, ◌*◌, ◌/◌, ◌^◌, Bool, cond, not, ◌&&◌, ◌==◌, Some, None, bit_or}
use Rattle.rules.specs.Endings.{FieldMissing, refuse}
use Rattle.rules.specs.Translation.{
  Format,
  FourK,
  page_table,
  page_index,
  page_entry_at,
  found_or,
  entry_of,
  segment_walk,
  invalid,
  malformed,
  real_address,
}
use Rattle.rules.specs.Bits.{bit, word}
use Rattle.rules.specs.Machine.{◌⊕◌}
use Rattle.rules.specs.Guest.{Guest, register}
use Rattle.rules.specs.Steps.{Steps, done, ◌>>=◌, ◌>>◌, stop_if}
use Rattle.rules.specs.ControlFields.{control_word, micrseg, segment_size_in, address_in}
use Rattle.rules.specs.Call.{Call, r2}
pub use Rattle.rules.specs.declared.tables.FieldNumbers.{FieldNumbers}
pub use Rattle.rules.specs.declared.tables.FoundPage.{FoundPage}

-- ---- what ending 3 carries at each field on this way, and at the page's key block

-- SSK: the step
abbrev pub steps : FieldNumbers
steps = record { table = 2; segment = 5; swaps = 7; swap = 8; page = 9; block = 11 }

-- ISK and RRB: the place, from 1, among these as tried (document 02, R-4)
abbrev pub places : FieldNumbers
places = record { table = 1; segment = 2; swaps = 3; swap = 4; page = 5; block = 6 }

-- ---- MICRSEG, which designates the real segment table: steps 1 to 3

-- SSK and ISK: the word in R2, whose bits 8-31 are the address
abbrev pub address_word : Call → ℕ
address_word c = register c.guest (r2 c)

-- what their step 1 wants: control register 6 bits 0-2 are 100, and bits 28-31 of that word zeros
abbrev pub assists_keys : Call → Bool
assists_keys c = word 0 2 c.guest.cr6 == 0b100 && word 28 31 (address_word c) == 0

-- by whether step 1's test lets the instruction go on
unfoldable pub segment_table : (assists : Bool) → FieldNumbers → Guest → Steps ℕ
segment_table assists n g = do
  stop_if (not assists) refuse  -- 1
  rseg ← micrseg n.table g  -- 2
  stop_if (bit 32 30 rseg) refuse  -- 3
  done rseg

-- ---- the walk: steps 4 to 10 of SSK and ISK, whose numbers stand here; 5 to 11 of RRB

-- step 4: 4K pages; bit 31 of MICRSEG chooses 1M segments
abbrev pub format_in : (rseg : ℕ) → Format
format_in rseg = record { page = FourK; segment = segment_size_in rseg }

-- steps 4 to 6: a segment entry that is not in storage gives 3, all that is wrong with the tables is refused
unfoldable pub segment_of : FieldNumbers → Format → (rseg address : ℕ) → Steps ℕ
segment_of n f rseg a = do
  walk ← segment_walk (entry_of 4 (FieldMissing n.segment)) f rseg a
  found_or (λ x. refuse) walk

-- step 7, the word at the page-table origin less 4, which names the swap table; and step 8's address, of the swap word
unfoldable pub swap_word_at : FieldNumbers → Format → (segment address : ℕ) → Steps ℕ
swap_word_at n f segment a = do
  swap_table ← control_word n.swaps (page_table segment ⊕ (2 ^ 24 - 4))
  done (address_in swap_table ⊕ 8 * page_index f a)

-- steps 9 and 10: the page entry
unfoldable pub page_of : FieldNumbers → Format → (segment address : ℕ) → Steps ℕ
page_of n f segment a = do
  page ← entry_of 2 (FieldMissing n.page) (page_entry_at f segment a)  -- 9
  stop_if (not (invalid f page) && malformed f page) refuse  -- 10
  done page

-- what is then known: the block is that of the address; an invalid page has none
abbrev pub found_page : Format → (place swap page address : ℕ) → FoundPage
found_page f place swap page a = record {
  place = place;
  swap = swap;
  block = cond (invalid f page) None (Some (real_address f page a / 2048));
  upper = bit 32 20 a;
}

unfoldable pub find_page : FieldNumbers → (rseg address : ℕ) → Steps FoundPage
find_page n rseg a = do
  let f = format_in rseg
  segment ← segment_of n f rseg a  -- 4, 5, 6
  place ← swap_word_at n f segment a  -- 7
  swap ← control_word n.swap place  -- 8
  page ← page_of n f segment a  -- 9, 10
  done (found_page f place swap page a)

-- ---- the swap word: for each of the page's two blocks two backup bits in byte 0, and the virtual key, in byte 2 or 3

abbrev pub virtual_key : FoundPage → ℕ
virtual_key p = cond p.upper (word 24 31 p.swap) (word 16 23 p.swap)

-- a page's swap word with another virtual key, and reference and change bits ORed into bits 4 and 5, or for the upper
-- block into 6 and 7
abbrev pub swap_with : FoundPage → (key marks : ℕ) → ℕ
swap_with p key marks =
    let w = p.swap in
    bit_or (word 0 7 w) (cond p.upper marks (marks * 4)) * 2 ^ 24
    + word 8 15 w * 2 ^ 16
    + cond p.upper (word 16 23 w) key * 2 ^ 8
    + cond p.upper key (word 24 31 w)
