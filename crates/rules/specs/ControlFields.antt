-- Control fields, document 01's word for what the control program keeps in storage: real, with key zero.
-- Document 01, "Addresses and translation". Each is fetched with the number of the step that wants it; if a byte of it
-- is not in storage, the attempt ends with 3, which carries that step.
use Rattle.std.specs.Prelude.{ℕ, Bool, cond}
use Rattle.rules.specs.Endings.{FieldMissing}
use Rattle.rules.specs.Guest.{Guest, micblok}
use Rattle.rules.specs.Bits.{bit, word}
use Rattle.rules.specs.Machine.{◌⊕◌}
use Rattle.rules.specs.Steps.{Steps, fetch_bytes}
use Rattle.rules.specs.Translation.{PageSize, TwoK, FourK, SegmentSize, SixtyFourK, OneM}

abbrev pub control_word : (step address : ℕ) → Steps ℕ
control_word step address = fetch_bytes address 4 (FieldMissing step)

abbrev pub control_halfword : (step address : ℕ) → Steps ℕ
control_halfword step address = fetch_bytes address 2 (FieldMissing step)

-- ---- MICBLOK: MICRSEG at offset 0, MICCREG at 4, MICVPSW at 8

abbrev pub micblok_word : (step offset : ℕ) → Guest → Steps ℕ
micblok_word step offset g = control_word step (micblok g ⊕ offset)

abbrev pub micrseg : (step : ℕ) → Guest → Steps ℕ
micrseg step = micblok_word step 0

abbrev pub miccreg : (step : ℕ) → Guest → Steps ℕ
miccreg step = micblok_word step 4

abbrev pub micvpsw : (step : ℕ) → Guest → Steps ℕ
micvpsw step = micblok_word step 8

-- MICRSEG, which designates the real segment table: bit 31 says 1M segments, bit 30 2K pages
abbrev pub segment_size_in : (rseg : ℕ) → SegmentSize
segment_size_in rseg = cond (bit 32 31 rseg) OneM SixtyFourK

abbrev pub page_size_in : (rseg : ℕ) → PageSize
page_size_in rseg = cond (bit 32 30 rseg) TwoK FourK

-- the address that MICCREG gives, of ECBLOK, where virtual control register r is the word at 4r; or MICVPSW, of the
-- virtual PSW; or the word before a page table, of the swap table: bits 8-31
abbrev pub address_in : (field : ℕ) → ℕ
address_in field = word 8 31 field

-- MICVPSW bit 0: a virtual interruption is pending. It is no part of the address.
abbrev pub pending : (field : ℕ) → Bool
pending field = bit 32 0 field
