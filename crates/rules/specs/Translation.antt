-- Dynamic address translation: one walk of a segment table and a page table, over the four formats, over the tables
-- that are walked, over how their entries are read, and over the ending that each trouble gives.
-- Document 01, "Addresses and translation", steps 1 to 6.
use Rattle.std.specs.Prelude.{ℕ, ◌+◌, ◌*◌, ◌/◌, ◌%◌, ◌^◌, Bool, cond, not, ◌&&◌, ◌||◌, ◌==◌, nat_lt}
use Rattle.rules.specs.Endings.{
  Addressing,
  SegmentTranslation,
  PageTranslation,
  TranslationSpecification,
  Ending,
  Interruption,
}
pub use Rattle.rules.specs.declared.tables.Format.{Format}
pub use Rattle.rules.specs.declared.tables.PageSize.{PageSize}
pub use Rattle.rules.specs.declared.tables.PageSize.TheVariants.{TwoK, FourK}
pub use Rattle.rules.specs.declared.tables.SegmentSize.{SegmentSize}
pub use Rattle.rules.specs.declared.tables.SegmentSize.TheVariants.{SixtyFourK, OneM}
pub use Rattle.rules.specs.declared.tables.TableFault.{TableFault}
pub use Rattle.rules.specs.declared.tables.TableFault.TheVariants.{
  SegmentTableLength,
  SegmentInvalid,
  SegmentFormat,
  PageTableLength,
  PageInvalid,
  PageFormat,
}
use Rattle.rules.specs.Bits.{bit, word}
use Rattle.rules.specs.Machine.{◌⊕◌}
use Rattle.rules.specs.Steps.{Steps, done, stop, branch, ◌>>=◌, ◌>>◌, fetch_bytes, stop_if}

-- ---- 1. the format: control register 0 bits 8-12

abbrev pub is_format : (field : ℕ) → Bool
is_format field = field == 0b01000 || field == 0b01010 || field == 0b10000 || field == 0b10010

abbrev pub format_for : (field : ℕ) → Format
format_for field = record {
  page = cond (field == 0b01000 || field == 0b01010) TwoK FourK;
  segment = cond (field == 0b01000 || field == 0b10000) SixtyFourK OneM;
}

abbrev pub bytes_in_page : PageSize → ℕ
bytes_in_page TwoK = 2048
bytes_in_page FourK = 4096

abbrev pub bytes_in_segment : SegmentSize → ℕ
bytes_in_segment SixtyFourK = 65536
bytes_in_segment OneM = 1048576

abbrev pub page_bytes : Format → ℕ
page_bytes f = bytes_in_page f.page

abbrev pub segment_bytes : Format → ℕ
segment_bytes f = bytes_in_segment f.segment

-- the format, or this ending
unfoldable pub format_of : (unknown : Ending) → (cr0 : ℕ) → Steps Format
format_of unknown cr0 = do
  stop_if (not (is_format (word 8 12 cr0))) unknown
  done (format_for (word 8 12 cr0))

-- ---- where entries are. A table's designation is a word: bits 0-7 its length, 8-25 its origin

abbrev pub segment_index : Format → (address : ℕ) → ℕ
segment_index f a = a / segment_bytes f

-- for 64K segments the length must reach address bits 8-11; for 1M there is no such test
abbrev pub beyond_segments : Format → (table address : ℕ) → Bool
beyond_segments f table a = segment_bytes f == 65536 && nat_lt (word 0 7 table) (word 8 11 a)

abbrev pub segment_entry_at : Format → (table address : ℕ) → ℕ
segment_entry_at f table a = word 8 25 table * 64 ⊕ 4 * segment_index f a

-- the four leftmost bits of the page index exceed entry bits 0-3
abbrev pub beyond_pages : Format → (entry address : ℕ) → Bool
beyond_pages f entry a = nat_lt (word 0 3 entry) (a % segment_bytes f / (segment_bytes f / 16))

abbrev pub page_table : (segment : ℕ) → ℕ
page_table segment = word 8 28 segment * 8

abbrev pub page_index : Format → (address : ℕ) → ℕ
page_index f a = a % segment_bytes f / page_bytes f

abbrev pub page_entry_at : Format → (segment address : ℕ) → ℕ
page_entry_at f segment a = page_table segment ⊕ 2 * page_index f a

-- ---- a walk: what it finds; or what is wrong, with the address of the entry that it is about

pub data Walk : Type 0 where
  found : ℕ → Walk
  fault : TableFault → (entry : ℕ) → Walk

-- the walk ends here if this is wrong
abbrev pub fault_if : Bool → TableFault → (entry : ℕ) → Steps Walk → Steps Walk
fault_if b x at rest = branch b (done (fault x at)) rest

-- how a walk goes on from what it found
abbrev pub onward : (ℕ → Steps Walk) → Walk → Steps Walk
onward next (found v) = next v
onward next (fault x at) = done (fault x at)

-- what it found, with the ending that each trouble gives
abbrev pub found_or : (TableFault → Ending) → Walk → Steps ℕ
found_or on (found v) = done v
found_or on (fault x at) = stop (on x)

-- an entry of n bytes at a real address, or this ending if it is not in storage
abbrev pub entry_of : (n : ℕ) → (missing : Ending) → (address : ℕ) → Steps ℕ
entry_of n missing at = fetch_bytes at n missing

-- ---- 2 to 4. the segment-table entry, by how it is read

-- the entry at this address, read for the address a
unfoldable pub segment_verdict : Format → (at a entry : ℕ) → Steps Walk
segment_verdict f at a entry =
    fault_if (bit 32 31 entry) SegmentInvalid at
    (fault_if (not (word 4 7 entry == 0)) SegmentFormat at
    (fault_if (beyond_pages f entry a) PageTableLength (page_entry_at f entry a)  -- 4
    (done (found entry))))

unfoldable pub segment_walk : (read : ℕ → Steps ℕ) → Format → (table address : ℕ) → Steps Walk
segment_walk read f table a =
    let at = segment_entry_at f table a in
    fault_if (beyond_segments f table a) SegmentTableLength at  -- 2
    (read at >>= segment_verdict f at a)  -- 3

-- ---- 5 and 6. the page-table entry, by how it is read, and the real address

-- A page entry: the frame (bits 0-11 for 4K, 0-12 for 2K), the invalid bit, then bits up to 14 that must be zero.
abbrev pub invalid : Format → (entry : ℕ) → Bool
invalid f entry = entry / (page_bytes f / 512) % 2 == 1

abbrev pub malformed : Format → (entry : ℕ) → Bool
malformed f entry = not (entry / 2 % (page_bytes f / 1024) == 0)

abbrev pub real_address : Format → (entry address : ℕ) → ℕ
real_address f entry a = entry / (page_bytes f / 256) % (2 ^ 24 / page_bytes f) * page_bytes f + a % page_bytes f

unfoldable pub page_verdict : Format → (at a entry : ℕ) → Steps Walk
page_verdict f at a entry =
    fault_if (invalid f entry) PageInvalid at
    (fault_if (malformed f entry) PageFormat at
    (done (found (real_address f entry a))))  -- 6

unfoldable pub page_walk : (read : ℕ → Steps ℕ) → Format → (segment address : ℕ) → Steps Walk
page_walk read f segment a = let at = page_entry_at f segment a in read at >>= page_verdict f at a  -- 5

-- ---- the whole walk

unfoldable pub table_walk : (read_segment read_page : ℕ → Steps ℕ) → Format → (table address : ℕ) → Steps Walk
table_walk read_segment read_page f table a =
    segment_walk read_segment f table a >>= onward (λ segment. page_walk read_page f segment a)

-- ---- dynamic address translation, with the exception that each fault gives

abbrev pub exception : (address : ℕ) → TableFault → Ending
exception a SegmentTableLength = Interruption (SegmentTranslation a)
exception a SegmentInvalid = Interruption (SegmentTranslation a)
exception a SegmentFormat = Interruption TranslationSpecification
exception a PageTableLength = Interruption (PageTranslation a)
exception a PageInvalid = Interruption (PageTranslation a)
exception a PageFormat = Interruption TranslationSpecification

unfoldable pub translate : (cr0 cr1 address : ℕ) → Steps ℕ
translate cr0 cr1 a = do
  let missing = Interruption Addressing
  f ← format_of (Interruption TranslationSpecification) cr0  -- 1
  walk ← table_walk (entry_of 4 missing) (entry_of 2 missing) f cr1 a  -- 2 to 6
  found_or (exception a) walk
