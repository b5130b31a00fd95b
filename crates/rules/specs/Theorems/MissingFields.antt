-- Ending 3 at each control field of each instruction, and at the page's key block: the step that it carries, or with
-- ISK, RRB and LRA the place among what was tried; the count before it, and the keys.
-- One table, under one statement. Storage ends at 1000.
use Rattle.std.specs.Prelude.{ℕ, true, List, [], ◌∷◌}
use Rattle.rules.specs.Writes.{Write, store}
use Rattle.rules.specs.Theorems.Samples.{Row, Hold, ends_with, machine_with, guest_with, call_of, call_with}

-- a MICBLOK past the end of storage: nothing is referred to, so nothing recorded
abbrev no_micblok : (first step : ℕ) → Row
no_micblok first step =
    ends_with (machine_with []) (call_of (guest_with 0x1c 0 0x80001000) first true) 3 step 0 (0x00 ∷ 0x00 ∷ [])

-- the sample machine, but for a few words: what is found before the missing field is in block 0
abbrev field_at : (first step count : ℕ) → List Write → Row
field_at first step count own =
    ends_with (machine_with own) (call_with first 0 true) 3 step count (0x04 ∷ 0x00 ∷ [])

-- and where some of it is in block 1
abbrev field_after_both : (micblok first step count : ℕ) → List Write → Row
field_after_both micblok first step count own =
    ends_with (machine_with own) (call_of (guest_with 0x1c 0 micblok) first true) 3 step count (0x04 ∷ 0x04 ∷ [])

-- for LRA: virtual 4K pages and 64K segments, a virtual segment table at 100, and a page table at a virtual address
abbrev virtual_tables : (page_table : ℕ) → List Write
virtual_tables page_table = store 0x60 4 0x00800000 ∷ store 0x64 4 0x100 ∷ store 0x100 4 page_table ∷ []

abbrev pub missing_fields : List Row
missing_fields =
    -- SSM: MICCREG, with MICBLOK past the end; virtual control register 0, past the end and partly so
    no_micblok 0x8000 2
    ∷ field_at 0x8000 3 1 (store 0x0c 4 0x1000 ∷ [])
    ∷ field_at 0x8000 3 1 (store 0x0c 4 0x0ffd ∷ [])
    -- MICVPSW, with MICBLOK at the last eight bytes; the virtual PSW, past the end and partly so
    ∷ field_after_both 0x80000ff8 0x8000 7 6 (store 0xffc 4 0x60 ∷ [])
    ∷ field_at 0x8000 8 7 (store 0x10 4 0x1000 ∷ [])
    ∷ field_at 0x8000 8 7 (store 0x10 4 0x0fff ∷ [])
    -- STCTL: MICCREG; registers 0 to 14 in storage, and register 15 not
    ∷ no_micblok 0xb60f 2
    ∷ field_after_both 0x80000008 0xb60f 5 18 (store 0x0c 4 0x0fc4 ∷ [])
    -- STNSM and STOSM: MICVPSW; the virtual PSW
    ∷ no_micblok 0xac00 2
    ∷ field_at 0xac00 3 1 (store 0x10 4 0x0fff ∷ [])
    ∷ no_micblok 0xad00 2
    ∷ field_at 0xad00 3 1 (store 0x10 4 0x0fff ∷ [])
    -- SSK: MICRSEG; the segment entry; the swap-table address, before a page table at 000000; the swap word;
    -- the page entry, with the page table at the end of storage; the key block, of frame 0FF
    ∷ no_micblok 0x0812 2
    ∷ field_at 0x0812 5 1 (store 0x08 4 0x1000 ∷ [])
    ∷ field_at 0x0812 7 2 (store 0xc0 4 0x0000 ∷ [])
    ∷ field_at 0x0812 8 3 (store 0xcc 4 0x0ffd ∷ [])
    ∷ field_after_both 0x80000008 0x0812 9 4 (store 0xc0 4 0x1000 ∷ store 0xffc 4 0xe0 ∷ [])
    ∷ field_at 0x0812 11 5 (store 0xd0 2 0x0ff0 ∷ [])
    -- ISK, in places: the same six
    ∷ no_micblok 0x0912 1
    ∷ field_at 0x0912 2 1 (store 0x08 4 0x1000 ∷ [])
    ∷ field_at 0x0912 3 2 (store 0xc0 4 0x0000 ∷ [])
    ∷ field_at 0x0912 4 3 (store 0xcc 4 0x0ffd ∷ [])
    ∷ field_after_both 0x80000008 0x0912 5 4 (store 0xc0 4 0x1000 ∷ store 0xffc 4 0xe0 ∷ [])
    ∷ field_at 0x0912 6 5 (store 0xd0 2 0x0ff0 ∷ [])
    -- MICVPSW, with MICBLOK at the last eight bytes, and the virtual PSW; each one place less where the page is invalid
    ∷ field_after_both 0x80000ff8 0x0912 7 6 (store 0xff8 4 0xc0 ∷ [])
    ∷ field_at 0x0912 8 7 (store 0x10 4 0x0fff ∷ [])
    ∷ field_after_both 0x80000ff8 0x0912 6 5 (store 0xff8 4 0xc0 ∷ store 0xd0 2 0x0008 ∷ [])
    ∷ field_at 0x0912 7 6 (store 0x10 4 0x0fff ∷ store 0xd0 2 0x0008 ∷ [])
    -- RRB, in places: the same six, the second halfword's key and fetch after the first
    ∷ no_micblok 0xb213 1
    ∷ field_at 0xb213 2 3 (store 0x08 4 0x1000 ∷ [])
    ∷ field_at 0xb213 3 4 (store 0xc0 4 0x0000 ∷ [])
    ∷ field_at 0xb213 4 5 (store 0xcc 4 0x0ffd ∷ [])
    ∷ field_after_both 0x80000008 0xb213 5 6 (store 0xc0 4 0x1000 ∷ store 0xffc 4 0xe0 ∷ [])
    ∷ field_at 0xb213 6 7 (store 0xd0 2 0x0ff0 ∷ [])
    -- LRA, in places: MICRSEG; virtual control registers 0 and 1; after the second halfword, the real segment entry and
    -- page entry of the virtual segment entry, and those of the virtual page entry. (MICCREG, place 2, is in storage
    -- wherever MICRSEG is: a MICBLOK is on a doubleword.)
    ∷ no_micblok 0xb110 1
    ∷ field_at 0xb110 3 2 (store 0x0c 4 0x1000 ∷ [])
    ∷ field_after_both 0x80000008 0xb110 4 3 (store 0x0c 4 0x0ffc ∷ [])
    ∷ field_at 0xb110 5 6 (store 0x08 4 0x1000 ∷ virtual_tables 0)
    ∷ field_at 0xb110 6 7 (store 0xc0 4 0x1000 ∷ virtual_tables 0)
    ∷ field_after_both 0x80000008 0xb110 7 9
    (store 0x08 4 0x01000fc0 ∷ store 0xfc0 4 0xd0 ∷ virtual_tables 0x100000)
    ∷ field_at 0xb110 8 10 (store 0xc4 4 0x1000 ∷ virtual_tables 0x010000)
    ∷ []

abbrev pub StepsCarried : Type 0
StepsCarried = Hold missing_fields
