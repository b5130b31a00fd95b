-- Edges of LOAD REAL ADDRESS (document 02, R-9), which are ours: one table, under one statement. Numbers are hex; DAT
-- is off. The control program's fields and the instruction, at 1C, are in block 0. The guest's segment table is at
-- virtual address 900 and its page table at 980; page 0 of the real tables is in frame 0, with 4K pages and with 2K
-- pages, and page 1 of 2K pages is there too, so that with 4K pages the tables are at 900, and with 2K pages at 100.
use Rattle.std.specs.Prelude.{ℕ, ◌+◌, ◌-◌, ◌*◌, ◌^◌, false, List, [], ◌∷◌, ◌++◌, replicate}
use Rattle.rules.specs.Machine.{Machine}
use Rattle.rules.specs.Writes.{Write, store}
use Rattle.rules.specs.Guest.{Guest}
use Rattle.rules.specs.Call.{Call}
use Rattle.rules.specs.Theorems.Samples.{
  Row,
  Hold,
  completes_with,
  ends_with,
  machine_with,
  guest_with,
  call_of,
  moved_to,
}

-- ---- the machine and the call

-- nothing but block 0 was fetched from
abbrev block_zero : List ℕ
block_zero = 0x04 ∷ 0x00 ∷ []

-- the size of real pages: what MICRSEG has, where the guest's tables are, and the keys of both blocks once entries of
-- them were fetched
pub record RealPages : Type 0 where
  pub rseg : ℕ
  pub tables : ℕ
  pub keys : List ℕ

abbrev pages_4k : RealPages
pages_4k = record { rseg = 0xc0; tables = 0x900; keys = 0x04 ∷ 0x04 ∷ [] }

abbrev pages_2k : RealPages
pages_2k = record { rseg = 0xc2; tables = 0x100; keys = block_zero }

-- virtual control register 1 designates the guest's segment table, whose length is zero: one to sixteen segments of 64K
abbrev machine : RealPages → (cr0 : ℕ) → List Write → Machine
machine p cr0 own =
    machine_with
    (store 0x08 4 p.rseg ∷ store 0x60 4 cr0 ∷ store 0x64 4 0x900 ∷ store 0x1e 2 0x2010 ∷ own)

-- general registers 1 and 2 as given, and a condition code; register 0, as base or index, counts as zero
abbrev guest : (r1 r2 code : ℕ) → Guest
guest r1 r2 code =
    let g = guest_with 0x1c r2 0x80000008 in
    record {
      psw = g.psw + code * 2 ^ 44;
      general = 0x5a111111 ∷ r1 ∷ r2 ∷ replicate 13 0;
      cr0 = g.cr0;
      cr1 = g.cr1;
      cr6 = g.cr6;
    }

-- LRA 1,010(0,2), with condition code 3 before the call
abbrev lra : (r2 : ℕ) → Call
lra r2 = call_of (guest 0x5a00003f r2 3) 0xb110 false

-- LRA 1,010(1,2): R1 as index register
abbrev indexing : Call
indexing = call_of (guest 0x5a00003f 0x5a012e29 3) 0xb111 false

-- the count, and then condition code and R1
abbrev loads : Machine → (r2 count code r1 : ℕ) (keys : List ℕ) → Row
loads m r2 count code r1 keys = completes_with m (lra r2) count (moved_to (guest r1 r2 code) 0x20) [] keys

abbrev refuses : Machine → (r2 count : ℕ) (keys : List ℕ) → Row
refuses m r2 count keys = ends_with m (lra r2) 1 2 count keys

-- ---- the four formats

-- bits 8-12 of virtual control register 0; of address 012E78, the offsets of its segment entry and page entry in their
-- tables, the least page-table length that reaches it, and a page entry, valid and invalid, with the real address
pub record VirtualFormat : Type 0 where
  pub cr0 : ℕ
  pub segment : ℕ
  pub page : ℕ
  pub length : ℕ
  pub valid : ℕ
  pub invalid : ℕ
  pub real : ℕ

-- the two entries of that address
abbrev tables : RealPages → VirtualFormat → (segment page : ℕ) → Machine
tables p f segment page =
    machine p f.cr0
    (store (p.tables + f.segment) 4 segment ∷ store (p.tables + 0x80 + f.page) 2 page ∷ [])

-- a segment entry with a page-table length and the page table's address
abbrev entry : (length : ℕ) → ℕ
entry length = length * 2 ^ 28 + 0x980

-- each condition code: 0, 1, 2, and 3 by the page table's length
abbrev codes : RealPages → VirtualFormat → List Row
codes p f =
    loads (tables p f (entry f.length) f.valid) 0x5a012e68 12 0 f.real p.keys
    ∷ loads (tables p f (entry f.length + 1) f.valid) 0x5a012e68 9 1 (0x900 + f.segment) p.keys
    ∷ loads (tables p f (entry f.length) f.invalid) 0x5a012e68 12 2 (0x980 + f.page) p.keys
    ∷ loads (tables p f (entry (f.length - 1)) f.valid) 0x5a012e68 9 3 (0x980 + f.page) p.keys
    ∷ []

abbrev format_2k_64k : VirtualFormat
format_2k_64k = record {
  cr0 = 0x00400000;
  segment = 4 * 0x01;
  page = 2 * 0x05;
  length = 2;
  valid = 0x5678;
  invalid = 0x567c;
  real = 0x567e78;
}

abbrev format_2k_1m : VirtualFormat
format_2k_1m = record {
  cr0 = 0x00500000;
  segment = 0;
  page = 2 * 0x25;
  length = 1;
  valid = 0x5678;
  invalid = 0x567c;
  real = 0x567e78;
}

abbrev format_4k_64k : VirtualFormat
format_4k_64k = record {
  cr0 = 0x00800000;
  segment = 4 * 0x01;
  page = 2 * 0x02;
  length = 2;
  valid = 0xabc0;
  invalid = 0xabc8;
  real = 0xabce78;
}

abbrev format_4k_1m : VirtualFormat
format_4k_1m = record {
  cr0 = 0x00900000;
  segment = 0;
  page = 2 * 0x12;
  length = 1;
  valid = 0xabc0;
  invalid = 0xabc8;
  real = 0xabce78;
}

abbrev all_formats : RealPages → List Row
all_formats p = codes p format_2k_64k ++ codes p format_2k_1m ++ codes p format_4k_64k ++ codes p format_4k_1m

-- ---- the rest

abbrev pub load_edges : List Row
load_edges =
    all_formats pages_4k ++ all_formats pages_2k ++ (
    -- address 112E78: with 64K segments the segment table is too short; with 1M segments there is no such test
    loads (machine pages_4k 0x00800000 []) 0x5a112e68 6 3 (0x900 + 4 * 0x11) block_zero
    ∷ loads (machine pages_4k 0x00900000
    (store 0x904 4 0x10000980 ∷ store 0x9a4 2 0xabc0 ∷ [])) 0x5a112e68 12 0 0xabce78
    pages_4k.keys
    -- entry addresses round the top: FFFFC0 + 4 * 11 and FFFFF8 + 2 * 5, with a real address and with condition code 1
    ∷ loads (machine pages_4k 0x00400000 (store 0x64 4 0x01ffffc0 ∷ store 0x04 4 0x20fffff8 ∷ store 0x02 2 0x5678 ∷ []))
    0x5a112e68 12 0 0x567e78 block_zero
    ∷ loads (machine pages_4k 0x00400000 (store 0x64 4 0x01ffffc0 ∷ store 0x04 4 0x20fffff9 ∷ [])) 0x5a112e68 9 1 0x04
    block_zero
    -- 010 + 012E29 + 00003F
    ∷ completes_with (tables pages_4k format_4k_64k (entry 2) 0xabc0) indexing 12
    (moved_to (guest 0xabce78 0x5a012e29 0) 0x20) [] pages_4k.keys
    -- a virtual segment entry that is not in storage, and a page entry: refused
    ∷ refuses (machine pages_4k 0x00800000 (store 0xd0 2 0x0ff0 ∷ [])) 0x5a012e68 8 block_zero
    ∷ refuses
    (machine pages_4k 0x00800000 (store 0xc0 4 0x100000d0 ∷ store 0x904 4 0x20001980 ∷ store 0xd2 2 0x0ff0 ∷ []))
    0x5a012e68 11 pages_4k.keys
    -- virtual control register 0, the virtual segment entry and the virtual page entry of bad format: refused
    ∷ refuses (machine pages_4k 0x00880000 []) 0x5a012e68 4 block_zero
    ∷ refuses (tables pages_4k format_4k_64k (entry 2 + 0x08000000) 0xabc0) 0x5a012e68 9 pages_4k.keys
    ∷ refuses (tables pages_4k format_4k_64k (entry 2) 0xabc4) 0x5a012e68 12 pages_4k.keys
    ∷ [])

-- Every row gives what the papers say: the ending, the count, the record, and every byte and key.
abbrev pub LoadEdgesHold : Type 0
LoadEdgesHold = Hold load_edges
