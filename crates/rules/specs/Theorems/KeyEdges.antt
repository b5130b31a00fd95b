-- Edges of INSERT STORAGE KEY and RESET REFERENCE BIT (document 02, R-4), which are ours: one table, under one
-- statement. Numbers are hex; DAT is off. The page is in frame 1, blocks 2 and 3; all else is in block 0, the
-- instruction at 1C. The virtual key of the lower block is byte 2 of the swap word, at E0, that of the upper block
-- byte 3.
use Rattle.std.specs.Prelude.{ℕ, ◌+◌, ◌*◌, ◌^◌, false, List, [], ◌∷◌}
use Rattle.rules.specs.Machine.{Machine}
use Rattle.rules.specs.Writes.{Write, store}
use Rattle.rules.specs.Guest.{Guest}
use Rattle.rules.specs.Call.{Call}
use Rattle.rules.specs.Theorems.Samples.{
  Row,
  Hold,
  completes_with,
  ends_with,
  machine_of,
  guest_with,
  call_of,
  call_with,
  moved_to,
  ec,
  bc,
}

-- the page's entry: valid, and invalid
abbrev valid : ℕ
valid = 0x0010

abbrev invalid : ℕ
invalid = 0x0018

-- the page entry, the swap word, and what a case has of its own
abbrev machine : (keys : List ℕ) (page swap : ℕ) → List Write → Machine
machine keys page swap own = machine_of 8192 keys (store 0xd0 2 page ∷ store 0xe0 4 swap ∷ own)

-- ---- ISK

-- The virtual key is AD of the lower block and 53 of the upper (swap word 5AC3AD53), the real key 53 and A5.
abbrev isk_machine : (psw page : ℕ) → Machine
isk_machine psw page = machine (0x00 ∷ 0x00 ∷ 0x53 ∷ 0xa5 ∷ []) page 0x5ac3ad53 (store 0x18 2 psw ∷ [])

-- R1 and R2 are register 2: the first halfword of the virtual PSW, the page's entry, the register before and after.
-- A valid page makes 8 references, an invalid one 7.
abbrev isk : (psw page : ℕ) (before after count : ℕ) → Row
isk psw page before after count =
    completes_with (isk_machine psw page) (call_with 0x0922 before false) count
    (moved_to (guest_with 0x1c after 0x80000008) 0x1e) [] (0x04 ∷ 0x00 ∷ 0x53 ∷ 0xa5 ∷ [])

-- ---- RRB

-- a record with a condition code
abbrev coded : (code : ℕ) → Guest
coded code =
    let g = guest_with 0x1c 0 0x80000008 in
    record { psw = g.psw + code * 2 ^ 44; general = g.general; cr0 = g.cr0; cr1 = g.cr1; cr6 = g.cr6 }

-- with condition code 1 before the call
abbrev rrb : Call
rrb = call_of (coded 1) 0xb213 false

-- a key of the block, the other being 00; and the second halfword that addresses the block
abbrev lower : (first key : ℕ) → List ℕ
lower first key = first ∷ 0x00 ∷ key ∷ 0x00 ∷ []

abbrev upper : (first key : ℕ) → List ℕ
upper first key = first ∷ 0x00 ∷ 0x00 ∷ key ∷ []

abbrev in_lower : Write
in_lower = store 0x1e 2 0x0020

abbrev in_upper : Write
in_upper = store 0x1e 2 0x0820

-- the keys, the page's entry, the swap word and the second halfword; then the count, the condition code, the swap word
-- stored, and the keys
abbrev resets : (keys : List ℕ) (page swap : ℕ) → Write → (count code swap_after : ℕ) (keys_after : List ℕ) → Row
resets keys page swap second count code swap_after keys_after =
    completes_with (machine keys page swap (second ∷ [])) rrb count (moved_to (coded code) 0x20)
    (store 0xe0 4 swap_after ∷ []) keys_after

abbrev pub key_edges : List Row
key_edges =
    -- ISK in the EC mode: the lower block, and the upper; of an invalid page, the virtual key's bits alone
    isk (ec 0x00) valid 0x5a000000 0x5a0000ae 8
    ∷ isk (ec 0x00) valid 0x5a000800 0x5a000856 8
    ∷ isk (ec 0x00) invalid 0x5a000000 0x5a0000ac 7
    -- in the BC mode: no reference and change bits
    ∷ isk (bc 0xff) valid 0x5a000800 0x5a000850 8
    ∷ isk (bc 0xff) invalid 0x5a000000 0x5a0000a8 7
    -- bits 28-31 of R2 not zeros: refused, and the register is as it was
    ∷ ends_with (isk_machine (ec 0x00) valid) (call_with 0x0922 0x5a000001 false) 1 2 0 (0x00 ∷ 0x00 ∷ 0x53 ∷ 0xa5 ∷ [])
    -- RRB, each condition code: by neither key; by the change bit of the real key, which stays; by its reference bit,
    -- in the upper block; by the change bit of the real key and the reference bit of the virtual key
    ∷ resets (lower 0x00 0xf9) valid 0x50c3f9ff in_lower 10 0 0x50c3f9ff (lower 0x06 0xf9)
    ∷ resets (lower 0x00 0xfb) valid 0x50c3f9ff in_lower 10 1 0x54c3f9ff (lower 0x06 0xfb)
    ∷ resets (upper 0x00 0xfd) valid 0x50c3fff9 in_upper 10 2 0x52c3fff9 (upper 0x06 0xf9)
    ∷ resets (lower 0x00 0xfb) valid 0x50c3fdff in_lower 10 3 0x54c3f9ff (lower 0x06 0xfb)
    -- an invalid page: no key is touched
    ∷ resets (lower 0x00 0xff) invalid 0x50c3ffff in_lower 8 3 0x50c3fbff (lower 0x06 0xff)
    -- MICRSEG bit 30 one: refused before the second halfword, and the condition code is as it was
    ∷ ends_with (machine (lower 0x00 0xff) valid 0x50c3ffff (store 0x08 4 0xc2 ∷ [])) rrb 1 2 1 (lower 0x04 0xff)
    -- B2 with another second byte
    ∷ ends_with (machine (lower 0x00 0xff) valid 0x50c3ffff []) (call_with 0xb212 0 false) 13 0 0 (lower 0x00 0xff)
    ∷ []

-- Every row gives what the papers say: the ending, the count, the record, and every byte and key.
abbrev pub KeyEdgesHold : Type 0
KeyEdgesHold = Hold key_edges
