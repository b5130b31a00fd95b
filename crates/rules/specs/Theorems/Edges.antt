-- The marked edges of document 01, "Edges to show": one table, under one statement. Then edges of recording and of
-- low-address protection, each a table of its own. Numbers are hex; DAT is off but where it is said to be on.
use Rattle.std.specs.Prelude.{ℕ, Bool, true, false, List, [], ◌∷◌, ◌++◌}
use Rattle.rules.specs.Machine.{Machine}
use Rattle.rules.specs.Writes.{Write, store}
use Rattle.rules.specs.Call.{Call}
use Rattle.rules.specs.Theorems.Samples.{
  Row,
  Hold,
  completes,
  ends_with,
  machine_of,
  machine_with,
  guest_with,
  call_of,
  call_by,
  call_with,
  protecting,
  translating,
  vpsw_at,
  ec,
  bc,
}

-- the virtual PSW and the operand byte
abbrev masks : (pending : Bool) (first operand : ℕ) → Machine
masks pending first operand = machine_with (vpsw_at pending 0x18 ∷ store 0x18 2 first ∷ store 0x20 1 operand ∷ [])

-- A mask instruction that completes makes 9 references (SSM) or 7, and moves on from 1C to 20. All that it refers to is
-- in block 0, whose key is then 06; where it ends otherwise, 04.
abbrev ssm : (pending : Bool) (first operand : ℕ) → List Write → Row
ssm pending first operand stores =
    completes (masks pending first operand) (call_with 0x8000 0 true) 9 0x20 stores (0x06 ∷ 0x00 ∷ [])

abbrev ssm_ends : (pending : Bool) (first operand : ℕ) → (installed on : Bool) (number code : ℕ) → Row
ssm_ends pending first operand installed on number code =
    ends_with (masks pending first operand) (call_by 0x8000 0 installed on) number code 8 (0x04 ∷ 0x00 ∷ [])

abbrev store_then : (instruction : ℕ) (pending : Bool) (first : ℕ) → List Write → Row
store_then instruction pending first stores =
    completes (masks pending first 0) (call_with instruction 0 true) 7 0x20 stores (0x06 ∷ 0x00 ∷ [])

abbrev store_then_ends : (instruction first : ℕ) → (installed on : Bool) (number code : ℕ) → Row
store_then_ends instruction first installed on number code =
    ends_with (masks false first 0) (call_by instruction 0 installed on) number code 2 (0x04 ∷ 0x00 ∷ [])

-- "Expanded", by whether the expanded assist is installed and whether bit 6 of control register 6 is one (document 02,
-- R-3): handed over with both, else refused
abbrev expands : ((installed on : Bool) (number code : ℕ) → Row) → List Row
expands ends = ends true true 2 0 ∷ ends true false 1 2 ∷ ends false true 1 2 ∷ ends false false 1 2 ∷ []

-- and "refuse", whatever these are
abbrev refuses : ((installed on : Bool) (number code : ℕ) → Row) → List Row
refuses ends = ends true true 1 2 ∷ ends true false 1 2 ∷ ends false true 1 2 ∷ ends false false 1 2 ∷ []

-- STCTL of n registers makes 3 references and 3 for each register.
abbrev stctl : (instruction count : ℕ) → List Write → Row
stctl instruction count stores =
    completes (machine_with []) (call_with instruction 0 true) count 0x20 stores (0x06 ∷ 0x00 ∷ [])

-- SSK, R1 low byte 3F: a machine, the address in R2, the word stored in the swap table, and where; all keys afterwards
abbrev ssk : Machine → (address swap_word at : ℕ) (keys : List ℕ) → Row
ssk m address swap_word at keys = completes m (call_with 0x0812 address true) 8 0x1e (store at 4 swap_word ∷ []) keys

-- document 01's: the page is in frame 1, blocks 2 and 3, and the tables are in block 0
abbrev page_apart : (keys : List ℕ) → Machine
page_apart keys = machine_of 8192 keys (store 0xd0 2 0x0010 ∷ [])

abbrev pub edges : List Row
edges =
    -- STCTL R1=14, R3=1: 14, 15, 0, 1 (register r holds r + 1)
    stctl 0xb6e1 15 (store 0x20 4 15 ∷ store 0x24 4 16 ∷ store 0x28 4 1 ∷ store 0x2c 4 2 ∷ [])
    -- R1=R3: one register
    ∷ stctl 0xb655 6 (store 0x20 4 6 ∷ [])
    ∷ stctl 0xb6ff 6 (store 0x20 4 16 ∷ [])
    -- R1=1, R3=0: sixteen
    ∷ stctl 0xb610 51 (
    store 0x20 4 2 ∷ store 0x24 4 3 ∷ store 0x28 4 4 ∷ store 0x2c 4 5 ∷ store 0x30 4 6 ∷ store 0x34 4 7
    ∷ store 0x38 4 8 ∷ store 0x3c 4 9 ∷ store 0x40 4 10 ∷ store 0x44 4 11 ∷ store 0x48 4 12 ∷ store 0x4c 4 13
    ∷ store 0x50 4 14 ∷ store 0x54 4 15 ∷ store 0x58 4 16 ∷ store 0x5c 4 1 ∷ [])
    -- SSM, EC, old 04, new 07: completes
    ∷ ssm false (ec 0x04) 0x07 (store 0x18 1 0x07 ∷ [])
    -- pending: expanded
    ∷ expands (ssm_ends true (ec 0x04) 0x07)
    -- new 84: expanded
    ++ expands (ssm_ends false (ec 0x04) 0x84)
    -- BC, pending, old FF, new 00: completes
    ++ ssm true (bc 0xff) 0x00 (store 0x18 1 0x00 ∷ [])
    -- BC, pending, old 00, new 01: refuse, even with the expanded assist
    ∷ refuses (ssm_ends true (bc 0x00) 0x01)
    -- STNSM, EC, old 07, AND FC gives 04
    ++ store_then 0xacfc false (ec 0x07) (store 0x20 1 0x07 ∷ store 0x18 1 0x04 ∷ [])
    -- AND F8: expanded
    ∷ expands (store_then_ends 0xacf8 (ec 0x07))
    -- STOSM, pending, old 07, OR 03: completes, in either mode
    ++ store_then 0xad03 true (ec 0x07) (store 0x20 1 0x07 ∷ store 0x18 1 0x07 ∷ [])
    ∷ store_then 0xad03 true (bc 0x07) (store 0x20 1 0x07 ∷ store 0x18 1 0x07 ∷ [])
    -- SSK, R1 low byte 3F, swap word 0, old key 04, valid page: key 38; bit 20 zero: word 08003E00
    ∷ ssk (page_apart (0x00 ∷ 0x00 ∷ 0x04 ∷ 0x00 ∷ [])) 0x000000 0x08003e00 0xe0 (0x06 ∷ 0x00 ∷ 0x38 ∷ 0x00 ∷ [])
    -- bit 20 one: 0200003E
    ∷ ssk (page_apart (0x00 ∷ 0x00 ∷ 0x00 ∷ 0x04 ∷ [])) 0x000800 0x0200003e 0xe0 (0x06 ∷ 0x00 ∷ 0x00 ∷ 0x38 ∷ [])
    ∷ []

-- Edges of recording, which are ours (document 02, R-13). All keys are 00 at first.
abbrev pub recording_edges : List Row
recording_edges =
    -- SSK, the tables in the page's own block: the key read has the reference bit that they recorded (word 08003E00),
    -- and the swap word's store records after the key was set (38)
    ssk (machine_with []) 0x000000 0x08003e00 0xe0 (0x3e ∷ 0x00 ∷ [])
    -- the swap word at 7FE, across the boundary into the page's block, and stored there too
    ∷ ssk (machine_with (store 0xcc 4 0x7fe ∷ [])) 0x000800 0x0200003e 0x7fe (0x06 ∷ 0x3e ∷ [])
    -- STCTL, register 15 at 7FE, across the boundary
    ∷ completes (machine_with (store 0x0c 4 0x7c2 ∷ store 0x7fe 4 0x10 ∷ [])) (call_with 0xb6ff 0 true) 6 0x20
    (store 0x20 4 0x10 ∷ []) (0x06 ∷ 0x04 ∷ [])
    -- STCTL, two words at FFC, the second not in storage: the first one's test records nothing in its block
    ∷ ends_with (machine_with (store 0x1e 2 0x0ffc ∷ [])) (call_with 0xb601 0 true) 1 5 6 (0x04 ∷ 0x00 ∷ [])
    -- STNSM, EC, old 07, AND F8: refused after two fetches, whose reference bits stay
    ∷ ends_with (machine_with (vpsw_at false 0x800 ∷ store 0x800 2 (ec 0x07) ∷ [])) (call_with 0xacf8 0 false) 1 2 2
    (0x04 ∷ 0x04 ∷ [])
    -- the virtual PSW at FFF, partly not in storage: nothing is recorded of it
    ∷ ends_with (machine_with (vpsw_at false 0xfff ∷ [])) (call_with 0xacf8 0 false) 3 3 1 (0x04 ∷ 0x00 ∷ [])
    ∷ []

-- Operands that are protected, document 02, R-6: bit 3 of control register 0 is one. Nothing is stored, the list ends
-- before the entry of the word or byte at fault, and fetches alone are recorded, in block 0.
abbrev protected_after : Machine → Call → (count : ℕ) → Row
protected_after m c count = ends_with m (protecting c) 1 4 count (0x04 ∷ 0x00 ∷ [])

-- the operand at an address below 1000
abbrev operand_at : ℕ → Write
operand_at = store 0x1e 2

-- STCTL of register 5, and STNSM, EC, old 07, AND FC
abbrev stctl_at : (address : ℕ) → Machine
stctl_at address = machine_with (operand_at address ∷ [])

abbrev stctl_of_one : Call
stctl_of_one = call_with 0xb655 0 false

abbrev stnsm_at : (address : ℕ) → Machine
stnsm_at address = machine_with (store 0x18 2 (ec 0x07) ∷ operand_at address ∷ [])

abbrev stnsm : Call
stnsm = call_with 0xacfc 0 false

-- STCTL of registers 0 and 1 at FFFFFC, with DAT on; the last page and page 0 are both in frame 0
abbrev last_page : Machine
last_page = machine_with (operand_at 0x2000 ∷ store 0xfc 4 0xf00000d0 ∷ [])

abbrev round_the_top : Call
round_the_top = translating (call_with 0xb601 0xfffffc false)

-- STNSM with DAT on; the operand's segment is invalid, the instruction's is not
abbrev segment_invalid : Machine
segment_invalid =
    machine_with (store 0x18 2 (ec 0x07) ∷ operand_at 0x20 ∷ store 0xc0 4 0xd1 ∷ store 0xc4 4 0xd0 ∷ [])

abbrev pub low_address_edges : List Row
low_address_edges =
    -- document 01's edges that store an operand, which is at 20
    protected_after (machine_with []) (call_with 0xb6e1 0 true) 7
    ∷ protected_after (machine_with []) (call_with 0xb655 0 true) 4
    ∷ protected_after (machine_with []) (call_with 0xb6ff 0 true) 4
    ∷ protected_after (machine_with []) (call_with 0xb610 0 true) 19
    ∷ protected_after (masks false (ec 0x07) 0) (call_with 0xacfc 0 true) 4
    ∷ protected_after (masks true (ec 0x07) 0) (call_with 0xad03 0 true) 4
    ∷ protected_after (masks true (bc 0x07) 0) (call_with 0xad03 0 true) 4
    -- and one that ends before the store test
    ∷ ends_with (masks false (ec 0x07) 0) (protecting (call_with 0xacf8 0 true)) 2 0 2 (0x04 ∷ 0x00 ∷ [])
    -- fetches and control fields are not affected: SSM's operand and virtual PSW, and SSK's swap word
    ∷ completes (masks false (ec 0x04) 0x07) (protecting (call_with 0x8000 0 true)) 9 0x20 (store 0x18 1 0x07 ∷ [])
    (0x06 ∷ 0x00 ∷ [])
    ∷ completes (page_apart (0x00 ∷ 0x00 ∷ 0x04 ∷ 0x00 ∷ [])) (protecting (call_with 0x0812 0 true)) 8 0x1e
    (store 0xe0 4 0x08003e00 ∷ []) (0x06 ∷ 0x00 ∷ 0x38 ∷ 0x00 ∷ [])
    -- STNSM at 1FF (511) with bit 3 zero; with bit 3 one; at 200 (512), where the virtual PSW's byte is stored too
    ∷ completes (stnsm_at 0x1ff) stnsm 7 0x20 (store 0x1ff 1 0x07 ∷ store 0x18 1 0x04 ∷ []) (0x06 ∷ 0x00 ∷ [])
    ∷ protected_after (stnsm_at 0x1ff) stnsm 4
    ∷ completes (stnsm_at 0x200) (protecting stnsm) 7 0x20 (store 0x200 1 0x07 ∷ store 0x18 1 0x04 ∷ [])
    (0x06 ∷ 0x00 ∷ [])
    -- STCTL at 1FC (508) with bit 3 zero; with bit 3 one; and at 200
    ∷ completes (stctl_at 0x1fc) stctl_of_one 6 0x20 (store 0x1fc 4 6 ∷ []) (0x06 ∷ 0x00 ∷ [])
    ∷ protected_after (stctl_at 0x1fc) stctl_of_one 4
    ∷ completes (stctl_at 0x200) (protecting stctl_of_one) 6 0x20 (store 0x200 4 6 ∷ []) (0x06 ∷ 0x00 ∷ [])
    -- at 1FE (510), which is not on a word: refused by step 4
    ∷ ends_with (stctl_at 0x1fe) (protecting stctl_of_one) 1 2 3 (0x04 ∷ 0x00 ∷ [])
    -- two words, at 1FC and 200: neither is stored
    ∷ protected_after (stctl_at 0x1fc) (call_with 0xb601 0 false) 5
    -- round the top, DAT on; bit 3 zero: words at FFFFFC and 000000; bit 3 one: ends after the first word's test
    ∷ completes last_page round_the_top 15 0x20 (store 0xffc 4 1 ∷ store 0x000 4 2 ∷ []) (0x06 ∷ 0x06 ∷ [])
    ∷ protected_after last_page round_the_top 10
    -- with DAT on, protection comes before translation
    ∷ protected_after segment_invalid (translating (call_of (guest_with 0x10001c 0 0x80000008) 0xacfc false)) 6
    ∷ []

-- Every row gives what the papers say: the ending, the count, the record, and every byte and key.
abbrev pub EdgesHold : Type 0
EdgesHold = Hold edges

abbrev pub RecordingEdgesHold : Type 0
RecordingEdgesHold = Hold recording_edges

abbrev pub LowAddressEdgesHold : Type 0
LowAddressEdgesHold = Hold low_address_edges
