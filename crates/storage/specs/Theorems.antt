-- What is proved of items (request R-2). The proofs are in proofs/Theorems.antt.
use Rattle.std.specs.Prelude.{◌≡◌, ℕ, ◌+◌, ◌-◌, ◌^◌, ◌<◌, ◌≤◌, true, false, nat_lt}
use Rattle.rules.specs.Machine.{◌⊕◌, has}

-- A word whose address is at most 2^24 - 4 does not go round the top of storage: its last byte is in storage exactly if
-- all four are.
abbrev pub LastByteDecides : Type 0
LastByteDecides = (size a : ℕ) → a ≤ 2 ^ 24 - 4 → nat_lt (a + 3) size ≡ has size a 4

-- And that is the largest such address. From the next one on the last byte stands round the top, at 000000, 000001 or
-- 000002, and is there also where the first is not.
abbrev pub NoneBeyond : Type 0
NoneBeyond = (size a : ℕ) → 2 ^ 24 - 4 < a → a < 2 ^ 24 → 2 < size → size ≤ 2 ^ 24 - 4
    → (nat_lt (a ⊕ 3) size ≡ true) × (has size a 4 ≡ false)
