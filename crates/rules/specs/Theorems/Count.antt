-- The count of references is the length of the list, and at most what is said here for the instruction, which each
-- reaches; 85, STCTL's, is the most of all.
use Rattle.std.specs.Prelude.{◌≡◌, ℕ, ◌+◌, ◌^◌, ◌≤◌, true, cond, ◌||◌, List, [], ◌∷◌, map, length, ◌==◌}
use Rattle.rules.specs.Machine.{Machine}
use Rattle.rules.specs.Writes.{store}
use Rattle.rules.specs.Call.{Call, operation}
use Rattle.rules.specs.Attempt.{attempt}
use Rattle.rules.specs.Theorems.Samples.{machine_with, guest_with, call_of}

-- the longest list of references by the operation code; what is not assisted makes none
abbrev pub longest_list : (operation : ℕ) → ℕ
longest_list op =
    cond (op == 0x80) 13
    (cond (op == 0xb6) 85
    (cond (op == 0xac || op == 0xad) 11
    (cond (op == 0x08 || op == 0x09) 8
    (cond (op == 0xb213) 12
    (cond (op == 0xb1) 14 0)))))

pub record Counted (m : Machine) (c : Call) : Type 0 where
  pub length : (attempt m c).answer.count ≡ length (attempt m c).references
  pub for_code : (attempt m c).answer.count ≤ longest_list (operation c)
  pub at_most : (attempt m c).answer.count ≤ 85

abbrev pub CountBounded : Type 0
CountBounded = (m : Machine) (c : Call) → Counted m c

-- ---- a call of each that makes so many: with DAT on, 4K pages and 64K segments, and every address in page 0, which is
-- in frame 0

abbrev longest : (first : ℕ) → Call
longest first = call_of
    (let g = guest_with 0x1c 0 0x80000008 in
    record { psw = 2 ^ 58 + g.psw; general = g.general; cr0 = 0x00800000; cr1 = 0xc0; cr6 = g.cr6 })
    first true

-- for LRA the virtual tables are the real ones, and the format of virtual control register 0 is the same
abbrev pub longest_machine : Machine
longest_machine = machine_with (store 0x60 4 0x00800000 ∷ store 0x64 4 0xc0 ∷ [])

-- SSM, STCTL of sixteen registers, STNSM, STOSM, SSK, ISK, RRB, LRA: the first halfwords
abbrev pub firsts : List ℕ
firsts = 0x8000 ∷ 0xb610 ∷ 0xac00 ∷ 0xad00 ∷ 0x0822 ∷ 0x0922 ∷ 0xb213 ∷ 0xb120 ∷ []

abbrev pub BoundReached : Type 0
BoundReached =
    map (λ first. (attempt longest_machine (longest first)).answer.count) firsts
    ≡ map (λ first. longest_list (operation (longest first))) firsts
