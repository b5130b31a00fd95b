-- DEMAND 1. Every attempt, whatever the storage, keys, record and halfword, ends with a number of document 01's table,
-- and with a code, step or place that its instruction can have; only codes 16 and 17 carry an address, of 24 bits.
-- Every ending but 0 leaves storage and record as they were, and the keys but for reference bits that were recorded: a
-- bit that ends as one was one or belongs to a block that an entry of the list touched, exactly. Completion moves the
-- instruction address on, and changes nothing else in the record but ISK's result, RRB's condition code and LRA's both.
use Rattle.std.specs.Prelude.{◌≡◌, ℕ, ◌^◌, ◌<◌, Bool, true, false, cond, ◌&&◌, ◌||◌, List, [], ◌∷◌, ◌==◌, ◌≢◌}
use Rattle.rules.specs.Machine.{Machine}
use Rattle.rules.specs.Guest.{Guest, advance, with_byte, with_address, with_code}
use Rattle.rules.specs.Endings.{Ending, Numbers, numbers}
use Rattle.rules.specs.Call.{Call, operation, r1}
use Rattle.rules.specs.Attempt.{Result, attempt}
use Rattle.rules.specs.Theorems.ReferenceBits.{OnlyReferenced}

-- a number of the table, and the codes, steps or places that it can carry
pub record Line : Type 0 where
  pub number : ℕ
  pub codes : List ℕ

abbrev line : ℕ → List ℕ → Line
line number codes = record { number = number; codes = codes }

abbrev alone : ℕ → Line
alone number = line number (0 ∷ [])

-- a refusal, or any access exception
abbrev interruptions : Line
interruptions = line 1 (2 ∷ 4 ∷ 5 ∷ 16 ∷ 17 ∷ 18 ∷ [])

-- what a call can end with once its operation code is looked at
abbrev decided : (operation : ℕ) → List Line
decided op =
    cond (op == 0x80) (alone 9 ∷ alone 0 ∷ interruptions ∷ alone 2 ∷ line 3 (2 ∷ 3 ∷ 7 ∷ 8 ∷ []) ∷ [])
    (cond (op == 0xb6) (alone 9 ∷ alone 0 ∷ interruptions ∷ line 3 (2 ∷ 5 ∷ []) ∷ [])
    (cond (op == 0xac || op == 0xad) (alone 9 ∷ alone 0 ∷ interruptions ∷ alone 2 ∷ line 3 (2 ∷ 3 ∷ []) ∷ [])
    (cond (op == 0x08) (alone 9 ∷ alone 0 ∷ line 1 (2 ∷ []) ∷ line 3 (2 ∷ 5 ∷ 7 ∷ 8 ∷ 9 ∷ 11 ∷ []) ∷ [])
    (cond (op == 0x09) (alone 9 ∷ alone 0 ∷ line 1 (2 ∷ []) ∷ line 3 (1 ∷ 2 ∷ 3 ∷ 4 ∷ 5 ∷ 6 ∷ 7 ∷ 8 ∷ []) ∷ [])
    (cond (op == 0xb213) (alone 9 ∷ alone 0 ∷ interruptions ∷ line 3 (1 ∷ 2 ∷ 3 ∷ 4 ∷ 5 ∷ 6 ∷ []) ∷ [])
    (cond (op == 0xb1) (alone 9 ∷ alone 0 ∷ interruptions ∷ line 3 (1 ∷ 2 ∷ 3 ∷ 4 ∷ 5 ∷ 6 ∷ 7 ∷ 8 ∷ []) ∷ [])
    (alone 13 ∷ [])))))))

-- and what any call can end with before that
abbrev pub table : (operation : ℕ) → List Line
table op = alone 10 ∷ alone 11 ∷ alone 12 ∷ decided op

abbrev pub among : List ℕ → ℕ → Bool
among [] n = false
among (x ∷ xs) n = x == n || among xs n

abbrev pub listed : List Line → (number code : ℕ) → Bool
listed [] number code = false
listed (l ∷ ls) number code = (l.number == number && among l.codes code) || listed ls number code

-- codes 16 and 17 carry a logical address; elsewhere that number is zero
abbrev pub carries : Numbers → Bool
carries n = n.number == 1 && (n.code == 16 || n.code == 17)

-- an ending that this operation code can have
pub record Possible (operation : ℕ) (e : Ending) : Type 0 where
  pub in_table : listed (table operation) (numbers e).number (numbers e).code ≡ true
  pub logical : (numbers e).address < 2 ^ 24
  pub elsewhere : carries (numbers e) ≡ false → (numbers e).address ≡ 0

-- how far completion moves the instruction address
abbrev pub instruction_length : (operation : ℕ) → ℕ
instruction_length op = cond (op == 0x08 || op == 0x09) 2 4

-- a record without what completion sets in it besides: ISK bits 24-31 of register R1, RRB the condition code, LRA the
-- code and register R1, the other five nothing
abbrev pub without_result : (operation : ℕ) → Call → Guest → Guest
without_result op c g =
    cond (op == 0x09) (with_byte g (r1 c) 0)
    (cond (op == 0xb213) (with_code g 0)
    (cond (op == 0xb1) (with_address (with_code g 0) (r1 c) 0) g))

-- what an ending but 0 leaves
pub record Untouched (m : Machine) (c : Call) (r : Result) : Type 0 where
  pub guest : r.answer.guest ≡ c.guest
  pub storage : r.after.storage ≡ m.storage
  pub keys : OnlyReferenced m.keys r.after.keys r.references

pub record Answered (m : Machine) (c : Call) (r : Result) : Type 0 where
  pub possible : Possible (operation c) r.answer.ending
  pub untouched : ((numbers r.answer.ending).number ≢ 0) → Untouched m c r
  pub advanced : (numbers r.answer.ending).number ≡ 0
      → without_result (operation c) c r.answer.guest
      ≡ without_result (operation c) c (advance c.guest (instruction_length (operation c)))

abbrev pub EveryCallAnswered : Type 0
EveryCallAnswered = (m : Machine) (c : Call) → Answered m c (attempt m c)
