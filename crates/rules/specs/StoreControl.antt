-- STORE CONTROL (B6), RS format. Document 01, "STCTL"; GA22-7074, pages 20 and 21.
-- The virtual control registers from R1 up to R3 are stored at the operand.
use Rattle.std.specs.Prelude.{ℕ, zero, suc, ◌+◌, ◌-◌, ◌*◌, ◌%◌, not, List, [], ◌∷◌, ◌++◌, ◌==◌}
use Rattle.rules.specs.Guest.{Guest, assists_control, effective}
use Rattle.rules.specs.Machine.{◌⊕◌}
use Rattle.rules.specs.Writes.{Write, store}
use Rattle.rules.specs.Endings.{refuse}
use Rattle.rules.specs.Steps.{Steps, done, ◌>>=◌, ◌>>◌, stop_if}
use Rattle.rules.specs.Access.{store_test, second_halfword}
use Rattle.rules.specs.ControlFields.{control_word, miccreg, address_in}
use Rattle.rules.specs.Call.{Call, r1, r3, Completion, complete}

-- steps 1 and 2: the address of ECBLOK
unfoldable pub control_block : Guest → Steps ℕ
control_block g = do
  stop_if (not (assists_control g)) refuse  -- 1
  creg ← miccreg 2 g  -- 2
  done (address_in creg)

-- steps 3 and 4: the operand's address, on a word
unfoldable pub word_operand : Guest → Steps ℕ
word_operand g = do
  second ← second_halfword g  -- 3
  stop_if (not (effective g second % 4 == 0)) refuse  -- 4
  done (effective g second)

-- step 5: how many registers R1 and R3 name
abbrev pub register_count : (r1 r3 : ℕ) → ℕ
register_count r1 r3 = (r3 + 16 - r1) % 16 + 1

-- p at x, at the next after x, and so on n times: what it gives, after what was found so far
unfoldable pub gather : (p : ℕ → Steps ℕ) (next : ℕ → ℕ) (found : List ℕ) (x n : ℕ) → Steps (List ℕ)
gather p next found x zero = done found
gather p next found x (suc n) = do
  value ← p x
  gather p next (found ++ value ∷ []) (next x) n

-- step 5: n virtual control registers from r on; the register after 15 is register 0
abbrev pub virtual_registers : (ecblok r n : ℕ) → Steps (List ℕ)
virtual_registers ecblok r n = gather (λ r. control_word 5 (ecblok ⊕ 4 * (r % 16))) (λ r. r + 1) [] r n

-- step 5: n operand words from an address on, each tested for a store: their real addresses
abbrev pub operand_words : Guest → (address n : ℕ) → Steps (List ℕ)
operand_words g address n = gather (store_test g) (λ a. a ⊕ 4) [] address n

-- step 5: each word at the real address found for it
abbrev pub word_stores : (reals values : List ℕ) → List Write
word_stores [] values = []
word_stores (real ∷ reals) [] = []
word_stores (real ∷ reals) (value ∷ values) = store real 4 value ∷ word_stores reals values

unfoldable pub store_control : Call → Steps Completion
store_control c = do
  ecblok ← control_block c.guest
  address ← word_operand c.guest
  let n = register_count (r1 c) (r3 c)
  values ← virtual_registers ecblok (r1 c) n  -- 5: the registers, then the tests, and only then the stores
  reals ← operand_words c.guest address n
  complete (word_stores reals values)
