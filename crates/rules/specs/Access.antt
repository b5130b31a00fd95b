-- The access test, once, and logical fetches. Document 01, the end of "Addresses and translation".
use Rattle.std.specs.Prelude.{ℕ, ◌/◌, Bool, not, ◌||◌, ◌==◌}
use Rattle.rules.specs.Endings.{Protection, Addressing, Interruption}
use Rattle.rules.specs.Guest.{Guest, instruction_address, dat_on, psw_key, protects_low}
use Rattle.rules.specs.Bits.{bits, bit}
use Rattle.rules.specs.Machine.{◌⊕◌}
use Rattle.rules.specs.References.{ForProtection}
use Rattle.rules.specs.Steps.{Steps, done, branch, ◌>>=◌, ◌>>◌, fetch_bytes, consult_key, stop_if}
use Rattle.rules.specs.Translation.{translate}

-- with DAT off a logical address is real
unfoldable pub real_of : Guest → (address : ℕ) → Steps ℕ
real_of g a = branch (dat_on g) (translate g.cr0 g.cr1 a) (done a)

-- what protection sees of a key is five bits: 0-3 the access bits, 4 the fetch bit
abbrev pub store_passes : (psw_key key : ℕ) → Bool
store_passes p k = p == 0 || p == bits 5 0 3 k

abbrev pub fetch_passes : (psw_key key : ℕ) → Bool
fetch_passes p k = store_passes p k || not (bit 5 4 k)

-- A real address, where its key lets the access pass. After test 11 a block has a key exactly if it is in storage, so a
-- key that is not there is a real address outside storage.
unfoldable pub key_test : (passes : ℕ → ℕ → Bool) → (psw_key real : ℕ) → Steps ℕ
key_test passes psw real = do
  k ← consult_key ForProtection (real / 2048) (Interruption Addressing)
  stop_if (not (passes psw k)) (Interruption Protection)
  done real

-- the real address of a logical one, where the access passes
unfoldable pub access : (passes : ℕ → ℕ → Bool) → Guest → (address : ℕ) → Steps ℕ
access passes g a = real_of g a >>= key_test passes (psw_key g)

-- Document 01's "store test": the real address of an operand that is stored later. Low-address protection comes before
-- translation, and makes no entry: document 02, R-6.
unfoldable pub store_test : Guest → (address : ℕ) → Steps ℕ
store_test g a = do
  stop_if (protects_low g a) (Interruption Protection)
  access store_passes g a

-- a logical fetch of n bytes that lie in one block
unfoldable pub logical_fetch : Guest → (address n : ℕ) → Steps ℕ
logical_fetch g a n = do
  real ← access fetch_passes g a
  fetch_bytes real n (Interruption Addressing)

-- the second halfword of the instruction
abbrev pub second_halfword : Guest → Steps ℕ
second_halfword g = logical_fetch g (instruction_address g ⊕ 2) 2
