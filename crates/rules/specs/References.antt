-- The list of references, document 01's own: its entries, and the bytes and keys that each one names, which it is said
-- to consult. Document 01, "References, in order" and "What a reader may hold us to".
use Rattle.std.specs.Prelude.{ℕ, ◌/◌, List, [], ◌∷◌}
pub use Rattle.rules.specs.declared.keys.KeyUse.{KeyUse}
pub use Rattle.rules.specs.declared.keys.KeyUse.TheVariants.{ForProtection, Whole}
use Rattle.rules.specs.Machine.{addresses}

-- What a key is consulted for: protection, which sees bits 0-4 alone, or whole (SSK and ISK, step 11; RRB, step 12).
abbrev pub seen_as : KeyUse → (key : ℕ) → ℕ
seen_as ForProtection k = k / 8
seen_as Whole k = k

pub data Reference : Type 0 where
  fetched : (address bytes : ℕ) → Reference
  consulted : KeyUse → (block : ℕ) → Reference
  wrote : (address bytes : ℕ) → Reference
  key_set : (block : ℕ) → Reference

-- the bytes of storage that an entry names
abbrev pub bytes_of : Reference → List ℕ
bytes_of (fetched a n) = addresses a n
bytes_of (consulted u b) = []
bytes_of (wrote a n) = addresses a n
bytes_of (key_set b) = []

-- the keys that an entry names
abbrev pub keys_of : Reference → List ℕ
keys_of (fetched a n) = []
keys_of (consulted u b) = b ∷ []
keys_of (wrote a n) = []
keys_of (key_set b) = b ∷ []
