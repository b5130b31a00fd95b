-- An item of storage, as the code finds it.
use Rattle.std.specs.Prelude.{ℕ, cond, List, [], ◌∷◌, length, Option, Some, None}
use Rattle.rules.specs.Machine.{has, value, byte_of}

-- the n bytes from address a on as one number, or nothing if one of them is not in storage
unfoldable pub item_at : (storage : List ℕ) (a n : ℕ) → Option ℕ
item_at storage a n = cond (has (length storage) a n) (Some (value storage a n)) None

-- the four bytes of a word
abbrev pub word_bytes : ℕ → List ℕ
word_bytes v = byte_of 3 v ∷ byte_of 2 v ∷ byte_of 1 v ∷ byte_of 0 v ∷ []
