-- What demands 1 and 3 say of reference bits (document 02, R-13): one ends as one exactly if it was one, or an entry of
-- a list of references touched its block.
use Rattle.std.specs.Prelude.{◌≡◌, ℕ, ◌/◌, ◌%◌, ◌<◌, Bool, false, ◌||◌, List, [], ◌∷◌, length, ◌==◌, slice_index}
use Rattle.rules.specs.Bits.{bit}
use Rattle.rules.specs.References.{Reference, bytes_of}

-- two keys are the same but for the reference bit, 5: bits 0-4, and bits 6 and 7
pub record SameButReference (key key' : ℕ) : Type 0 where
  pub left : key' / 8 ≡ key / 8
  pub right : key' % 4 ≡ key % 4

abbrev pub is_referred : (key : ℕ) → Bool
is_referred key = bit 8 5 key

-- is one of these addresses in a block?
abbrev pub any_in : (block : ℕ) → List ℕ → Bool
any_in block [] = false
any_in block (a ∷ rest) = a / 2048 == block || any_in block rest

-- an entry touches the blocks of the bytes that it names
abbrev pub touches : (block : ℕ) → Reference → Bool
touches block r = any_in block (bytes_of r)

abbrev pub touched : (block : ℕ) → List Reference → Bool
touched block [] = false
touched block (r ∷ rs) = touches block r || touched block rs

-- Of the keys at most reference bits have changed: one ends as one exactly if it was one, or one of these entries
-- touched its block.
pub record OnlyReferenced (keys keys' : List ℕ) (rs : List Reference) : Type 0 where
  pub count : length keys' ≡ length keys
  pub others : (k : ℕ) → SameButReference (slice_index keys k) (slice_index keys' k)
  pub reference_bit : (k : ℕ) → k < length keys
      → is_referred (slice_index keys' k) ≡ (is_referred (slice_index keys k) || touched k rs)
