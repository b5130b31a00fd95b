-- Storage and keys, as the caller lends them; addresses; what it means that an item is in storage; bytes stored.
-- A block, document 01's "key block", is 2,048 bytes of storage, which share a key.
-- Document 01, "What is modelled" and "Addresses and translation".
use Rattle.std.specs.Prelude.{
  ℕ,
  zero,
  suc,
  ◌+◌,
  ◌*◌,
  ◌/◌,
  ◌%◌,
  ◌^◌,
  Bool,
  true,
  ◌&&◌,
  List,
  [],
  ◌∷◌,
  length,
  nat_lt,
  slice_index,
  slice_set,
}

-- One byte an element, and one key byte for each block. A key: bits 0-3 access, 4 fetch protection,
-- 5 reference, 6 change; bit 7 is ignored and left as found.
pub record Machine : Type 0 where
  pub storage : List ℕ
  pub keys : List ℕ

-- The sum of addresses, everywhere.
abbrev pub ◌⊕◌ : ℕ → ℕ → ℕ
a ⊕ b = (a + b) % 2 ^ 24

infixl 60 ◌⊕◌
-- The n addresses from a on, byte by byte: after FFFFFF comes 000000.
abbrev pub addresses : (a n : ℕ) → List ℕ
addresses a zero = []
addresses a (suc n) = a ∷ addresses (a ⊕ 1) n

-- Are all these addresses in a storage of so many bytes?
abbrev pub present : (size : ℕ) → List ℕ → Bool
present size [] = true
present size (a ∷ rest) = nat_lt a size && present size rest

-- The bytes at these addresses, behind the number v, as one big-endian number.
abbrev pub value_at : (storage at : List ℕ) (v : ℕ) → ℕ
value_at storage [] v = v
value_at storage (a ∷ rest) v = value_at storage rest (v * 256 + slice_index storage a)

-- An item, the n bytes from address a on: is it wholly in a storage of so many bytes?
abbrev pub has : (size a n : ℕ) → Bool
has size a n = present size (addresses a n)

-- And the number that it holds.
abbrev pub value : (storage : List ℕ) (a n : ℕ) → ℕ
value storage a n = value_at storage (addresses a n) 0

-- Byte n of a number, counted from the right.
abbrev pub byte_of : (n v : ℕ) → ℕ
byte_of zero v = v % 256
byte_of (suc n) v = v / 256 ^ suc n % 256

-- The number v stored big-endian at these addresses, one after the other.
abbrev pub stored : (storage at : List ℕ) (v : ℕ) → List ℕ
stored storage [] v = storage
stored storage (a ∷ rest) v = stored (slice_set storage a (byte_of (length rest) v)) rest v
