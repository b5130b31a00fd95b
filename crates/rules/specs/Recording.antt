-- Recording: at the moment of an access the reference bit, or the reference and change bits, of each block that it
-- touches are set. Document 02, R-13; GA22-7000 has the two bits of a key.
use Rattle.std.specs.Prelude.{ℕ, ◌+◌, ◌*◌, ◌/◌, ◌%◌, List, [], ◌∷◌, slice_index, slice_set}
use Rattle.rules.specs.Machine.{Machine, addresses}
use Rattle.rules.specs.References.{Reference, fetched, consulted, wrote, key_set}

-- a key with its reference bit (5) one, and one with its change bit (6) too; bits 0-4 and 7 are as they were
abbrev pub referred : (key : ℕ) → ℕ
referred k = k / 8 * 8 + 4 + k % 4

abbrev pub changed : (key : ℕ) → ℕ
changed k = k / 8 * 8 + 6 + k % 2

-- the keys after an access to the bytes at these addresses: f done to the key of each one's block
unfoldable pub marked : (f : ℕ → ℕ) (keys at : List ℕ) → List ℕ
marked f keys [] = keys
marked f keys (a ∷ rest) = marked f (slice_set keys (a / 2048) (f (slice_index keys (a / 2048)))) rest

-- the keys after an entry: one that reads storage sets the reference bit, a store both; entries of keys record nothing
abbrev pub recorded : (keys : List ℕ) → Reference → List ℕ
recorded keys (fetched a n) = marked referred keys (addresses a n)
recorded keys (consulted u b) = keys
recorded keys (wrote a n) = marked changed keys (addresses a n)
recorded keys (key_set b) = keys

-- the machine after an entry, and after a list of them
abbrev pub noted : Machine → Reference → Machine
noted m r = record { storage = m.storage; keys = recorded m.keys r }

abbrev pub noted_all : Machine → List Reference → Machine
noted_all m [] = m
noted_all m (r ∷ rs) = noted_all (noted m r) rs
