-- What a completed attempt does: a store of so many bytes at a real address, or a key set.
use Rattle.std.specs.Prelude.{ℕ, List, [], ◌∷◌, slice_set}
use Rattle.rules.specs.Machine.{Machine, addresses, stored}
use Rattle.rules.specs.References.{Reference, wrote, key_set}
use Rattle.rules.specs.Recording.{noted}

pub data Write : Type 0 where
  store : (address bytes value : ℕ) → Write
  set_key : (block value : ℕ) → Write

-- the entry that a write makes
abbrev pub entry : Write → Reference
entry (store a n v) = wrote a n
entry (set_key b v) = key_set b

abbrev pub put : Machine → Write → Machine
put m (store a n v) = record { storage = stored m.storage (addresses a n) v; keys = m.keys }
put m (set_key b v) = record { storage = m.storage; keys = slice_set m.keys b v }

-- what is put, and what its entry records
abbrev pub perform : Machine → Write → Machine
perform m w = noted (put m w) (entry w)

-- In order: where two stores share an address, the later one stays.
abbrev pub perform_all : Machine → List Write → Machine
perform_all m [] = m
perform_all m (w ∷ ws) = perform_all (perform m w) ws
