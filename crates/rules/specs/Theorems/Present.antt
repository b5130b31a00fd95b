-- A BRANCH NOBODY CAN REACH. Whatever the storage, keys, record and halfword: every entry of an attempt's list of
-- references, whether it reads, stores or sets a key, names bytes and keys that are there, and each of those bytes has
-- a key, in which the access is recorded. So a test for "not in storage" before a store or the setting of a key would
-- never fail, in any call. Document 02, R-10.
use Rattle.std.specs.Prelude.{◌/◌, ◌<◌, length}
use Rattle.rules.specs.Machine.{Machine}
use Rattle.rules.specs.References.{Reference, bytes_of, keys_of}
use Rattle.rules.specs.Call.{Call}
use Rattle.rules.specs.Attempt.{Result, attempt}
use Rattle.rules.specs.Theorems.Isolation.{All, SameSizes}

-- all that an entry names is in the machine
pub record Present (m : Machine) (r : Reference) : Type 0 where
  pub bytes : All (λ a. a < length m.storage) (bytes_of r)
  pub keys : All (λ k. k < length m.keys) (keys_of r)
  pub recorded : All (λ a. a / 2048 < length m.keys) (bytes_of r)

-- and of an attempt; what is there at its start is there to its end
pub record AllPresent (m : Machine) (r : Result) : Type 0 where
  pub entries : All (Present m) r.references
  pub sizes : SameSizes m r.after

abbrev pub EveryEntryPresent : Type 0
EveryEntryPresent = (m : Machine) (c : Call) → AllPresent m (attempt m c)
