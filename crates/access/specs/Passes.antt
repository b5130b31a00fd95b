-- The test of an access for a store or for a fetch.
use Rattle.std.specs.Prelude.{ℕ, Bool}
use Rattle.rules.specs.Access.{store_passes, fetch_passes}
use Rattle.storage.specs.declared.recording.Access.{Access}
use Rattle.storage.specs.declared.recording.Access.TheVariants.{Fetch, Store}

abbrev pub passes_for : Access → (psw_key key : ℕ) → Bool
passes_for Store = store_passes
passes_for Fetch = fetch_passes
