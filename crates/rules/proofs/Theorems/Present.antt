-- Every entry of an attempt names what is there: an entry is made only for what is, and what is written was read or
-- tested before.
use Rattle.std.proofs.Common.{
  ◌≡◌,
  ℕ,
  ◌/◌,
  ◌<◌,
  Bool,
  true,
  false,
  not,
  ltb,
  List,
  [],
  ◌∷◌,
  map,
  length,
  refl,
  ap,
  ◌∙◌,
  arith,
  ltb-true,
}
use Rattle.rules.specs.Machine.{Machine, addresses, has}
use Rattle.rules.specs.Endings.{
  Ending,
  WrongMode,
  WrongStorageSize,
  WrongKeyCount,
  OddInstructionAddress,
  NotAssisted,
}
use Rattle.rules.specs.References.{Reference, fetched}
use Rattle.rules.specs.Writes.{Write, store, set_key, entry}
use Rattle.rules.specs.Steps.{Steps, stop, branch, ◌>>=◌, ◌>>◌, stop_if}
use Rattle.rules.specs.Run.{Outcome, ended, gave, Run, run}
use Rattle.rules.specs.Call.{Call, Completion}
use Rattle.rules.specs.Attempt.{
  wrong_storage,
  wrong_keys,
  odd_address,
  is_assisted,
  wrong_mode,
  admitted,
  instruction,
  conclude,
  reading,
}
use Rattle.rules.specs.Theorems.Isolation.{All}
use Rattle.rules.specs.Theorems.Present.{Present, EveryEntryPresent}
use Rattle.rules.proofs.All.{all_append, all_map}
use Rattle.rules.proofs.Puts.{length_puts}
use Rattle.rules.proofs.Acts.{concluded_length}
use Rattle.rules.proofs.Together.{storage_puts, concluded_storage}
use Rattle.rules.proofs.Gives.{Gives, IfGave, run_gives, run_all}
use Rattle.rules.proofs.Present.{Sized, sized, each_there, Inside, AllInside}
use Rattle.rules.proofs.Present.Instruction.{instruction_inside}

module _ (m : Machine) (z : Sized (length m.storage) (length m.keys)) where
  abbrev s : ℕ
  s = length m.storage

  abbrev k : ℕ
  k = length m.keys

  has_key : (at : List ℕ) → All (λ a. a < s) at → All (λ a. a / 2048 < k) at
  has_key = all_map (λ a. a < s) (λ a. a / 2048 < k) (λ a l. let blocks = z.blocks in omega arith)

  fetch_present : (a n : ℕ) → has s a n ≡ true → Present m (fetched a n)
  fetch_present a n h =
      let there = each_there s (addresses a n) h in
      record { bytes = there; keys = tt; recorded = has_key (addresses a n) there }

  key_present : (b : ℕ) → ltb b k ≡ true → All (λ k. k < length m.keys) (b ∷ [])
  key_present b h = (ltb-true b k h, tt)

  write_present : (w : Write) → Inside s k w → Present m (entry w)
  write_present (store a n v) h =
      let x = fetch_present a n h in record { bytes = x.bytes; keys = tt; recorded = x.recorded }
  write_present (set_key b v) h = record { bytes = tt; keys = key_present b h; recorded = tt }

  writes_present : (ws : List Write) → All (Inside s k) ws → All (Present m) (map entry ws)
  writes_present [] h = tt
  writes_present (w ∷ ws) h = (write_present w h.0, writes_present ws h.1)

  concluded_present : (c : Call) (rs : List Reference) (o : Outcome Completion) → All (Present m) rs
      → IfGave (AllInside s k) o → All (Present m) (conclude m c rs o).references
  concluded_present c rs (ended e) h g = h
  concluded_present c rs (gave x) h g =
      all_append (Present m) rs (map entry x.writes) h (writes_present x.writes g)

-- what a run comes to, concluded, names what is there
abbrev Sound : Machine → Call → Run Completion → Type 0
Sound m c r = All (Present m) (conclude m c r.references r.outcome).references

tested : (m : Machine) (c : Call) (b : Bool) (e : Ending) (p : Steps Completion) → (b ≡ false → Sound m c (run p m))
    → Sound m c (run (branch b (stop e) p) m)
tested m c true e p h = tt
tested m c false e p h = h refl

sound : (m : Machine) (c : Call) (p : Steps Completion) → Sized (length m.storage) (length m.keys)
    → Gives (length m.storage) (length m.keys) (AllInside (length m.storage) (length m.keys)) p
    → Sound m c (run p m)
sound m c p z h =
    concluded_present m z c (run p m).references (run p m).outcome
    (run_all (Present m) p m (length m.keys) refl (fetch_present m z)
    (λ u b t. record { bytes = tt; keys = key_present m z b t; recorded = tt }))
    (run_gives _ p m (length m.keys) refl h)

-- what comes after the tests 10 and 11
abbrev sized_program : Call → Steps Completion
sized_program c = do
  stop_if (odd_address c.guest) OddInstructionAddress
  stop_if (not (is_assisted c)) NotAssisted
  stop_if (wrong_mode c.guest) WrongMode
  instruction c

program_inside : (s k : ℕ) → Sized s k → (c : Call) → Gives s k (AllInside s k) (sized_program c)
unfolding ◌>>=◌ stop_if
program_inside s k z c = (λ t. tt, λ t. (λ t. tt, λ t. (λ t. tt, λ t. instruction_inside s k z c)))

reading_sound : (m : Machine) (c : Call) → Sound m c (reading m c)
unfolding ◌>>=◌ stop_if admitted
reading_sound m c =
    let s = length m.storage in
    let k = length m.keys in
    tested m c (wrong_storage s) WrongStorageSize (stop_if (wrong_keys s k) WrongKeyCount >> sized_program c)
    (λ t. tested m c (wrong_keys s k) WrongKeyCount (sized_program c)
    (λ u. let z = sized s k t u in
    sound m c (sized_program c) z (program_inside s k z c)))

pub every_entry_present : EveryEntryPresent
every_entry_present m c =
    let rs = (reading m c).references in
    let o = (reading m c).outcome in
    record {
      entries = reading_sound m c;
      sizes = record {
        storage = ap length (concluded_storage m c rs o) ∙ length_puts m.storage (storage_puts o);
        keys = concluded_length m c rs o;
      };
    }
