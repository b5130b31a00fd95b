-- What the code's answers say of a reading program. The code counts references in 32 bits.
use Rattle.std.specs.Prelude.{◌≡◌, ℕ, ◌+◌, ◌%◌, ◌^◌, List, length, Option, Some, None, Result, Ok, Err}
use Rattle.rules.specs.declared.endings.Ending.{Ending}
use Rattle.rules.specs.declared.record_change.RecordChange.{RecordChange}
use Rattle.rules.specs.declared.record_change.RecordChange.TheVariants.{Unchanged}
use Rattle.rules.specs.Endings.{refuse}
use Rattle.rules.specs.Machine.{Machine}
use Rattle.rules.specs.Writes.{perform_all}
use Rattle.rules.specs.Steps.{Steps, fetch_bytes}
use Rattle.rules.specs.Run.{Outcome, ended, gave, View, view}
use Rattle.rules.specs.Call.{Completion}
pub use Rattle.storage.specs.declared.steps.Counted.{Counted}

-- storage and keys, as a machine of the rules
abbrev pub machine : (storage keys : List ℕ) → Machine
machine storage keys = record { storage = storage; keys = keys }

-- ---- a step: its outcome, its count, and the machine that it leaves

-- a value, after so many references, and the machine left
abbrev pub went : {A : Type 0} → A → (count : ℕ) → Machine → View A
went a n m = record { outcome = gave a; count = n; left = m }

-- an ending, after so many references, and the machine left
abbrev pub over : {A : Type 0} → Ending → (count : ℕ) → Machine → View A
over e n m = record { outcome = ended e; count = n; left = m }

-- the answer of a step
abbrev pub Step : Type 0 → Type 0
Step A = Result (Counted A) (Counted Ending)

abbrev pub counted : {A : Type 0} → A → (count : ℕ) → Counted A
counted a n = record { value = a; count = n }

-- what the code's answer says, with the storage and keys that it leaves. A function's promise is that this is `seen` of
-- the reading program that the function follows.
abbrev pub told : {A : Type 0} → Step A → (storage keys : List ℕ) → View A
told (Ok given) storage keys = went given.value given.count (machine storage keys)
told (Err e) storage keys = over e.value e.count (machine storage keys)

-- a reading program on a machine, its references counted in 32 bits
unfoldable pub seen : {A : Type 0} → Steps A → Machine → View A
seen p m = record { outcome = (view p m).outcome; count = (view p m).count % 2 ^ 32; left = (view p m).left }

-- ---- answers made of answers

abbrev pub fetched_as : Option ℕ → Ending → Step ℕ
fetched_as (Some v) e = Ok (counted v 1)
fetched_as None e = Err (counted e 0)

-- an item as it was found is what its fetch gives, with the storage and keys before it and the keys after it, whatever
-- ending the item's absence may have
abbrev pub Fetches : Option ℕ → (storage keys keys' : List ℕ) (address bytes : ℕ) → Type 0
Fetches i s ks ks' a n = (e : Ending) → told (fetched_as i e) s ks' ≡ seen (fetch_bytes a n e) (machine s ks)

-- after n references more
abbrev pub later : {A E : Type 0} → (n : ℕ) → Result (Counted A) (Counted E) → Result (Counted A) (Counted E)
later n (Ok given) = Ok (counted given.value ((n + given.count) % 2 ^ 32))
later n (Err e) = Err (counted e.value ((n + e.count) % 2 ^ 32))

-- every ending refused
abbrev pub refused : {A : Type 0} → Step A → Step A
refused (Ok given) = Ok given
refused (Err e) = Err (counted refuse e.count)

-- ---- an instruction: its answer, and the machine afterwards

pub record Finished : Type 0 where
  pub answer : Step RecordChange
  pub after : Machine

-- what the code answers, with the storage and keys that it leaves. An instruction's promise is that this is `finish` of
-- what is seen of its reading program.
abbrev pub finished : Step RecordChange → (storage keys : List ℕ) → Finished
finished answer storage keys = record { answer = answer; after = machine storage keys }

-- what `conclude` of the rules makes of a run, here of what is seen of it, and short of the record: completion makes
-- the writes
abbrev pub finish : View Completion → Finished
finish x = by x.outcome x.count x.left
  where
    by : Outcome Completion → ℕ → Machine → Finished
    by (ended e) n m = record { answer = Err (counted e n); after = m }
    by (gave k) n m = record {
      answer = Ok (counted k.change ((n + length k.writes) % 2 ^ 32));
      after = perform_all m k.writes;
    }

-- the answer of a completion, with what it changes in the record; and where that is nothing
abbrev pub completion_as : RecordChange → (reads writes : ℕ) → Step RecordChange
completion_as change reads writes = Ok (counted change ((reads + writes) % 2 ^ 32))

abbrev pub completion : (reads writes : ℕ) → Step RecordChange
completion = completion_as Unchanged

-- the answer where a step ends the instruction (a value would complete, and change nothing in the record)
abbrev pub ending : {A : Type 0} → Step A → Step RecordChange
ending (Ok given) = Ok (counted Unchanged given.count)
ending (Err e) = Err e
