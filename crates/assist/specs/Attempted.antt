-- The definition of an attempt, at what its caller hands over; and its answer, from what the instruction concluded.
use Rattle.std.specs.Prelude.{ℕ, Bool, List, Ok, Err}
use Rattle.rules.specs.declared.guest.Guest.{Guest}
use Rattle.rules.specs.declared.endings.Ending.TheVariants.{Completed}
use Rattle.rules.specs.declared.call.Call.{Call}
use Rattle.rules.specs.declared.answer.Answer.{Answer}
use Rattle.rules.specs.Guest.{advance}
use Rattle.rules.specs.Call.{changed}
use Rattle.rules.specs.Attempt.{Result, attempt}
use Rattle.rules.specs.declared.record_change.RecordChange.{RecordChange}
use Rattle.storage.specs.Answers.{Step}

-- the answer, of a call whose instruction has this length
abbrev pub answer_of : Step RecordChange → Call → (length : ℕ) → Answer
answer_of (Ok change) c length = record {
  ending = Completed;
  count = change.count;
  guest = advance (changed c change.value) length;
}
answer_of (Err e) c length = record { ending = e.value; count = e.count; guest = c.guest }

unfoldable pub attempted : (storage keys : List ℕ) → Guest → (first : ℕ) → (installed : Bool) → Result
attempted storage keys guest first installed =
    attempt (record { storage = storage; keys = keys })
    (record { guest = guest; first = first; installed = installed })
