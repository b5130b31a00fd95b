-- Demand 1, from how each instruction can end.
use Rattle.std.proofs.Common.{◌≡◌, List, length, sym, refl, ap, ◌∙◌, true≢false, eq-eqb}
use Rattle.operations.specs.Operations.{length_of}
use Rattle.rules.specs.Machine.{Machine}
use Rattle.rules.specs.Guest.{advance}
use Rattle.rules.specs.Endings.{Completed}
use Rattle.rules.specs.References.{Reference}
use Rattle.rules.specs.Run.{Outcome, ended, gave}
use Rattle.rules.specs.Call.{Call, operation_byte, operation, Completion}
use Rattle.rules.specs.Attempt.{program, conclude, reading}
use Rattle.rules.specs.Theorems.Isolation.{All}
use Rattle.rules.specs.Theorems.Answers.{
  Possible,
  instruction_length,
  without_result,
  Answered,
  EveryCallAnswered,
}
use Rattle.rules.specs.Theorems.Count.{longest_list}
use Rattle.rules.proofs.Recording.{noted_all-storage, noted_all-length}
use Rattle.rules.proofs.Reading.{Reads, run_reads, read_same, read_bit}
use Rattle.rules.proofs.Within.{Came}
use Rattle.rules.proofs.Fits.{Stops, Completes}
use Rattle.rules.proofs.Fits.Attempt.{completed_assisted, reading_came}
use Rattle.rules.proofs.Theorems.Operations.{table_as_by_code}

-- a completed call's length by the table is its operation code's
length_by_code : (c : Call) → Possible (operation c) Completed
    → length_of (operation_byte c) ≡ instruction_length (operation c)
length_by_code c h =
    let same = table_as_by_code c in
    same.length (same.assisted ∙ completed_assisted (operation c) h.in_table)

concluded : (m : Machine) (c : Call) (rs : List Reference) (o : Outcome Completion)
    → Came (Stops (operation c)) (Completes (operation c) c) (longest_list (operation c)) (length rs) o
    → All Reads rs
    → Answered m c (conclude m c rs o)
concluded m c rs (ended e) h r = record {
  possible = h.0.possible;
  untouched = λ n. record {
    guest = refl;
    storage = noted_all-storage m rs;
    keys = record { count = noted_all-length m rs; others = read_same m rs r; reference_bit = read_bit m rs r };
  };
  advanced = λ z. absurd (true≢false (sym (eq-eqb _ _ z) ∙ h.0.short));
}
concluded m c rs (gave k) h r = record {
  possible = h.1.possible;
  untouched = λ n. absurd (n refl);
  advanced = λ z.
      h.1.advanced
      ∙ ap (λ n. without_result (operation c) c (advance c.guest n)) (length_by_code c h.1.possible);
}

pub every_call_answered : EveryCallAnswered
every_call_answered m c =
    concluded m c (reading m c).references (reading m c).outcome (reading_came m c)
    (run_reads (program (length m.storage) (length m.keys) c) m)
