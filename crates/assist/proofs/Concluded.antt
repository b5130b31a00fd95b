-- What a finished attempt answers is the definition's answer: its count is at most 85, so 32 bits hold it.
use Prim.Native.Nat.{◌+◌, ◌%◌, ◌^◌, ◌≤◌}
use native.Mathlib.Omega.{arith}
use mathlib.Core.Path.{◌≡◌, ap}
use mathlib.Core.List.{List, ◌++◌, map}
use lib.ListN.{length, length-append, length-map}
use Rattle.operations.specs.Operations.{length_of}
use Rattle.rules.specs.declared.answer.Answer.{Answer}
use Rattle.rules.specs.declared.call.Call.{Call}
use Rattle.rules.specs.Machine.{Machine}
use Rattle.rules.specs.Writes.{perform_all, entry}
use Rattle.rules.specs.References.{Reference}
use Rattle.rules.specs.Recording.{noted_all}
use Rattle.rules.specs.Run.{Outcome, ended, gave, View}
use Rattle.rules.specs.Call.{operation_byte, Completion}
use Rattle.rules.specs.Attempt.{program, Result, conclude, reading, attempt}
use Rattle.rules.proofs.Theorems.Count.{count_bounded}
use Rattle.std.proofs.Common.{Ok, Err}
use Rattle.storage.specs.Answers.{counted, seen, Finished, finish}
use Rattle.assist.specs.Attempted.{answer_of}

-- what anybody can see of a result
pub record Visible : Type 0 where
  pub answer : Answer
  pub after : Machine

abbrev pub visible : Result → Visible
visible r = record { answer = r.answer; after = r.after }

abbrev pub shown : Call → Finished → Visible
shown c f = record { answer = answer_of f.answer c (length_of (operation_byte c)); after = f.after }

concluded : (m : Machine) (c : Call) (rs : List Reference) (o : Outcome Completion)
    → (conclude m c rs o).answer.count ≤ 85
    → let v : View Completion = record { outcome = o; count = length rs % 2 ^ 32; left = noted_all m rs } in
    shown c (finish v) ≡ visible (conclude m c rs o)
concluded m c rs (ended e) h =
    let z : length rs % 2 ^ 32 ≡ length rs = omega arith in
    ap (λ n. shown c (record { answer = Err (counted e n); after = noted_all m rs })) z
concluded m c rs (gave k) h =
    let ws = k.writes in
    let all : length rs + length ws ≡ length (rs ++ map entry ws) = simp (length-append, length-map) in
    let z : (length rs % 2 ^ 32 + length ws) % 2 ^ 32 ≡ length (rs ++ map entry ws) = omega arith in
    let after = perform_all (noted_all m rs) ws in
    ap (λ n. shown c (record { answer = Ok (counted k.change n); after = after })) z

pub attempts : (m : Machine) (c : Call)
    → shown c (finish (seen (program (length m.storage) (length m.keys) c) m)) ≡ visible (attempt m c)
unfolding seen
attempts m c = concluded m c (reading m c).references (reading m c).outcome (count_bounded m c).at_most
