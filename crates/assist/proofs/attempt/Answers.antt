use Rattle.std.proofs.Common.{◌≤◌, sym, ap, ◌∙◌, subst}
use Rattle.operations.specs.Operations.{length_of}
use Rattle.rules.specs.declared.call.Call.{Call}
use Rattle.rules.specs.Endings.{numbers}
use Rattle.rules.proofs.Theorems.Count.{count_bounded}
use Rattle.storage.specs.Answers.{machine}
use Rattle.assist.specs.Attempted.{answer_of, attempted}
use Rattle.assist.proofs.Concluded.{shown, attempts}
use Rattle.assist.proofs.attempt.Goals as goal

pub returns : goal.returns
unfolding attempted
returns c =
    let a = c.args in
    let call : Call = record { guest = a.guest; first = a.first; installed = a.installed } in
    let m = machine a.storage.now a.keys.now in
    let concluded = c.program-concluded.result in
    let length = ap (λ o. o.length) c.operation_of-operation.ensures
    ∙ ap length_of c.operation_byte.ensures in
    let e = ap (shown call) c.program-concluded.ensures ∙ attempts m call in
    let answer =
    c.answer_of.ensures ∙ ap (answer_of concluded call) length ∙ ap (λ f. f.answer) e in
    let count = ap (λ x. x.count) answer in
    let counted = count_bounded m call in
    record {
      answer = answer;
      numbers = ap (λ x. numbers x.ending) answer;
      count = count ∙ counted.length;
      bound = subst (λ n. n ≤ 85) (sym count) counted.at_most;
      storage = ap (λ f. f.after.storage) e;
      keys = ap (λ f. f.after.keys) e;
    }
