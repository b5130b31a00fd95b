use Prim.Native.Nat.{ℕ, ◌≤◌}
use native.Mathlib.Omega.{arith}
use mathlib.Core.Path.{◌≡◌, sym, ap, ◌∙◌, subst}
use mathlib.Core.List.{List}
use lib.ListN.{length}
use Rattle.rules.specs.declared.call.Call.{Call}
use Rattle.rules.specs.Machine.{Machine}
use Rattle.rules.specs.Endings.{numbers}
use Rattle.rules.specs.Call.{operation}
use Rattle.rules.specs.Attempt.{Result}
use Rattle.rules.specs.Theorems.Answers.{Untouched}
use Rattle.rules.specs.Theorems.ReferenceBits.{OnlyReferenced}
use Rattle.rules.proofs.Theorems.Answers.{every_call_answered}
use Rattle.assist.specs.Attempted.{attempted}
use Rattle.vma.specs.Words.{guest_of, words_of}
use Rattle.vma.specs.Packed.{packed, numbers_in, count_in}
use Rattle.vma.specs.Called.{called}
use Rattle.vma.proofs.Fields.{answer_fits}
use Rattle.vma.proofs.Inverse.{packing_inverse}
use Rattle.vma.proofs.vma_attempt.Goals as goal

only_referenced : {m : Machine} {call : Call} {r : Result} {keys : List ℕ} → keys ≡ r.after.keys → Untouched m call r
    → OnlyReferenced m.keys keys r.references
only_referenced {m} {r = r} same u = subst (λ ks. OnlyReferenced m.keys ks r.references) (sym same) u.keys

pub returns : goal.returns
unfolding attempted
returns c =
    let a = c.args in
    let w = a.guest.now in
    let typed = c.guest_of.ensures.words in
    let m : Machine = record { storage = a.storage.now; keys = a.keys.now } in
    let call : Call = record { guest = guest_of w; first = a.first; installed = a.installed } in
    let r = called a.storage.now a.keys.now w a.first a.installed in
    let same = ap (λ g. attempted a.storage.now a.keys.now g a.first a.installed)
    c.guest_of.ensures.guest in
    let told = c.attempt-answer.ensures in
    let answer = told.answer ∙ ap (λ q. q.answer) same in
    let count = told.count ∙ ap (λ q. length q.references) same in
    let bound : length r.references ≤ 85 = subst (λ n. n ≤ 85) count told.bound in
    let storage = told.storage ∙ ap (λ q. q.after.storage) same in
    let keys = told.keys ∙ ap (λ q. q.after.keys) same in
    let demand = every_call_answered m call in
    let n = numbers r.answer.ending in
    let fits = answer_fits (operation call) r.answer.ending (length r.references) demand.possible bound in
    let number = c.number.ensures ∙ ap (λ x. (numbers x.ending).number) answer in
    let code = c.code.ensures ∙ ap (λ x. (numbers x.ending).code) answer in
    let address = c.address.ensures ∙ ap (λ x. (numbers x.ending).address) answer in
    let a = fits.number in
    let b = fits.code in
    let result : c.pack.result ≡ packed n (length r.references) =
    omega (arith, c.pack.ensures, number, code, count, address) in
    let apart = packing_inverse.answer n (length r.references) fits in
    let parts = ap numbers_in result ∙ apart.0 in
    let words = c.words_of.ensures ∙ ap (λ x. words_of x.guest) answer in
    let kept = packing_inverse.words w typed.0 typed.1 typed.2 in
    let ended : ((numbers_in c.pack.result).number ≡ 0 → ⊥) → Untouched m call r =
    λ e. demand.untouched (λ z. e (ap (λ x. x.number) parts ∙ z)) in
    record {
      result = result;
      numbers = parts;
      count = ap count_in result ∙ apart.1;
      guest = words;
      untouched = λ e. (words ∙ ap words_of (ended e).guest ∙ kept, storage ∙ (ended e).storage);
      referenced = λ e. only_referenced keys (ended e);
      storage = storage;
      keys = keys;
    }
