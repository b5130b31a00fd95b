use Rattle.std.proofs.Common.{sym, ap, ◌∙◌, inl, inr}
use Rattle.rules.specs.Writes.{perform_all}
use Rattle.storage.specs.Answers.{machine}
use Rattle.control.proofs.Words.{none_left}
use Rattle.control.proofs.stores.store_words.Goals as goal

pub returns : goal.returns
returns c =
    let l = c.loop-real in
    let left = l.real-iterator in
    let none = none_left left.a.rest.now left.b.rest.now
    (elim c.in-None.ensures.steps [ inl x ↦ inl x.1.0 | inr x ↦ inr x.1.0 ]) in
    ap (perform_all (machine l.storage l.keys)) (sym none) ∙ l.invariant
