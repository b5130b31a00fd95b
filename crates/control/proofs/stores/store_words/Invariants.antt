use Rattle.std.proofs.Common.{◌≡◌}
use Rattle.rules.specs.Writes.{perform_all}
use Rattle.rules.specs.StoreControl.{word_stores}
use Rattle.storage.specs.Answers.{machine}
use Rattle.control.proofs.stores.store_words.Given as goal

-- the stores that are left come to what all come to
abbrev pub invariant-loop-real : goal.invariant-loop-real
invariant-loop-real l =
    perform_all (machine l.storage l.keys) (word_stores l.real-iterator.a.rest.now l.real-iterator.b.rest.now)
    ≡ perform_all (machine l.initial.storage l.initial.keys) (word_stores l.reals l.values)
