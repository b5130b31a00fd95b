use Rattle.rules.specs.Machine.{◌⊕◌}
use Rattle.rules.specs.Access.{store_test}
use Rattle.rules.specs.StoreControl.{operand_words}
use Rattle.control.proofs.Turns.{Gathering}
use Rattle.control.proofs.gathered.operand_words.Given as goal

abbrev pub invariant-loop-i : goal.invariant-loop-i
invariant-loop-i l =
    Gathering (store_test l.guest) (λ a. a ⊕ 4) (operand_words l.guest l.address l.n) l.n l.storage l.initial.keys
    l.keys l.words.value l.words.count l.at l.i
