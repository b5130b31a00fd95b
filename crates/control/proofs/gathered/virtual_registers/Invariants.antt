use Rattle.std.proofs.Common.{◌+◌, ◌*◌, ◌%◌}
use Rattle.rules.specs.Machine.{◌⊕◌}
use Rattle.rules.specs.ControlFields.{control_word}
use Rattle.rules.specs.StoreControl.{virtual_registers}
use Rattle.control.proofs.Turns.{Gathering}
use Rattle.control.proofs.gathered.virtual_registers.Given as goal

abbrev pub invariant-loop-i : goal.invariant-loop-i
invariant-loop-i l =
    Gathering (λ r. control_word 5 (l.ecblok ⊕ 4 * (r % 16))) (λ r. r + 1) (virtual_registers l.ecblok l.first l.n) l.n
    l.storage l.initial.keys l.keys l.words.value l.words.count (l.first + l.i) l.i
