-- Proofs of the theorems about items, under the same names.
use Rattle.std.proofs.Common.{◌&&◌, ap, arith, le-ltb, lt-ltb}
use Rattle.rules.specs.Machine.{◌⊕◌, has}
use Rattle.rules.proofs.Items.{last_of}
use Rattle.storage.specs.Theorems.{LastByteDecides, NoneBeyond}

pub last_byte_decides : LastByteDecides
last_byte_decides size a h = last_of 3 size a (omega arith)

pub none_beyond : NoneBeyond
none_beyond size a h k l m =
    (lt-ltb (a ⊕ 3) size (omega arith), ap (λ b. b && has size (a ⊕ 1) 3) (le-ltb a size (omega arith)))
