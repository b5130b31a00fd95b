-- The parts of an attempt's answer fit their fields.
use Prim.Native.Nat.{ℕ, ◌≤◌}
use native.Mathlib.Omega.{arith}
use Rattle.rules.specs.declared.endings.Ending.{Ending}
use Rattle.rules.specs.Endings.{numbers}
use Rattle.rules.specs.Theorems.Answers.{Possible}
use Rattle.rules.proofs.Small.{answer_small}
use Rattle.vma.specs.Inverse.{Fits}

pub answer_fits : (op : ℕ) (e : Ending) (count : ℕ) → Possible op e → count ≤ 85 → Fits (numbers e) count
answer_fits op e count p h =
    let small = answer_small op e p in
    let a = small.address in
    record { number = small.number; code = small.code; references = omega arith; address = omega arith }
