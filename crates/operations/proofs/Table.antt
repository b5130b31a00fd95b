-- The table's rule at each entry, by the test over the whole table, which antt computes; and the parts of an entry.
use Prim.Native.Nat.{ℕ, zero, suc, ◌+◌, ◌/◌, ◌%◌, ◌<◌}
use native.Mathlib.Nat.{add-zero, zero-add, add-suc, suc-add, le_of_suc-le-suc, not-suc-le-zero}
use mathlib.Core.Path.{◌≡◌, refl, ◌∙◌, sym, subst, ap}
use mathlib.Core.Bool.{Bool, true, false, cond}
use mathlib.Core.List.{List, [], ◌∷◌}
use lib.Dec.{eqb, ltb}
use lib.ListN.{length, get_or}
use borrow.Author.Tests.{eqb-true}
use Rattle.operations.specs.Operations.{begins_assisted, Operation, operation_of, entry_of, from_byte, by_rule}
use Rattle.operations.proofs.Junctions.{both_true}

from : (xs : List ℕ) (b : ℕ) → from_byte b xs ≡ true → (k : ℕ) → k < length xs → get_or xs k 0 ≡ entry_of (b + k)
from [] b t k h = absurd (not-suc-le-zero h)
from (x ∷ xs) b t zero h = eqb-true _ _ (both_true _ _ t).0 ∙ ap entry_of (sym (add-zero b))
from (x ∷ xs) b t (suc k) h =
    from xs (suc b) (both_true (eqb x (entry_of b)) _ t).1 k (le_of_suc-le-suc h)
    ∙ ap entry_of (suc-add b k ∙ sym (add-suc b k))

pub each_by_rule : (entries : List ℕ) → by_rule entries ≡ true → (byte : ℕ) → byte < 256
    → get_or entries byte 0 ≡ entry_of byte
each_by_rule xs t b h =
    let tests = both_true (eqb (length xs) 256) (from_byte 0 xs) t in
    from xs 0 tests.1 b (subst (λ n. b < n) (sym (eqb-true _ _ tests.0)) h) ∙ ap entry_of (zero-add b)

-- an entry taken apart
abbrev pub apart : (entry : ℕ) → Operation
apart entry = record { length = entry % 128; assisted = eqb (entry / 128) 1 }

parts : (short middle mark : Bool)
    → let n : ℕ = cond short 2 (cond middle 4 6) in
    apart (n + cond mark 0x80 0) ≡ record { length = n; assisted = mark }
parts true m true = refl
parts true m false = refl
parts false true true = refl
parts false true false = refl
parts false false true = refl
parts false false false = refl

pub entry_apart : (byte : ℕ) → apart (entry_of byte) ≡ operation_of byte
entry_apart b = parts (ltb b 0x40) (ltb b 0xc0) (begins_assisted b)
