-- The way to a page that SSK and RRB write: its swap word, which the way fetched, is there.
use Rattle.std.proofs.Common.{◌≡◌, ℕ, true, length, Ok, sym, subst}
use Rattle.rules.specs.declared.tables.FieldNumbers.{FieldNumbers}
use Rattle.rules.specs.declared.tables.FoundPage.{FoundPage}
use Rattle.rules.specs.Machine.{Machine, has}
use Rattle.rules.specs.Steps.{Steps}
use Rattle.rules.specs.Call.{Completion}
use Rattle.rules.specs.SwapTables.{find_page}
use Rattle.rules.proofs.Gives.{Gives}
use Rattle.rules.proofs.Present.StorageKeys.{SwapThere, find_page-gives}
use Rattle.storage.specs.declared.steps.Counted.{Counted}
use Rattle.storage.proofs.Stages.{Asked, sure}

module _ {S : Type 0} {entry : S → Machine} {stage : S → Steps Completion} where
  pub swap_there : (a : Asked entry stage FoundPage) {x : Counted FoundPage} → a.answer ≡ Ok x
      → (n : FieldNumbers) (rseg at : ℕ) → a.step ≡ find_page n rseg at
      → has (length a.left.storage) x.value.place 4 ≡ true
  swap_there a e n rseg at w =
      let s = length a.left.storage in
      let k = length a.left.keys in
      sure (SwapThere s k) a e (subst (Gives s k (SwapThere s k)) (sym w) (find_page-gives s k n rseg at))
