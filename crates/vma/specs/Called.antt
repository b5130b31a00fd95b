-- One attempt, at what a C program hands over.
use Rattle.std.specs.Prelude.{ℕ, Bool, List}
use Rattle.rules.specs.Attempt.{Result}
use Rattle.assist.specs.Attempted.{attempted}
use Rattle.vma.specs.Words.{guest_of}

abbrev pub called : (storage keys guest : List ℕ) → (first : ℕ) → (installed : Bool) → Result
called storage keys guest first installed = attempted storage keys (guest_of guest) first installed
