-- What the answers of walks and their steps say.
use Rattle.std.specs.Prelude.{◌≡◌, ℕ, List, Option, Some, None, Result, Ok, Err}
use Rattle.rules.specs.declared.endings.Ending.{Ending}
use Rattle.rules.specs.declared.tables.Format.{Format}
use Rattle.rules.specs.declared.tables.TableFault.{TableFault}
use Rattle.rules.specs.Machine.{Machine}
use Rattle.rules.specs.Steps.{Steps, ◌>>=◌}
use Rattle.rules.specs.Run.{View}
use Rattle.rules.specs.Translation.{Walk, found, fault}
use Rattle.storage.specs.declared.steps.Counted.{Counted}
use Rattle.storage.specs.Answers.{machine, went, over, Step, counted, told, seen}
pub use Rattle.access.specs.declared.walks.WalkEnd.{WalkEnd}
pub use Rattle.access.specs.declared.walks.WalkEnd.TheVariants.{Ended, Fault}

-- ---- a walk, read as `told` of the storage crate reads the answer of a step

-- the answer of a walk
abbrev pub Walked : Type 0
Walked = Result (Counted ℕ) (Counted WalkEnd)

abbrev pub over_walk : WalkEnd → (count : ℕ) → Machine → View Walk
over_walk (Fault x at) n m = went (fault x at) n m
over_walk (Ended e) n m = over e n m

abbrev pub told_walk : Walked → (storage keys : List ℕ) → View Walk
told_walk (Ok given) storage keys = went (found given.value) given.count (machine storage keys)
told_walk (Err e) storage keys = over_walk e.value e.count (machine storage keys)

-- a step's answer as a walk's
abbrev pub as_walk : Step ℕ → Walked
as_walk (Ok given) = Ok given
as_walk (Err e) = Err (counted (Ended e.value) e.count)

-- what ends a walk, as an ending: each fault gives one
abbrev pub ending_by : (TableFault → Ending) → WalkEnd → Ending
ending_by on (Fault x at) = on x
ending_by on (Ended e) = e

-- a walk, with the ending that each fault gives
abbrev pub ended_by : (TableFault → Ending) → Walked → Step ℕ
ended_by on (Ok given) = Ok given
ended_by on (Err e) = Err (counted (ending_by on e.value) e.count)

-- what is made of a value read, after so many references, is what comes next after any program that gives it
abbrev pub Follows : (read : Counted ℕ) → Walked → (ℕ → Steps Walk) → Type 0
Follows read walked next =
    (storage keys : List ℕ) (p : Steps ℕ) (m : Machine) → told (Ok read) storage keys ≡ seen p m
    → told_walk walked storage keys ≡ seen (p >>= next) m

-- a format makes no reference
abbrev pub formatted : (unknown : Ending) → Option Format → Machine → View Format
formatted unknown (Some f) m = went f 0 m
formatted unknown None m = over unknown 0 m
