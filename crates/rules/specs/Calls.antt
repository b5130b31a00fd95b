-- A list of calls run alone, as document 01 says it: in order, each on what the one before it left.
-- "What a reader may hold us to".
use Rattle.std.specs.Prelude.{List, [], ◌∷◌, ◌++◌}
use Rattle.rules.specs.Machine.{Machine}
use Rattle.rules.specs.References.{Reference}
use Rattle.rules.specs.Call.{Call}
use Rattle.rules.specs.Attempt.{Answer, attempt}

abbrev pub answers : Machine → List Call → List Answer
answers m [] = []
answers m (c ∷ cs) = (attempt m c).answer ∷ answers (attempt m c).after cs

-- the machine that the calls leave
abbrev pub left : Machine → List Call → Machine
left m [] = m
left m (c ∷ cs) = left (attempt m c).after cs

-- the references of all of them
abbrev pub references : Machine → List Call → List Reference
references m [] = []
references m (c ∷ cs) = (attempt m c).references ++ references (attempt m c).after cs
