-- Ending 3 at each control field, by computation over the definitions.
use Rattle.std.proofs.Common.{refl}
use Rattle.rules.specs.Theorems.MissingFields.{StepsCarried}
use Rattle.rules.proofs.Computing.{computing}

pub steps_carried : StepsCarried
unfolding computing
steps_carried = refl
