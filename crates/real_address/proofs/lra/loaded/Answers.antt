use mathlib.Core.Path.{ap}
use Rattle.rules.specs.Call.{complete_as}
use Rattle.storage.specs.Answers.{seen, finished}
use Rattle.real_address.proofs.lra.loaded.Goals as goal

pub returns : goal.returns
unfolding seen complete_as
returns c = λ s ks. ap (λ x. finished x s ks) c.completed_as.ensures
