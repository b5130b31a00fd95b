use Rattle.std.proofs.Common.{sym}
use Rattle.rules.specs.Steps.{consult_key}
use Rattle.storage.specs.Answers.{seen}
use Rattle.storage.proofs.keys.consult_key.Goals as goal

pub returns-in_default : goal.returns-in_default
unfolding consult_key seen
returns-in_default c = λ s. simp (c.stop.ensures, sym (c.in_default.ensures).lookup.0)

pub returns : goal.returns
unfolding consult_key seen
returns c = λ s. simp (
  sym (c.in-Some.ensures).lookup.0,
  c.seen_as.ensures,
  c.from.ensures,
  (c.in-Some.ensures).lookup.3.1 0,
)
