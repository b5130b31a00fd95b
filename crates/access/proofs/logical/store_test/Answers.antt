use Rattle.std.proofs.Common.{sym, ◌∙◌}
use Rattle.rules.specs.Steps.{◌>>=◌, stop_if}
use Rattle.rules.specs.Access.{store_test}
use Rattle.storage.specs.Answers.{seen}
use Rattle.access.proofs.logical.store_test.Goals as goal

pub returns-then-protects_low : goal.returns-then-protects_low
unfolding store_test stop_if seen ◌>>=◌
returns-then-protects_low c = simp (c.stop.ensures, sym c.protects_low.ensures ∙ c.if-protects_low.true)

pub returns : goal.returns
unfolding store_test stop_if seen ◌>>=◌
returns c = simp (sym c.protects_low.ensures ∙ c.if-protects_low.false) c.access_test.ensures
