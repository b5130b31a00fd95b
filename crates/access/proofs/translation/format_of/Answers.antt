use Rattle.std.proofs.Common.{rules}
use Rattle.storage.specs.Answers.{seen}
use Rattle.rules.specs.Steps.{◌>>=◌, stop_if}
use Rattle.rules.specs.Translation.{format_of}
use Rattle.access.proofs.translation.format_of.Goals as goal

pub returns-in-8 : goal.returns-in-8
unfolding seen format_of stop_if ◌>>=◌
returns-in-8 c = λ unknown m. simp (c.format.ensures, c.in-8.is)

pub returns-in-10 : goal.returns-in-10
unfolding seen format_of stop_if ◌>>=◌
returns-in-10 c = λ unknown m. simp (c.format-in-10.ensures, c.in-10.is)

pub returns-in-16 : goal.returns-in-16
unfolding seen format_of stop_if ◌>>=◌
returns-in-16 c = λ unknown m. simp (c.format-in-16.ensures, c.in-16.is)

pub returns-in-18 : goal.returns-in-18
unfolding seen format_of stop_if ◌>>=◌
returns-in-18 c = λ unknown m. simp (c.format-in-18.ensures, c.in-18.is)

pub returns-in_default : goal.returns-in_default
unfolding seen format_of stop_if ◌>>=◌
returns-in_default c = λ unknown m. search rules
