use Rattle.std.proofs.Common.{refl, rules, tests}
use Rattle.std.proofs.lemmas.Iterator.{YieldsList-from_range}
use Rattle.std.proofs.lemmas.Iterator.Search.{any_from_yields_List}
use Rattle.rules.specs.Masks.{rises}
use Rattle.masks.proofs.bits.any_rises.Goals as goal

pub returns : goal.returns
returns c =
    any_from_yields_List (rises c.args.old c.args.new) _ _ _ c.any.ensures.ran
    (YieldsList-from_range 0 8 8 refl refl) (λ x b q h. search (rules, tests))
