use Rattle.std.proofs.Common.{refl, rules, tests}
use Rattle.std.proofs.lemmas.Iterator.{YieldsList-from_range}
use Rattle.std.proofs.lemmas.Iterator.Search.{any_from_yields_List}
use Rattle.rules.specs.Masks.{rises}
use Rattle.masks.proofs.stnsm_stosm.needs_expanded.Goals as goal

pub returns-in-Or : goal.returns-in-Or
returns-in-Or c =
    let any = any_from_yields_List (rises c.args.old c.args.new) _ _ _ c.any.ensures.ran
    (YieldsList-from_range 0 6 6 refl refl) (λ x b q h. search (rules, tests)) in
    simp (c.in-Or.is, any, c.any_rises_pending.ensures)
