use Rattle.rules.specs.declared.endings.Ending.TheVariants.{Interruption}
use Rattle.rules.specs.declared.endings.Exception.TheVariants.{TranslationSpecification}
use Rattle.rules.specs.Translation.{translate, exception}
use Rattle.storage.specs.Answers.{machine}
use Rattle.storage.proofs.Laws.{begin, last}
use Rattle.access.proofs.Paths.{formed, unformed, walk_ended}
use Rattle.access.proofs.translation.translate.Goals as goal

pub returns-in_default : goal.returns-in_default
unfolding translate
returns-in_default c =
    let m = machine c.args.storage.now c.args.keys.now in
    rw c.stop.ensures (unformed _ _ _ (begin m _) c.format_of.result (c.format_of.ensures _ m) c.in_default.is)

pub returns : goal.returns
unfolding translate
returns c =
    let a = c.args in
    let m = machine a.storage.now a.keys.now in
    let here = formed (Interruption TranslationSpecification) _ _ (begin m _) c.format_of.result
    (c.format_of.ensures _ m) c.in-Some.is in
    last here
    (walk_ended (exception a.at) c.table_walk.result c.excepted.result a.storage.now c.table_walk.new.keys _ _
    c.excepted.ensures c.table_walk.ensures)
