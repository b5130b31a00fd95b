use Rattle.std.proofs.Common.{ap, ◌∙◌}
use Rattle.rules.specs.Endings.{refuse}
use Rattle.rules.specs.declared.endings.Ending.TheVariants.{FieldMissing}
use Rattle.rules.specs.Translation.{entry_of, table_walk}
use Rattle.rules.specs.LoadRealAddress.{real_by}
use Rattle.storage.specs.Answers.{machine, seen}
use Rattle.access.proofs.Paths.{walk_ended}
use Rattle.access.proofs.virtual_tables.Virtual.real_by.Goals as goal

pub returns : goal.returns
unfolding real_by
returns c =
    let a = c.args in
    let v = a.self in
    let s = a.storage.now in
    walk_ended (λ fault. refuse) c.table_walk.result c.faults_refused.result s c.table_walk.new.keys _ _
    c.faults_refused.ensures
    (c.table_walk.ensures
    ∙ ap (λ f. seen (table_walk (entry_of 4 (FieldMissing v.segment)) (entry_of 2 (FieldMissing v.page)) f v.rseg a.at)
    (machine s a.keys.now))
    c.real_format-format.ensures)
