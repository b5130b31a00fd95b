use Rattle.rules.specs.Endings.{refuse}
use Rattle.rules.specs.SwapTables.{segment_of}
use Rattle.storage.specs.Answers.{machine}
use Rattle.access.proofs.Paths.{walk_ended}
use Rattle.storage_key.proofs.tables.segment_of.Goals as goal

pub returns : goal.returns
unfolding segment_of
returns c =
    let a = c.args in
    walk_ended (λ fault. refuse) c.segment_walk.result c.faults_refused.result a.storage.now
    c.segment_walk.new.keys _ (machine a.storage.now a.keys.now) c.faults_refused.ensures
    c.segment_walk.ensures
