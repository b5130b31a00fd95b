use Rattle.std.proofs.Common.{sym, ap, ◌∙◌}
use Rattle.access.specs.Walks.{over_walk}
use Rattle.rules.specs.LoadRealAddress.{load_by}
use Rattle.storage.specs.Answers.{machine}
use Rattle.storage.proofs.Laws.{begin, fresh, goes, ends, finishes, over_finished}
use Rattle.real_address.proofs.lra.load_by.Goals as goal

-- a real address
pub returns-in-Ok : goal.returns-in-Ok
unfolding load_by
returns-in-Ok c =
    let s = c.args.storage.now in
    let ks = c.virtual_walk.new.keys in
    finishes s ks (goes _ _ (begin _ _) (fresh _ _ c.in-Ok.ensures)) c.after.ensures (c.loaded.ensures s ks)

-- what is wrong with the tables
pub returns-in-Fault : goal.returns-in-Fault
unfolding load_by
returns-in-Fault c =
    let s = c.args.storage.now in
    let ks = c.virtual_walk.new.keys in
    let came = ap (λ x. over_walk x c.in-Err.end.count (machine s ks)) (sym c.in-Fault.is) ∙ c.in-Err.ensures in
    finishes s ks (goes _ _ (begin _ _) (fresh _ _ came)) c.after-in-Fault.ensures (c.faulted.ensures s ks)

-- an ending
pub returns-in-Ended : goal.returns-in-Ended
unfolding load_by
returns-in-Ended c =
    let s = c.args.storage.now in
    let ks = c.virtual_walk.new.keys in
    let came = ap (λ x. over_walk x c.in-Err.end.count (machine s ks)) (sym c.in-Ended.is) ∙ c.in-Err.ensures in
    rw c.stop.ensures (over_finished s ks (ends _ _ (begin _ _) (fresh _ _ came)))
