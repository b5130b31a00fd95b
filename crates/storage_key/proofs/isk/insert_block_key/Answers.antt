use Rattle.std.proofs.Common.{ℕ}
use Rattle.rules.specs.InsertStorageKey.{insert_block_key}
use Rattle.storage.specs.Answers.{machine}
use Rattle.storage.proofs.Laws.{begin, fresh, finishes}
use Rattle.storage.proofs.Stages.{Asked, asks, given, ended_with}
use Rattle.storage_key.proofs.isk.insert_block_key.Goals as goal
use Rattle.storage_key.proofs.isk.insert_block_key.Goals.{After-consult_key}

-- step 11: the key
abbrev key : (c : After-consult_key)
    → Asked {S = Unit {0}} (λ u. machine c.args.storage.now c.args.keys.now)
    (λ u. insert_block_key c.args.guest c.args.page c.args.block) ℕ
unfolding insert_block_key
key c =
    let s = c.args.storage.now in
    asks tt _ _ (begin _ _) c.consult_key.result s c.consult_key.new.keys (fresh _ _ (c.consult_key.ensures s))

pub returns-in_err-key : goal.returns-in_err-key
unfolding insert_block_key key
returns-in_err-key c =
    ended_with (key (goal.at.returns-in_err-key c).After-consult_key) c.from_residual.result c.in_err-key.was
    c.from_residual.ensures.1

-- and steps 12 to 14
pub returns : goal.returns
unfolding insert_block_key key
returns c =
    let here = given (key (goal.at.returns c).After-consult_key) c.in_ok-key.was in
    finishes c.args.storage.now c.insert_key.new.keys here.runs c.after.ensures
    (simp c.of.ensures at c.insert_key.ensures)
