use Rattle.std.proofs.Common.{ℕ}
use Rattle.rules.specs.StoreThenMask.{byte_operand}
use Rattle.storage.specs.Answers.{machine}
use Rattle.storage.proofs.Laws.{begin, fresh, refuses, last_after}
use Rattle.storage.proofs.Stages.{Asked, asks, given, handed}
use Rattle.masks.proofs.stnsm_stosm.byte_operand.Goals as goal
use Rattle.masks.proofs.stnsm_stosm.byte_operand.Goals.{After-refused}

-- step 5: the second halfword, every ending of which refuses
abbrev second : (c : After-refused)
    → Asked {S = Unit {0}} (λ u. machine c.args.storage.now c.args.keys.now) (λ u. byte_operand c.args.guest) ℕ
unfolding byte_operand
second c =
    let s = c.args.storage.now in
    let ks = c.second_halfword.new.keys in
    asks tt _ _ (begin _ _) c.refused.result s ks
    (fresh _ _ (refuses c.second_halfword.result c.refused.result s ks _ _ c.refused.ensures c.second_halfword.ensures))

pub returns-in_err-second : goal.returns-in_err-second
unfolding byte_operand second
returns-in_err-second c =
    handed (second (goal.at.returns-in_err-second c).After-refused) c.from_residual.result c.in_err-second.was
    c.from_residual.ensures.1

-- step 6: the store test
pub returns : goal.returns
unfolding byte_operand second
returns c =
    let here = given (second (goal.at.returns c).After-refused) c.in_ok-second.was in
    last_after here.runs c.store_test.result c.after.result c.args.storage.now c.store_test.new.keys c.after.ensures
    (simp c.effective.ensures at c.store_test.ensures)
