use Rattle.std.proofs.Common.{ℕ, refl, arith}
use Rattle.rules.specs.StoreControl.{operand_words}
use Rattle.storage.specs.Answers.{machine}
use Rattle.storage.proofs.Stages.{Asked, given}
use Rattle.control.proofs.Turns.{gathering_none, asked_turn, gathering_more, gathering_all, gathering_ended}
use Rattle.control.proofs.gathered.operand_words.Goals as goal
use Rattle.control.proofs.gathered.operand_words.Goals.{After-after}

-- the store test of a turn
abbrev tested : (c : After-after)
    → Asked {S = Unit {0}} (λ u. machine c.args.storage.now c.args.keys.now)
    (λ u. operand_words c.args.guest c.args.address c.args.n) ℕ
tested c =
    asked_turn _ _ c.loop-i.invariant c.loop-i-test.true c.store_test.result c.after.result
    c.args.storage.now c.store_test.new.keys c.after.ensures c.store_test.ensures

pub loop-i-init : goal.loop-i-init
loop-i-init c = gathering_none _ _ _ _ _ _ _ refl

pub returns-in_err-real : goal.returns-in_err-real
returns-in_err-real c =
    gathering_ended (tested (goal.at.returns-in_err-real c).After-after) c.args.n
    c.from_residual.result c.in_err-real.was c.from_residual.ensures.1

pub loop-i-preserved : goal.loop-i-preserved
loop-i-preserved c =
    rw c.sum-at.ensures (gathering_more _ _ c.loop-i.invariant _ _ c.loop-i-test.true (omega arith)
    c.store_test.auto.keys (given (tested (goal.at.loop-i-preserved c).After-after) c.in_ok-real.was).runs)

pub returns : goal.returns
returns c = gathering_all _ _ c.loop-i.invariant (omega arith)
