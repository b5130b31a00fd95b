use Rattle.std.proofs.Common.{ℕ, length}
use Rattle.rules.specs.SetSystemMask.{set_system_mask}
use Rattle.rules.proofs.Present.Masks.{mask_target-gives}
use Rattle.storage.specs.Answers.{machine}
use Rattle.storage.proofs.Laws.{begin, fresh, completes}
use Rattle.storage.proofs.Stages.{Asked, asks, asks_after, given, sure, ended_with}
use Rattle.masks.proofs.ssm.set_system_mask.Goals as goal
use Rattle.masks.proofs.ssm.set_system_mask.Goals.{After-mask_operand, After-after}

-- steps 1 to 6
abbrev operand : (c : After-mask_operand)
    → Asked {S = Unit {0}} (λ u. machine c.args.storage.now c.args.keys.now) (λ u. set_system_mask c.args.call) ℕ
unfolding set_system_mask
operand c =
    asks tt _ _ (begin _ _) c.mask_operand.result c.args.storage.now c.mask_operand.new.keys
    (fresh _ _ c.mask_operand.ensures)

pub returns-in_err-new : goal.returns-in_err-new
unfolding set_system_mask operand
returns-in_err-new c =
    ended_with (operand (goal.at.returns-in_err-new c).After-mask_operand) c.from_residual.result c.in_err-new.was
    c.from_residual.ensures.1

-- steps 7 to 9
abbrev target : (c : After-after)
    → Asked {S = Unit {0}} (λ u. machine c.args.storage.now c.args.keys.now) (λ u. set_system_mask c.args.call) ℕ
unfolding set_system_mask operand
target c =
    let here = given (operand (goal.at.After-after c).After-mask_operand) c.in_ok-new.was in
    asks_after tt _ _ here.runs c.mask_target.result c.after.result c.args.storage.now c.mask_target.new.keys
    c.after.ensures c.mask_target.ensures

pub returns-in_err-at : goal.returns-in_err-at
unfolding set_system_mask operand target
returns-in_err-at c =
    ended_with (target (goal.at.returns-in_err-at c).After-after) c.from_residual-in_err-at.result c.in_err-at.was
    c.from_residual-in_err-at.ensures.1

-- step 10: the virtual PSW was fetched, so its first byte is there
pub put_mask-requires : goal.put_mask-requires
unfolding set_system_mask operand target
put_mask-requires c =
    let asked = target (goal.at.put_mask-requires c).After-after in
    sure _ asked c.in_ok-at.was (mask_target-gives (length asked.left.storage) (length asked.left.keys) _ _)

pub returns : goal.returns
unfolding set_system_mask operand target
returns c =
    let here = given (target (goal.at.returns c).After-after) c.in_ok-at.was in
    completes c.put_mask.new.storage c.put_mask.new.keys _ here.runs c.completed.ensures c.put_mask.ensures
