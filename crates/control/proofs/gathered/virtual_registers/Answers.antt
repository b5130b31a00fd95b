use Rattle.std.proofs.Common.{◌≡◌, ℕ, ◌+◌, refl, arith}
use Rattle.rules.specs.StoreControl.{virtual_registers}
use Rattle.storage.specs.Answers.{machine}
use Rattle.storage.proofs.Stages.{Asked, given}
use Rattle.control.proofs.Turns.{gathering_none, asked_turn, gathering_more, gathering_all, gathering_ended}
use Rattle.control.proofs.gathered.virtual_registers.Goals as goal
use Rattle.control.proofs.gathered.virtual_registers.Goals.{After-after}

-- the fetch of a turn
abbrev fetched : (c : After-after)
    → Asked {S = Unit {0}} (λ u. machine c.args.storage.now c.args.keys.now)
    (λ u. virtual_registers c.args.ecblok c.args.first c.args.n) ℕ
fetched c =
    asked_turn _ _ c.loop-i.invariant c.loop-i-test.true c.control_field.result c.after.result
    c.args.storage.now c.control_field.new.keys c.after.ensures (simp c.sum-at.ensures at c.control_field.ensures)

pub loop-i-init : goal.loop-i-init
loop-i-init c =
    let e : c.args.first + 0 ≡ c.args.first = omega arith in rw e (gathering_none _ _ _ _ _ _ _ refl)

pub returns-in_err-word : goal.returns-in_err-word
returns-in_err-word c =
    gathering_ended (fetched (goal.at.returns-in_err-word c).After-after) c.args.n
    c.from_residual.result c.in_err-word.was c.from_residual.ensures.1

pub loop-i-preserved : goal.loop-i-preserved
loop-i-preserved c =
    let l = c.loop-i in
    let e : c.args.first + (l.i + 1) ≡ c.args.first + l.i + 1 = omega arith in
    rw e (gathering_more _ _ l.invariant _ _ c.loop-i-test.true (omega arith) c.control_field.auto.keys
    (given (fetched (goal.at.loop-i-preserved c).After-after) c.in_ok-word.was).runs)

pub returns : goal.returns
returns c = gathering_all _ _ c.loop-i.invariant (omega arith)
