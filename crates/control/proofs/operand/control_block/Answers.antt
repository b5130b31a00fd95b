use Rattle.std.proofs.Common.{ℕ, not, sym, ap, ◌∙◌}
use Rattle.rules.specs.StoreControl.{control_block}
use Rattle.storage.specs.Answers.{machine}
use Rattle.storage.proofs.Laws.{begin, fresh, pass, stops, settles}
use Rattle.storage.proofs.Stages.{Asked, asks, given, handed}
use Rattle.control.proofs.operand.control_block.Goals as goal
use Rattle.control.proofs.operand.control_block.Goals.{After-micblok_word}

-- step 2: MICCREG
abbrev creg : (c : After-micblok_word)
    → Asked {S = Unit {0}} (λ u. machine c.args.storage.now c.args.keys.now) (λ u. control_block c.args.guest) ℕ
unfolding control_block
creg c =
    asks tt _ _ (pass _ _ _ (begin _ _) (ap not (sym c.assists_control.ensures ∙ c.if-not-assists_control.false)))
    c.micblok_word.result c.args.storage.now c.micblok_word.new.keys (fresh _ _ c.micblok_word.ensures)

-- step 1
pub returns-then-not-assists_control : goal.returns-then-not-assists_control
unfolding control_block
returns-then-not-assists_control c =
    rw c.refuse.ensures (stops _ _ _ (begin _ _) (ap not
    (sym c.assists_control.ensures ∙ c.if-not-assists_control.true)))

pub returns-in_err-creg : goal.returns-in_err-creg
unfolding control_block creg
returns-in_err-creg c =
    handed (creg (goal.at.returns-in_err-creg c).After-micblok_word) c.from_residual.result c.in_err-creg.was
    c.from_residual.ensures.1

pub returns : goal.returns
unfolding control_block creg
returns c =
    rw c.address_in.ensures (settles _ (given (creg (goal.at.returns c).After-micblok_word) c.in_ok-creg.was).runs)
