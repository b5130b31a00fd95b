use Rattle.std.proofs.Common.{ℕ, eq-eqb, ne_eqb}
use Rattle.rules.specs.SetSystemMask.{mask_operand}
use Rattle.storage.specs.Answers.{machine}
use Rattle.storage.proofs.Laws.{begin, fresh, pass, stops, last_after}
use Rattle.storage.proofs.Stages.{Asked, asks, asks_after, given, handed}
use Rattle.masks.proofs.ssm.mask_operand.Goals as goal
use Rattle.masks.proofs.ssm.mask_operand.Goals.{After-micblok_word, After-after, After-after-2}

-- step 1
pub returns-then-guest-ne2 : goal.returns-then-guest-ne2
unfolding mask_operand
returns-then-guest-ne2 c =
    rw c.refuse.ensures (stops _ _ _ (begin _ _) (simp (ne_eqb _ _ c.if-guest-ne2.true)))

-- step 2: MICCREG
abbrev creg : (c : After-micblok_word)
    → Asked {S = Unit {0}} (λ u. machine c.args.storage.now c.args.keys.now) (λ u. mask_operand c.args.guest) ℕ
unfolding mask_operand
creg c =
    asks tt _ _ (pass _ _ _ (begin _ _) (simp (eq-eqb _ _ c.if-guest-ne2.false))) c.micblok_word.result
    c.args.storage.now c.micblok_word.new.keys (fresh _ _ c.micblok_word.ensures)

pub returns-in_err-creg : goal.returns-in_err-creg
unfolding mask_operand creg
returns-in_err-creg c =
    handed (creg (goal.at.returns-in_err-creg c).After-micblok_word) c.from_residual.result c.in_err-creg.was
    c.from_residual.ensures.1

-- step 3: virtual control register 0
abbrev control : (c : After-after)
    → Asked {S = Unit {0}} (λ u. machine c.args.storage.now c.args.keys.now) (λ u. mask_operand c.args.guest) ℕ
unfolding mask_operand creg
control c =
    let here = given (creg (goal.at.After-after c).After-micblok_word) c.in_ok-creg.was in
    asks_after tt _ _ here.runs c.control_field.result c.after.result c.args.storage.now c.control_field.new.keys
    c.after.ensures (simp c.address_in-ecblok.ensures at c.control_field.ensures)

pub returns-in_err-control : goal.returns-in_err-control
unfolding mask_operand creg control
returns-in_err-control c =
    handed (control (goal.at.returns-in_err-control c).After-after) c.from_residual-in_err-control.result
    c.in_err-control.was c.from_residual-in_err-control.ensures.1

-- step 4
pub returns-then-control-eq1 : goal.returns-then-control-eq1
unfolding mask_operand creg control
returns-then-control-eq1 c =
    let here = given (control (goal.at.returns-then-control-eq1 c).After-after) c.in_ok-control.was in
    rw c.refuse-then-control-eq1.ensures (stops _ _ _ here.runs (eq-eqb _ _ c.if-control-eq1.true))

-- step 5: the second halfword
abbrev second : (c : After-after-2)
    → Asked {S = Unit {0}} (λ u. machine c.args.storage.now c.args.keys.now) (λ u. mask_operand c.args.guest) ℕ
unfolding mask_operand creg control
second c =
    let here = given (control (goal.at.After-after-2 c).After-after) c.in_ok-control.was in
    asks_after tt _ _ (pass _ _ _ here.runs (ne_eqb _ _ c.if-control-eq1.false)) c.second_halfword.result
    c.after-2.result c.args.storage.now c.second_halfword.new.keys c.after-2.ensures c.second_halfword.ensures

pub returns-in_err-second : goal.returns-in_err-second
unfolding mask_operand creg control second
returns-in_err-second c =
    handed (second (goal.at.returns-in_err-second c).After-after-2) c.from_residual-in_err-second.result
    c.in_err-second.was c.from_residual-in_err-second.ensures.1

-- step 6: the operand byte
pub returns : goal.returns
unfolding mask_operand creg control second
returns c =
    let here = given (second (goal.at.returns c).After-after-2) c.in_ok-second.was in
    last_after here.runs c.logical_fetch.result c.after-3.result c.args.storage.now c.logical_fetch.new.keys
    c.after-3.ensures (simp c.effective-operand.ensures at c.logical_fetch.ensures)
