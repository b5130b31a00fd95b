use Rattle.std.proofs.Common.{ℕ, eq-eqb, ne_eqb}
use Rattle.rules.specs.StoreControl.{word_operand}
use Rattle.storage.specs.Answers.{machine}
use Rattle.storage.proofs.Laws.{begin, fresh, pass, stops, settles}
use Rattle.storage.proofs.Stages.{Asked, asks, given, handed}
use Rattle.control.proofs.operand.word_operand.Goals as goal
use Rattle.control.proofs.operand.word_operand.Goals.{After-second_halfword}

-- step 3: the second halfword
abbrev second : (c : After-second_halfword)
    → Asked {S = Unit {0}} (λ u. machine c.args.storage.now c.args.keys.now) (λ u. word_operand c.args.guest) ℕ
unfolding word_operand
second c =
    asks tt _ _ (begin _ _) c.second_halfword.result c.args.storage.now c.second_halfword.new.keys
    (fresh _ _ c.second_halfword.ensures)

pub returns-in_err-second : goal.returns-in_err-second
unfolding word_operand second
returns-in_err-second c =
    handed (second (goal.at.returns-in_err-second c).After-second_halfword) c.from_residual.result c.in_err-second.was
    c.from_residual.ensures.1

-- step 4
pub returns-then-at-ne0 : goal.returns-then-at-ne0
unfolding word_operand second
returns-then-at-ne0 c =
    let here = given (second (goal.at.returns-then-at-ne0 c).After-second_halfword) c.in_ok-second.was in
    rw c.refuse.ensures (stops _ _ _ here.runs (simp (ne_eqb _ _ (simp c.effective-at.ensures at c.if-at-ne0.true))))

pub returns : goal.returns
unfolding word_operand second
returns c =
    let here = given (second (goal.at.returns c).After-second_halfword) c.in_ok-second.was in
    let at = c.effective-at.ensures in
    simp at (settles _ (pass _ _ _ here.runs (simp (eq-eqb _ _ (simp at at c.if-at-ne0.false)))))
