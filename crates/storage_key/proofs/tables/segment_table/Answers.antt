use Rattle.std.proofs.Common.{ℕ, not, ap, eq-eqb, ne_eqb}
use Rattle.rules.specs.SwapTables.{segment_table}
use Rattle.storage.specs.Answers.{machine}
use Rattle.storage.proofs.Laws.{begin, fresh, pass, stops, settles}
use Rattle.storage.proofs.Stages.{Asked, asks, given, handed}
use Rattle.storage_key.proofs.tables.segment_table.Goals as goal
use Rattle.storage_key.proofs.tables.segment_table.Goals.{After-micblok_word}

-- step 1
pub returns-then-not-assists : goal.returns-then-not-assists
unfolding segment_table
returns-then-not-assists c = rw c.refuse.ensures (stops _ _ _ (begin _ _) (ap not c.if-not-assists.true))

-- step 2: MICRSEG
abbrev rseg : (c : After-micblok_word)
    → Asked {S = Unit {0}} (λ u. machine c.args.storage.now c.args.keys.now)
    (λ u. segment_table c.args.assists c.args.numbers c.args.guest) ℕ
unfolding segment_table
rseg c =
    asks tt _ _ (pass _ _ _ (begin _ _) (ap not c.if-not-assists.false)) c.micblok_word.result c.args.storage.now
    c.micblok_word.new.keys (fresh _ _ c.micblok_word.ensures)

pub returns-in_err-rseg : goal.returns-in_err-rseg
unfolding segment_table rseg
returns-in_err-rseg c =
    handed (rseg (goal.at.returns-in_err-rseg c).After-micblok_word) c.from_residual.result c.in_err-rseg.was
    c.from_residual.ensures.1

-- step 3
pub returns-then-rseg-eq1 : goal.returns-then-rseg-eq1
unfolding segment_table rseg
returns-then-rseg-eq1 c =
    let here = given (rseg (goal.at.returns-then-rseg-eq1 c).After-micblok_word) c.in_ok-rseg.was in
    rw c.refuse-then-rseg-eq1.ensures (stops _ _ _ here.runs (eq-eqb _ _ c.if-rseg-eq1.true))

pub returns : goal.returns
unfolding segment_table rseg
returns c =
    let here = given (rseg (goal.at.returns c).After-micblok_word) c.in_ok-rseg.was in
    settles _ (pass _ _ _ here.runs (ne_eqb _ _ c.if-rseg-eq1.false))
