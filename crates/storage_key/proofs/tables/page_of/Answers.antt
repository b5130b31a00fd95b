use Rattle.std.proofs.Common.{ℕ, not, ◌&&◌}
use Rattle.rules.specs.SwapTables.{page_of}
use Rattle.storage.specs.Answers.{machine}
use Rattle.storage.proofs.Laws.{begin, fresh, settles}
use Rattle.storage.proofs.Stages.{Asked, Tested, asks, given, tests, passed, stopped, handed}
use Rattle.storage_key.proofs.tables.page_of.Goals as goal
use Rattle.storage_key.proofs.tables.page_of.Goals.{After-page_entry, After-is_malformed}

-- step 9
abbrev page : (c : After-page_entry)
    → Asked {S = Unit {0}} (λ u. machine c.args.storage.now c.args.keys.now)
    (λ u. page_of c.args.numbers c.args.format c.args.segment c.args.at) ℕ
unfolding page_of
page c =
    asks tt _ _ (begin _ _) c.page_entry.result c.args.storage.now c.page_entry.new.keys
    (fresh _ _ c.page_entry.ensures)

pub returns-in_err-page : goal.returns-in_err-page
unfolding page_of page
returns-in_err-page c =
    handed (page (goal.at.returns-in_err-page c).After-page_entry) c.from_residual.result c.in_err-page.was
    c.from_residual.ensures.1

-- step 10
abbrev form : (c : After-is_malformed)
    → Tested {S = Unit {0}} (λ u. machine c.args.storage.now c.args.keys.now)
    (λ u. page_of c.args.numbers c.args.format c.args.segment c.args.at)
unfolding page_of page
form c =
    let here = given (page (goal.at.After-is_malformed c).After-page_entry) c.in_ok-page.was in
    tests tt _ _ _ here.runs (not c.is_invalid.result && c.is_malformed.result)
    (simp (c.is_invalid.ensures, c.is_malformed.ensures))

pub returns-then-is_invalid-is_malformed : goal.returns-then-is_invalid-is_malformed
unfolding page_of page form
returns-then-is_invalid-is_malformed c =
    rw c.refuse.ensures (stopped (form (goal.at.returns-then-is_invalid-is_malformed c).After-is_malformed)
    c.if-is_invalid-is_malformed.true)

pub returns : goal.returns
unfolding page_of page form
returns c = settles _ (passed (form (goal.at.returns c).After-is_malformed) c.if-is_invalid-is_malformed.false).runs
