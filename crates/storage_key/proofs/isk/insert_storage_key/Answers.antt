use Rattle.std.proofs.Common.{ℕ}
use Rattle.rules.specs.declared.tables.FoundPage.{FoundPage}
use Rattle.rules.specs.InsertStorageKey.{insert_storage_key}
use Rattle.storage.specs.Answers.{machine}
use Rattle.storage.proofs.Laws.{begin, fresh, finishes}
use Rattle.storage.proofs.Stages.{Asked, asks, asks_after, given, ended_with}
use Rattle.storage_key.proofs.isk.insert_storage_key.Goals as goal
use Rattle.storage_key.proofs.isk.insert_storage_key.Goals.{After-segment_table, After-after}

-- steps 1 to 3
abbrev rseg : (c : After-segment_table)
    → Asked {S = Unit {0}} (λ u. machine c.args.storage.now c.args.keys.now) (λ u. insert_storage_key c.args.call) ℕ
unfolding insert_storage_key
rseg c =
    asks tt _ _ (begin _ _) c.segment_table.result c.args.storage.now c.segment_table.new.keys
    (fresh _ _ (simp (c.assists_keys.ensures) at c.segment_table.ensures))

pub returns-in_err-rseg : goal.returns-in_err-rseg
unfolding insert_storage_key rseg
returns-in_err-rseg c =
    ended_with (rseg (goal.at.returns-in_err-rseg c).After-segment_table) c.from_residual.result c.in_err-rseg.was
    c.from_residual.ensures.1

-- steps 4 to 10
abbrev found : (c : After-after)
    → Asked {S = Unit {0}} (λ u. machine c.args.storage.now c.args.keys.now) (λ u. insert_storage_key c.args.call)
    FoundPage
unfolding insert_storage_key rseg
found c =
    let here = given (rseg (goal.at.After-after c).After-segment_table) c.in_ok-rseg.was in
    asks_after tt _ _ here.runs c.find_page.result c.after.result c.args.storage.now c.find_page.new.keys
    c.after.ensures (simp (c.address_word-at.ensures) at c.find_page.ensures)

pub returns-in_err-found : goal.returns-in_err-found
unfolding insert_storage_key rseg found
returns-in_err-found c =
    ended_with (found (goal.at.returns-in_err-found c).After-after) c.from_residual-in_err-found.result
    c.in_err-found.was c.from_residual-in_err-found.ensures.1

-- the page is valid: steps 11 to 14
pub returns-in-Some : goal.returns-in-Some
unfolding insert_storage_key rseg found
returns-in-Some c =
    let here = given (found (goal.at.returns-in-Some c).After-after) c.in_ok-found.was in
    finishes c.args.storage.now c.insert_block_key.new.keys (simp c.in-Some.is at here.runs) c.after-in-Some.ensures
    c.insert_block_key.ensures

-- it is invalid: steps 12 to 14
pub returns-in-None : goal.returns-in-None
unfolding insert_storage_key rseg found
returns-in-None c =
    let here = given (found (goal.at.returns-in-None c).After-after) c.in_ok-found.was in
    finishes c.args.storage.now c.insert_key.new.keys (simp c.in-None.is at here.runs) c.after-in-None.ensures
    (simp c.none.ensures at c.insert_key.ensures)
