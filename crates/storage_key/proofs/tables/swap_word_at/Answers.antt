use Rattle.std.proofs.Common.{ℕ}
use Rattle.rules.specs.SwapTables.{swap_word_at}
use Rattle.storage.specs.Answers.{machine}
use Rattle.storage.proofs.Laws.{begin, fresh, settles}
use Rattle.storage.proofs.Stages.{Asked, asks, given, handed}
use Rattle.storage_key.proofs.tables.swap_word_at.Goals as goal
use Rattle.storage_key.proofs.tables.swap_word_at.Goals.{After-control_field}

-- the word that names the swap table
abbrev table : (c : After-control_field)
    → Asked {S = Unit {0}} (λ u. machine c.args.storage.now c.args.keys.now)
    (λ u. swap_word_at c.args.numbers c.args.format c.args.segment c.args.at) ℕ
unfolding swap_word_at
table c =
    asks tt _ _ (begin _ _) c.control_field.result c.args.storage.now c.control_field.new.keys
    (fresh _ _ (simp (c.difference-place.ensures, c.page_table.ensures) at c.control_field.ensures))

pub returns-in_err-table : goal.returns-in_err-table
unfolding swap_word_at table
returns-in_err-table c =
    handed (table (goal.at.returns-in_err-table c).After-control_field) c.from_residual.result c.in_err-table.was
    c.from_residual.ensures.1

pub returns : goal.returns
unfolding swap_word_at table
returns c =
    simp (c.sum.ensures, c.address_in.ensures, c.page_index-offset.ensures.0)
    (settles _ (given (table (goal.at.returns c).After-control_field) c.in_ok-table.was).runs)
