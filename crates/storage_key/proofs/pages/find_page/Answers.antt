use Rattle.std.proofs.Common.{ℕ}
use Rattle.rules.specs.SwapTables.{find_page}
use Rattle.storage.specs.Answers.{machine}
use Rattle.storage.proofs.Laws.{begin, fresh, settles}
use Rattle.storage.proofs.Stages.{Asked, asks, asks_after, given, handed}
use Rattle.storage_key.proofs.pages.find_page.Goals as goal
use Rattle.storage_key.proofs.pages.find_page.Goals.{After-segment_of, After-after, After-after-2, After-after-3}

-- steps 4 to 6
abbrev segment : (c : After-segment_of)
    → Asked {S = Unit {0}} (λ u. machine c.args.storage.now c.args.keys.now)
    (λ u. find_page c.args.numbers c.args.rseg c.args.at) ℕ
unfolding find_page
segment c =
    asks tt _ _ (begin _ _) c.segment_of.result c.args.storage.now c.segment_of.new.keys
    (fresh _ _ (simp c.format_in-format.ensures at c.segment_of.ensures))

pub returns-in_err-segment : goal.returns-in_err-segment
unfolding find_page segment
returns-in_err-segment c =
    handed (segment (goal.at.returns-in_err-segment c).After-segment_of) c.from_residual.result c.in_err-segment.was
    c.from_residual.ensures.1

-- step 7: the address of the swap word
abbrev place : (c : After-after)
    → Asked {S = Unit {0}} (λ u. machine c.args.storage.now c.args.keys.now)
    (λ u. find_page c.args.numbers c.args.rseg c.args.at) ℕ
unfolding find_page segment
place c =
    let here = given (segment (goal.at.After-after c).After-segment_of) c.in_ok-segment.was in
    asks_after tt _ _ here.runs c.swap_word_at.result c.after.result c.args.storage.now c.swap_word_at.new.keys
    c.after.ensures (simp c.format_in-format.ensures at c.swap_word_at.ensures)

pub returns-in_err-place : goal.returns-in_err-place
unfolding find_page segment place
returns-in_err-place c =
    handed (place (goal.at.returns-in_err-place c).After-after) c.from_residual-in_err-place.result
    c.in_err-place.was c.from_residual-in_err-place.ensures.1

-- step 8: the swap word
abbrev swap : (c : After-after-2)
    → Asked {S = Unit {0}} (λ u. machine c.args.storage.now c.args.keys.now)
    (λ u. find_page c.args.numbers c.args.rseg c.args.at) ℕ
unfolding find_page segment place
swap c =
    let here = given (place (goal.at.After-after-2 c).After-after) c.in_ok-place.was in
    asks_after tt _ _ here.runs c.control_field.result c.after-2.result c.args.storage.now c.control_field.new.keys
    c.after-2.ensures c.control_field.ensures

pub returns-in_err-swap : goal.returns-in_err-swap
unfolding find_page segment place swap
returns-in_err-swap c =
    handed (swap (goal.at.returns-in_err-swap c).After-after-2) c.from_residual-in_err-swap.result
    c.in_err-swap.was c.from_residual-in_err-swap.ensures.1

-- steps 9 and 10: the page entry
abbrev page : (c : After-after-3)
    → Asked {S = Unit {0}} (λ u. machine c.args.storage.now c.args.keys.now)
    (λ u. find_page c.args.numbers c.args.rseg c.args.at) ℕ
unfolding find_page segment place swap
page c =
    let here = given (swap (goal.at.After-after-3 c).After-after-2) c.in_ok-swap.was in
    asks_after tt _ _ here.runs c.page_of.result c.after-3.result c.args.storage.now c.page_of.new.keys
    c.after-3.ensures (simp c.format_in-format.ensures at c.page_of.ensures)

pub returns-in_err-page : goal.returns-in_err-page
unfolding find_page segment place swap page
returns-in_err-page c =
    handed (page (goal.at.returns-in_err-page c).After-after-3) c.from_residual-in_err-page.result
    c.in_err-page.was c.from_residual-in_err-page.ensures.1

pub returns : goal.returns
unfolding find_page segment place swap page
returns c =
    simp (c.found_page.ensures, c.format_in-format.ensures)
    (settles _ (given (page (goal.at.returns c).After-after-3) c.in_ok-page.was).runs)
