use Rattle.std.proofs.Common.{refl, ℕ}
use lib.Bits.{bit_or}
use Rattle.rules.specs.Bits.{bits}
use Rattle.rules.specs.declared.record_change.RecordChange.TheVariants.{ConditionCode}
use Rattle.rules.specs.declared.tables.FoundPage.{FoundPage}
use Rattle.rules.specs.SwapTables.{virtual_key}
use Rattle.rules.specs.ResetReferenceBit.{store_reset, reset_reference_bit}
use Rattle.storage_key.proofs.Way.{swap_there}
use Rattle.storage.specs.Answers.{machine}
use Rattle.storage.proofs.Laws.{begin, fresh, completes_as, finishes}
use Rattle.storage.proofs.Stages.{Asked, asks, asks_after, given, ended_with}
use Rattle.storage_key.proofs.rrb.reset_reference_bit.Goals as goal
use Rattle.storage_key.proofs.rrb.reset_reference_bit.Goals.{After-segment_table, After-after, After-after-2}

-- steps 1 to 3
abbrev rseg : (c : After-segment_table)
    → Asked {S = Unit {0}} (λ u. machine c.args.storage.now c.args.keys.now) (λ u. reset_reference_bit c.args.call) ℕ
unfolding reset_reference_bit
rseg c =
    asks tt _ _ (begin _ _) c.segment_table.result c.args.storage.now c.segment_table.new.keys
    (fresh _ _ (simp (c.assists_control.ensures) at c.segment_table.ensures))

pub returns-in_err-rseg : goal.returns-in_err-rseg
unfolding reset_reference_bit rseg
returns-in_err-rseg c =
    ended_with (rseg (goal.at.returns-in_err-rseg c).After-segment_table) c.from_residual.result c.in_err-rseg.was
    c.from_residual.ensures.1

-- step 4: the second halfword
abbrev second : (c : After-after)
    → Asked {S = Unit {0}} (λ u. machine c.args.storage.now c.args.keys.now) (λ u. reset_reference_bit c.args.call) ℕ
unfolding reset_reference_bit rseg
second c =
    let here = given (rseg (goal.at.After-after c).After-segment_table) c.in_ok-rseg.was in
    asks_after tt _ _ here.runs c.second_halfword.result c.after.result c.args.storage.now
    c.second_halfword.new.keys c.after.ensures c.second_halfword.ensures

pub returns-in_err-second : goal.returns-in_err-second
unfolding reset_reference_bit rseg second
returns-in_err-second c =
    ended_with (second (goal.at.returns-in_err-second c).After-after) c.from_residual-in_err-second.result
    c.in_err-second.was c.from_residual-in_err-second.ensures.1

-- steps 5 to 11
abbrev found : (c : After-after-2)
    → Asked {S = Unit {0}} (λ u. machine c.args.storage.now c.args.keys.now) (λ u. reset_reference_bit c.args.call)
    FoundPage
unfolding reset_reference_bit rseg second
found c =
    let here = given (second (goal.at.After-after-2 c).After-after) c.in_ok-second.was in
    asks_after tt _ _ here.runs c.find_page.result c.after-2.result c.args.storage.now c.find_page.new.keys
    c.after-2.ensures (simp (c.effective-at.ensures) at c.find_page.ensures)

pub returns-in_err-found : goal.returns-in_err-found
unfolding reset_reference_bit rseg second found
returns-in_err-found c =
    ended_with (found (goal.at.returns-in_err-found c).After-after-2) c.from_residual-in_err-found.result
    c.in_err-found.was c.from_residual-in_err-found.ensures.1

-- the page is valid: steps 12 and 13. The way fetched the swap word, so it is there
pub reset_block_key-requires : goal.reset_block_key-requires
unfolding reset_reference_bit rseg second found
reset_block_key-requires c =
    let asked = found (goal.at.reset_block_key-requires c).After-after-2 in
    swap_there asked c.in_ok-found.was _ _ _ refl

pub returns-in-Some : goal.returns-in-Some
unfolding reset_reference_bit rseg second found
returns-in-Some c =
    let here = given (found (goal.at.returns-in-Some c).After-after-2) c.in_ok-found.was in
    finishes c.reset_block_key.new.storage c.reset_block_key.new.keys (simp c.in-Some.is at here.runs)
    c.after-in-Some.ensures c.reset_block_key.ensures

-- it is invalid: step 13 alone
pub put_swap_word-requires : goal.put_swap_word-requires
unfolding reset_reference_bit rseg second found
put_swap_word-requires c =
    let asked = found (goal.at.put_swap_word-requires c).After-after-2 in
    swap_there asked c.in_ok-found.was _ _ _ refl

pub returns-in-None : goal.returns-in-None
unfolding reset_reference_bit store_reset rseg second found
returns-in-None c =
    let here = given (found (goal.at.returns-in-None c).After-after-2) c.in_ok-found.was in
    completes_as (ConditionCode (bit_or 0 (bits 8 5 6 (virtual_key c.in_ok-found.found.value))))
    c.put_swap_word.new.storage c.put_swap_word.new.keys _ (simp c.in-None.is at here.runs)
    (simp (c.marks_with.ensures, c.none-in-None.ensures) at c.completed_as.ensures)
    (simp (c.reset_word.ensures, c.none.ensures) at c.put_swap_word.ensures)
