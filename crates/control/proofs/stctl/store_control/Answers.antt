use Rattle.std.proofs.Common.{◌≡◌, ◌≤◌, rules, length-take, ℕ, List, length, take, sym, ap, ◌∙◌, arith}
use Rattle.rules.specs.declared.call.Call.{Call}
use Rattle.rules.specs.Call.{r1, r3}
use Rattle.rules.specs.StoreControl.{register_count, word_stores, store_control}
use Rattle.storage.specs.Answers.{machine, completion}
use Rattle.storage.proofs.Laws.{begin, fresh, completes}
use Rattle.storage.proofs.Stages.{Asked, asks, asks_after, given, ended_with}
use Rattle.control.specs.Gathered.{first_words}
use Rattle.control.proofs.Turns.{first_later}
use Rattle.control.proofs.Words.{stores_length}
use Rattle.control.proofs.stctl.store_control.Goals as goal
use Rattle.control.proofs.stctl.store_control.Goals.{After-control_block, After-after, After-register_count-n, After-after-2, After-after-3}

-- steps 1 and 2
abbrev block : (c : After-control_block)
    → Asked {S = Unit {0}} (λ u. machine c.args.storage.now c.args.keys.now) (λ u. store_control c.args.call) ℕ
unfolding store_control
block c =
    asks tt _ _ (begin _ _) c.control_block.result c.args.storage.now c.control_block.new.keys
    (fresh _ _ c.control_block.ensures)

pub returns-in_err-ecblok : goal.returns-in_err-ecblok
unfolding store_control block
returns-in_err-ecblok c =
    ended_with (block (goal.at.returns-in_err-ecblok c).After-control_block) c.from_residual.result c.in_err-ecblok.was
    c.from_residual.ensures.1

-- steps 3 and 4
abbrev operand : (c : After-after)
    → Asked {S = Unit {0}} (λ u. machine c.args.storage.now c.args.keys.now) (λ u. store_control c.args.call) ℕ
unfolding store_control block
operand c =
    let here = given (block (goal.at.After-after c).After-control_block) c.in_ok-ecblok.was in
    asks_after tt _ _ here.runs c.word_operand.result c.after.result c.args.storage.now c.word_operand.new.keys
    c.after.ensures c.word_operand.ensures

pub returns-in_err-address : goal.returns-in_err-address
unfolding store_control block operand
returns-in_err-address c =
    ended_with (operand (goal.at.returns-in_err-address c).After-after) c.from_residual-in_err-address.result
    c.in_err-address.was c.from_residual-in_err-address.ensures.1

-- how many registers
abbrev wanted : Call → ℕ
wanted call = register_count (r1 call) (r3 call)

counted : (c : After-register_count-n) → c.register_count-n.result ≡ wanted c.args.call
counted c = simp (c.r1-first.ensures, c.r2.ensures) at c.register_count-n.ensures.0

-- step 5: the registers
abbrev registers : (c : After-after-2)
    → Asked {S = Unit {0}} (λ u. machine c.args.storage.now c.args.keys.now) (λ u. store_control c.args.call) (List ℕ)
unfolding store_control block operand
registers c =
    let here = given (operand (goal.at.After-after-2 c).After-after) c.in_ok-address.was in
    let n = wanted c.args.call in
    let r = c.virtual_registers.result in
    asks_after tt _ _ here.runs (first_words n r) (first_words n c.after-2.result) c.args.storage.now
    c.virtual_registers.new.keys (ap (first_words n) c.after-2.ensures ∙ first_later n _ r)
    (simp (counted (goal.at.After-after-2 c).After-register_count-n, c.r1-first.ensures) at
    c.virtual_registers.ensures)

pub returns-in_err-values : goal.returns-in_err-values
unfolding store_control block operand registers
returns-in_err-values c =
    ended_with (registers (goal.at.returns-in_err-values c).After-after-2) c.from_residual-in_err-values.result
    (ap (first_words (wanted c.args.call)) c.in_err-values.was) c.from_residual-in_err-values.ensures.1

-- and the operand words
abbrev words : (c : After-after-3)
    → Asked {S = Unit {0}} (λ u. machine c.args.storage.now c.args.keys.now) (λ u. store_control c.args.call) (List ℕ)
unfolding store_control block operand registers
words c =
    let n = wanted c.args.call in
    let here = given (registers (goal.at.After-after-3 c).After-after-2) (ap (first_words n) c.in_ok-values.was) in
    let r = c.operand_words.result in
    asks_after tt _ _ here.runs (first_words n r) (first_words n c.after-3.result) c.args.storage.now
    c.operand_words.new.keys (ap (first_words n) c.after-3.ensures ∙ first_later n _ r)
    (simp (counted (goal.at.After-after-3 c).After-register_count-n) at c.operand_words.ensures)

pub returns-in_err-reals : goal.returns-in_err-reals
unfolding store_control block operand registers words
returns-in_err-reals c =
    ended_with (words (goal.at.returns-in_err-reals c).After-after-3) c.from_residual-in_err-reals.result
    (ap (first_words (wanted c.args.call)) c.in_err-reals.was) c.from_residual-in_err-reals.ensures.1

-- and only then the stores: as many as registers
stored : (reals values : List ℕ) (n : ℕ) → n ≤ 16 → length reals ≡ 16 → length values ≡ 16
    → length (word_stores (take n reals) (take n values)) ≡ n
stored reals values n small h k =
    let e : length (take n reals) ≡ n = simp length-take (omega arith) in
    let f : length (take n values) ≡ n = simp length-take (omega arith) in
    stores_length (take n reals) (take n values) (e ∙ sym f) ∙ e

pub returns : goal.returns
unfolding store_control block operand registers words
returns c =
    let n = wanted c.args.call in
    let here = given (words (goal.at.returns c).After-after-3) (ap (first_words n) c.in_ok-reals.was) in
    let e = counted (goal.at.returns c).After-register_count-n in
    let small : n ≤ 16 = rw e at c.register_count-n.ensures.1 in
    let reals = c.in_ok-reals.reals.value in
    let values = c.in_ok-values.values.value in
    let h : length reals ≡ 16 = search rules in
    let k : length values ≡ 16 = search rules in
    completes c.store_words.new.storage c.store_words.new.keys _ here.runs
    (c.completed.ensures ∙ ap (completion here.count) (e ∙ sym (stored reals values n small h k)))
    (simp e at c.store_words.ensures)
