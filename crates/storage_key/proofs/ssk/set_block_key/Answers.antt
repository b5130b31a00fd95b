use Rattle.std.proofs.Common.{ℕ, ◌*◌, length, ap, ◌∙◌, arith}
use Rattle.rules.specs.Bits.{bits, word}
use Rattle.rules.specs.declared.keys.KeyUse.TheVariants.{Whole}
use Rattle.rules.specs.Writes.{perform, store}
use Rattle.rules.specs.SwapTables.{swap_with}
use Rattle.rules.specs.SetStorageKey.{key_word, store_swap_word, set_block_key}
use Rattle.rules.proofs.Present.{consult_key-gives}
use Rattle.storage.specs.Answers.{machine}
use Rattle.storage.proofs.Laws.{begin, fresh, completes}
use Rattle.storage.proofs.Stages.{Asked, asks, given, sure, ended_with}
use Rattle.storage_key.proofs.ssk.set_block_key.Goals as goal
use Rattle.storage_key.proofs.ssk.set_block_key.Goals.{After-consult_key}

-- step 11: the key
abbrev old : (c : After-consult_key)
    → Asked {S = Unit {0}} (λ u. machine c.args.storage.now c.args.keys.now)
    (λ u. set_block_key c.args.call c.args.page c.args.block) ℕ
unfolding set_block_key
old c =
    let s = c.args.storage.now in
    asks tt _ _ (begin _ _) c.consult_key.result s c.consult_key.new.keys (fresh _ _ (c.consult_key.ensures s))

pub returns-in_err-old : goal.returns-in_err-old
unfolding set_block_key old
returns-in_err-old c =
    ended_with (old (goal.at.returns-in_err-old c).After-consult_key) c.from_residual.result c.in_err-old.was
    c.from_residual.ensures.1

-- the new key: the old one was consulted, so it is there
pub put_key-requires : goal.put_key-requires
unfolding set_block_key old
put_key-requires c =
    let asked = old (goal.at.put_key-requires c).After-consult_key in
    let there = sure _ asked c.in_ok-old.was
    (consult_key-gives (length asked.left.storage) (length asked.left.keys) Whole _ _) in
    omega (arith, there, c.consult_key.auto.keys)

-- and step 12
pub returns : goal.returns
unfolding store_swap_word set_block_key old
returns c =
    let here = given (old (goal.at.returns c).After-consult_key) c.in_ok-old.was in
    let a = c.args in
    let swap = swap_with a.page (word 24 30 (key_word a.call) * 2) (bits 8 5 6 c.in_ok-old.old.value) in
    let first = simp (c.new_key.ensures, c.key_word.ensures) at (c.put_key.ensures a.storage.now) in
    let second = simp (c.swap_word.ensures, c.of.ensures) at c.put_swap_word.ensures in
    completes c.put_swap_word.new.storage c.put_swap_word.new.keys _ here.runs c.completed.ensures
    (second ∙ ap (λ m. perform m (store a.page.place 4 swap)) first)
