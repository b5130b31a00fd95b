use Rattle.std.proofs.Common.{ℕ, [], refl}
use Rattle.rules.specs.declared.record_change.RecordChange.TheVariants.{RegisterByte}
use Rattle.rules.specs.Masks.{extended_in}
use Rattle.rules.specs.SwapTables.{virtual_key}
use Rattle.rules.specs.InsertStorageKey.{inserted_key, insert_key}
use Rattle.storage.specs.Answers.{machine}
use Rattle.storage.proofs.Laws.{begin, fresh, completes_as}
use Rattle.storage.proofs.Stages.{Asked, asks, asks_after, given, ended_with}
use Rattle.storage_key.proofs.isk.insert_key.Goals as goal
use Rattle.storage_key.proofs.isk.insert_key.Goals.{After-micblok_word, After-after}

-- step 12: MICVPSW
abbrev vpsw : (c : After-micblok_word)
    → Asked {S = Unit {0}} (λ u. machine c.args.storage.now c.args.keys.now)
    (λ u. insert_key c.args.guest c.args.page c.args.tried c.args.marks.bits) ℕ
unfolding insert_key
vpsw c =
    asks tt _ _ (begin _ _) c.micblok_word.result c.args.storage.now c.micblok_word.new.keys
    (fresh _ _ c.micblok_word.ensures)

pub returns-in_err-vpsw : goal.returns-in_err-vpsw
unfolding insert_key vpsw
returns-in_err-vpsw c =
    ended_with (vpsw (goal.at.returns-in_err-vpsw c).After-micblok_word) c.from_residual.result c.in_err-vpsw.was
    c.from_residual.ensures.1

-- step 13: the virtual PSW
abbrev first : (c : After-after)
    → Asked {S = Unit {0}} (λ u. machine c.args.storage.now c.args.keys.now)
    (λ u. insert_key c.args.guest c.args.page c.args.tried c.args.marks.bits) ℕ
unfolding insert_key vpsw
first c =
    let here = given (vpsw (goal.at.After-after c).After-micblok_word) c.in_ok-vpsw.was in
    asks_after tt _ _ here.runs c.control_field.result c.after.result c.args.storage.now
    c.control_field.new.keys c.after.ensures (simp c.address_in-at.ensures at c.control_field.ensures)

pub returns-in_err-first : goal.returns-in_err-first
unfolding insert_key vpsw first
returns-in_err-first c =
    ended_with (first (goal.at.returns-in_err-first c).After-after) c.from_residual-in_err-first.result
    c.in_err-first.was c.from_residual-in_err-first.ensures.1

-- step 14
pub returns : goal.returns
unfolding insert_key vpsw first
returns c =
    let here = given (first (goal.at.returns c).After-after) c.in_ok-first.was in
    let a = c.args in
    completes_as (RegisterByte (inserted_key (extended_in c.in_ok-first.first.value) (virtual_key a.page) a.marks.bits))
    a.storage.now c.control_field.new.keys [] here.runs
    (simp (c.inserted_key-key.ensures, c.virtual_key.ensures) at c.completed_as.ensures) refl
