use Rattle.std.proofs.Common.{ℕ, ap, sym, ◌∙◌}
use Rattle.rules.specs.Steps.{◌>>=◌}
use Rattle.rules.specs.Guest.{psw_key}
use Rattle.rules.specs.Translation.{translate}
use Rattle.rules.specs.Access.{real_of, key_test, access}
use Rattle.storage.specs.Answers.{machine, seen}
use Rattle.storage.proofs.Laws.{begin, fresh, last_after}
use Rattle.storage.proofs.Stages.{Asked, asks, given, handed}
use Rattle.access.specs.Passes.{passes_for}
use Rattle.access.proofs.logical.access_test.Goals as goal
use Rattle.access.proofs.logical.access_test.Goals.{After-translate}

-- with DAT on: the real address, and what is asked of it
abbrev real : (c : After-translate)
    → Asked {S = Unit {0}} (λ u. machine c.args.storage.now c.args.keys.now)
    (λ u. translate c.args.guest.cr0 c.args.guest.cr1 c.args.at
    >>= key_test (passes_for c.args.kind) (psw_key c.args.guest)) ℕ
real c =
    asks tt _ _ (begin _ _) c.translate.result c.args.storage.now c.translate.new.keys (fresh _ _ c.translate.ensures)

pub returns-in_err-real : goal.returns-in_err-real
unfolding access real_of seen ◌>>=◌
returns-in_err-real c =
    simp (sym c.dat_on.ensures ∙ c.if-dat_on.true)
    (handed (real (goal.at.returns-in_err-real c).After-translate) c.from_residual.result c.in_err-real.was
    c.from_residual.ensures.1)

pub returns-then-dat_on : goal.returns-then-dat_on
unfolding access real_of seen ◌>>=◌
returns-then-dat_on c =
    let here = given (real (goal.at.returns-then-dat_on c).After-translate) c.in_ok-real.was in
    simp (sym c.dat_on.ensures ∙ c.if-dat_on.true)
    (last_after here.runs c.key_test.result c.after.result c.args.storage.now c.key_test.new.keys c.after.ensures
    (c.key_test.ensures c.args.storage.now
    ∙ ap (λ k. seen (key_test (passes_for c.args.kind) k c.in_ok-real.real.value)
    (machine c.args.storage.now c.translate.new.keys)) c.psw_key-psw_key.ensures))

pub returns : goal.returns
unfolding access real_of seen ◌>>=◌
returns c =
    simp (sym c.dat_on.ensures ∙ c.if-dat_on.false, sym c.psw_key-psw_key.ensures)
    (c.key_test-2.ensures c.args.storage.now)
