use Rattle.std.proofs.Common.{List, ℕ, not, ap}
use Rattle.rules.specs.Access.{key_test}
use Rattle.storage.specs.Answers.{machine}
use Rattle.storage.proofs.Laws.{begin, fresh, settles}
use Rattle.storage.proofs.Stages.{Asked, asks, given, handed, Tested, tests, passed, stopped}
use Rattle.access.specs.Passes.{passes_for}
use Rattle.access.proofs.logical.key_test.Goals as goal
use Rattle.access.proofs.logical.key_test.Goals.{After-consult_key, After-passes}

-- the key, with any bytes in storage
abbrev key : (s : List ℕ) (c : After-consult_key)
    → Asked {S = Unit {0}} (λ u. machine s c.args.keys.now)
    (λ u. key_test (passes_for c.args.kind) c.args.psw_key c.args.real) ℕ
unfolding key_test
key s c =
    asks tt _ _ (begin _ _) c.consult_key.result s c.consult_key.new.keys (fresh _ _ (c.consult_key.ensures s))

pub returns-in_err-key : goal.returns-in_err-key
unfolding key_test key
returns-in_err-key c =
    λ s. handed (key s (goal.at.returns-in_err-key c).After-consult_key) c.from_residual.result c.in_err-key.was
    c.from_residual.ensures.1

-- whether it lets the access pass
abbrev test : (s : List ℕ) (c : After-passes)
    → Tested {S = Unit {0}} (λ u. machine s c.args.keys.now)
    (λ u. key_test (passes_for c.args.kind) c.args.psw_key c.args.real)
unfolding key_test key
test s c =
    let here = given (key s (goal.at.After-passes c).After-consult_key) c.in_ok-key.was in
    tests tt _ _ _ here.runs (not c.passes.result) (ap not c.passes.ensures)

pub returns-then-not-passes : goal.returns-then-not-passes
unfolding key_test key test
returns-then-not-passes c =
    λ s. rw c.stop.ensures (stopped (test s (goal.at.returns-then-not-passes c).After-passes)
    (ap not c.if-not-passes.true))

pub returns : goal.returns
unfolding key_test key test
returns c =
    λ s. settles _ (passed (test s (goal.at.returns c).After-passes) (ap not c.if-not-passes.false)).runs
