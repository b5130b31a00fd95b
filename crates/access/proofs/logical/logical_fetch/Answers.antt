use Rattle.std.proofs.Common.{ℕ}
use Rattle.rules.specs.Access.{logical_fetch}
use Rattle.storage.specs.Answers.{machine}
use Rattle.storage.proofs.Laws.{begin, fresh, last_after}
use Rattle.storage.proofs.Stages.{Asked, asks, given, handed}
use Rattle.access.proofs.logical.logical_fetch.Goals as goal
use Rattle.access.proofs.logical.logical_fetch.Goals.{After-access_test}

-- the real address
abbrev real : (g : _) (c : After-access_test g)
    → Asked {S = Unit {0}} (λ u. machine c.args.storage.now c.args.keys.now)
    (λ u. logical_fetch c.args.guest c.args.at g.T.Item.bytes) ℕ
unfolding logical_fetch
real g c =
    asks tt _ _ (begin _ _) c.access_test.result c.args.storage.now c.access_test.new.keys
    (fresh _ _ c.access_test.ensures)

pub returns-in_err-real : goal.returns-in_err-real
unfolding logical_fetch real
returns-in_err-real g c =
    handed (real g (goal.at.returns-in_err-real g c).After-access_test) c.from_residual.result c.in_err-real.was
    c.from_residual.ensures.1

pub returns : goal.returns
unfolding logical_fetch real
returns g c =
    let here = given (real g (goal.at.returns g c).After-access_test) c.in_ok-real.was in
    last_after here.runs c.fetch.result c.after.result c.args.storage.now c.fetch.new.keys c.after.ensures
    c.fetch.ensures
