use Rattle.std.proofs.Common.{ℕ}
use Rattle.rules.specs.LoadRealAddress.{through_real}
use Rattle.storage.specs.Answers.{machine}
use Rattle.storage.proofs.Laws.{begin, fresh, last_after}
use Rattle.storage.proofs.Stages.{Asked, asks, given, handed}
use Rattle.access.proofs.virtual_tables.VirtualEntries.read.Goals as goal
use Rattle.access.proofs.virtual_tables.VirtualEntries.read.Goals.{After-real_by}

-- the real address
abbrev real : (g : _) (c : After-real_by g)
    → Asked {S = Unit {0}} (λ u. machine c.args.storage.now c.args.keys.now)
    (λ u. through_real c.args.self.rseg c.args.self.segment c.args.self.page g.T.Item.bytes c.args.at) ℕ
unfolding through_real
real g c =
    asks tt _ _ (begin _ _) c.real_by.result c.args.storage.now c.real_by.new.keys (fresh _ _ c.real_by.ensures)

pub returns-in_err-real : goal.returns-in_err-real
unfolding through_real real
returns-in_err-real g c =
    handed (real g (goal.at.returns-in_err-real g c).After-real_by) c.from_residual.result c.in_err-real.was
    c.from_residual.ensures.1

pub returns : goal.returns
unfolding through_real real
returns g c =
    let here = given (real g (goal.at.returns g c).After-real_by) c.in_ok-real.was in
    last_after here.runs c.fetch.result c.after.result c.args.storage.now c.fetch.new.keys c.after.ensures
    c.fetch.ensures
