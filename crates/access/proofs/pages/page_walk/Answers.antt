use Rattle.std.proofs.Common.{ℕ, sym, ap, ◌∙◌}
use Rattle.rules.specs.Steps.{◌>>=◌}
use Rattle.rules.specs.Translation.{page_verdict, page_walk}
use Rattle.storage.specs.Answers.{machine, told, seen}
use Rattle.storage.proofs.Laws.{begin, fresh}
use Rattle.storage.proofs.Stages.{Asked, asks}
use Rattle.access.proofs.Paths.{read_handed, read_given}
use Rattle.access.proofs.pages.page_walk.Goals as goal
use Rattle.access.proofs.pages.page_walk.Goals.{After-read}

-- the entry
abbrev entry : (g : _) (c : After-read g) → Asked {S = Unit {0}} (λ u. machine c.args.storage.now c.args.keys.now)
    (λ u. page_walk (g.E.Entries.entry c.args.entries 2) c.args.format c.args.segment c.args.at) ℕ
unfolding page_walk
entry g c =
    let a = c.args in
    asks tt _ _ (begin _ _) c.read.result a.storage.now c.read.new.keys
    (fresh _ _ (c.read.ensures
    ∙ ap (λ x. seen (g.E.Entries.entry a.entries 2 x)
    (machine a.storage.now a.keys.now)) c.page_entry_at-place.ensures))

pub returns-in_err-entry : goal.returns-in_err-entry
unfolding page_walk entry
returns-in_err-entry g c =
    read_handed (entry g (goal.at.returns-in_err-entry g c).After-read) c.walked.result c.from_residual.result
    c.walked.ensures c.in_err-entry.was c.from_residual.ensures.1

pub returns : goal.returns
unfolding page_walk
returns g c =
    let a = c.args in
    let s = a.storage.now in
    let m = machine s a.keys.now in
    let read = g.E.Entries.entry a.entries 2 in
    c.page_verdict.ensures s c.read.new.keys _ _
    (ap (λ x. told x s c.read.new.keys) (sym (read_given c.read.result _ c.walked.ensures c.in_ok-entry.was))
    ∙ c.read.ensures)
    ∙ ap (λ x. seen (read x >>= page_verdict a.format x a.at) m) c.page_entry_at-place.ensures
