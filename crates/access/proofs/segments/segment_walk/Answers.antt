use Rattle.std.proofs.Common.{◌≡◌, ℕ, false, sym, ap, ◌∙◌}
use Rattle.rules.specs.Steps.{◌>>=◌}
use Rattle.rules.specs.Translation.{segment_verdict, segment_walk}
use Rattle.storage.specs.Answers.{machine, told, seen}
use Rattle.storage.proofs.Laws.{begin, fresh, last, chosen, rejected, settles}
use Rattle.storage.proofs.Stages.{Asked, asks}
use Rattle.access.proofs.Paths.{read_handed, read_given}
use Rattle.access.proofs.segments.segment_walk.Goals as goal
use Rattle.access.proofs.segments.segment_walk.Goals.{After-read}

-- the entry
abbrev entry : (g : _) (c : After-read g) (beyond : c.is_beyond_segments.result ≡ false)
    → Asked {S = Unit {0}} (λ u. machine c.args.storage.now c.args.keys.now)
    (λ u. segment_walk (g.E.Entries.entry c.args.entries 4) c.args.format c.args.table c.args.at) ℕ
unfolding segment_walk
entry g c beyond =
    let a = c.args in
    asks tt _ _ (rejected _ _ _ (begin _ _) (sym c.is_beyond_segments.ensures
    ∙ beyond)) c.read.result a.storage.now c.read.new.keys
    (fresh _ _ (c.read.ensures
    ∙ ap (λ x. seen (g.E.Entries.entry a.entries 4 x)
    (machine a.storage.now a.keys.now)) c.segment_entry_at-place.ensures))

pub returns-then-is_beyond_segments : goal.returns-then-is_beyond_segments
unfolding segment_walk
returns-then-is_beyond_segments g c =
    rw (c.fault.ensures, c.segment_entry_at-place.ensures) (settles _
    (chosen _ _ _ (begin _ _) (sym c.is_beyond_segments.ensures ∙ c.if-is_beyond_segments.true)))

pub returns-in_err-entry : goal.returns-in_err-entry
unfolding segment_walk entry
returns-in_err-entry g c =
    read_handed (entry g (goal.at.returns-in_err-entry g c).After-read c.if-is_beyond_segments.false)
    c.walked.result c.from_residual.result c.walked.ensures c.in_err-entry.was c.from_residual.ensures.1

pub returns : goal.returns
unfolding segment_walk
returns g c =
    let a = c.args in
    let s = a.storage.now in
    let m = machine s a.keys.now in
    let read = g.E.Entries.entry a.entries 4 in
    last (rejected _ _ _ (begin m _) (sym c.is_beyond_segments.ensures ∙ c.if-is_beyond_segments.false))
    (c.segment_verdict.ensures s c.read.new.keys _ _
    (ap (λ x. told x s c.read.new.keys) (sym (read_given c.read.result _ c.walked.ensures c.in_ok-entry.was))
    ∙ c.read.ensures)
    ∙ ap (λ x. seen (read x >>= segment_verdict a.format x a.at) m) c.segment_entry_at-place.ensures)
