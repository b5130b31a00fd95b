use Rattle.std.proofs.Common.{sym, ap, ◌∙◌}
use Rattle.rules.specs.Translation.{found, page_verdict}
use Rattle.storage.specs.Answers.{machine, went}
use Rattle.storage.proofs.Laws.{chosen, rejected, settles}
use Rattle.access.proofs.Paths.{entry_given}
use Rattle.access.proofs.pages.page_verdict.Goals as goal

pub returns-then-is_invalid : goal.returns-then-is_invalid
unfolding page_verdict
returns-then-is_invalid c =
    let a = c.args in
    let verdict = page_verdict a.format a.place a.at in
    λ s ks p m h. rw c.fault.ensures (settles _
    (chosen _ _ _ (entry_given s ks p m a.entry verdict h)
    (sym c.is_invalid.ensures ∙ c.if-is_invalid.true)))

pub returns-then-is_malformed : goal.returns-then-is_malformed
unfolding page_verdict
returns-then-is_malformed c =
    let a = c.args in
    let verdict = page_verdict a.format a.place a.at in
    λ s ks p m h. rw c.fault-then-is_malformed.ensures (settles _
    (chosen _ _ _
    (rejected _ _ _ (entry_given s ks p m a.entry verdict h)
    (sym c.is_invalid.ensures ∙ c.if-is_invalid.false))
    (sym c.is_malformed.ensures ∙ c.if-is_malformed.true)))

pub returns : goal.returns
unfolding page_verdict
returns c =
    let a = c.args in
    let verdict = page_verdict a.format a.place a.at in
    λ s ks p m h. ap (λ v. went (found v) a.entry.count (machine s ks)) c.real_address.ensures ∙ settles _
    (rejected _ _ _
    (rejected _ _ _ (entry_given s ks p m a.entry verdict h)
    (sym c.is_invalid.ensures ∙ c.if-is_invalid.false))
    (sym c.is_malformed.ensures ∙ c.if-is_malformed.false))
