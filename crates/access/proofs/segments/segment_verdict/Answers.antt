use Rattle.std.proofs.Common.{sym, ◌∙◌, eq-eqb, ne_eqb}
use Rattle.rules.specs.Translation.{segment_verdict}
use Rattle.storage.proofs.Laws.{chosen, rejected, settles}
use Rattle.access.proofs.Paths.{entry_given}
use Rattle.access.proofs.segments.segment_verdict.Goals as goal

pub returns-then-entry-eq1 : goal.returns-then-entry-eq1
unfolding segment_verdict
returns-then-entry-eq1 c =
    let a = c.args in
    let verdict = segment_verdict a.format a.place a.at in
    λ s ks p m h. rw c.fault.ensures (settles _
    (chosen _ _ _ (entry_given s ks p m a.entry verdict h)
    (eq-eqb _ _ c.if-entry-eq1.true)))

pub returns-then-entry-ne0 : goal.returns-then-entry-ne0
unfolding segment_verdict
returns-then-entry-ne0 c =
    let a = c.args in
    let verdict = segment_verdict a.format a.place a.at in
    λ s ks p m h. rw c.fault-then-entry-ne0.ensures (settles _
    (chosen _ _ _
    (rejected _ _ _ (entry_given s ks p m a.entry verdict h)
    (ne_eqb _ _ c.if-entry-eq1.false))
    (simp (ne_eqb _ _ c.if-entry-ne0.true))))

-- step 4
pub returns-then-is_beyond_pages : goal.returns-then-is_beyond_pages
unfolding segment_verdict
returns-then-is_beyond_pages c =
    let a = c.args in
    let verdict = segment_verdict a.format a.place a.at in
    λ s ks p m h. rw (c.fault-then-is_beyond_pages.ensures, c.page_entry_at-beyond.ensures) (settles _
    (chosen _ _ _
    (rejected _ _ _
    (rejected _ _ _ (entry_given s ks p m a.entry verdict h)
    (ne_eqb _ _ c.if-entry-eq1.false))
    (simp (eq-eqb _ _ c.if-entry-ne0.false)))
    (sym c.is_beyond_pages.ensures ∙ c.if-is_beyond_pages.true)))

pub returns : goal.returns
unfolding segment_verdict
returns c =
    let a = c.args in
    let verdict = segment_verdict a.format a.place a.at in
    λ s ks p m h. settles _
    (rejected _ _ _
    (rejected _ _ _
    (rejected _ _ _ (entry_given s ks p m a.entry verdict h)
    (ne_eqb _ _ c.if-entry-eq1.false))
    (simp (eq-eqb _ _ c.if-entry-ne0.false)))
    (sym c.is_beyond_pages.ensures ∙ c.if-is_beyond_pages.false))
