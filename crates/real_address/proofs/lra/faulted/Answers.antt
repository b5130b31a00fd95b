use Rattle.storage.specs.Answers.{seen}
use Rattle.real_address.proofs.lra.faulted.Goals as goal

pub returns-in-SegmentFormat : goal.returns-in-SegmentFormat
unfolding seen
returns-in-SegmentFormat c = λ s ks. simp (c.in-SegmentFormat.is, c.refuse.ensures)

pub returns-in-PageFormat : goal.returns-in-PageFormat
unfolding seen
returns-in-PageFormat c = λ s ks. simp (c.in-PageFormat.is, c.refuse-in-PageFormat.ensures)
