use Rattle.trail.proofs.RecordBytes.{halfword_bytes}
use Rattle.trail.proofs.records.halfword_and_bytes.Goals as goal

pub returns : goal.returns
returns c = let a = c.args in rw c.from.ensures (halfword_bytes a.first a.left a.right)
