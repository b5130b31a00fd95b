use lib.Bits.{or_lt}
use Rattle.storage_key.proofs.marks.Marks.or.Goals as goal

pub invariant_of-result : goal.invariant_of-result
invariant_of-result c = record { small = or_lt 2 _ _ c.args.self.small c.args.others.small }
