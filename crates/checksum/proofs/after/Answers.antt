use Rattle.checksum.specs.Register.{after_byte}
use Rattle.checksum.proofs.after.Goals as goal

pub returns : goal.returns
unfolding after_byte
returns c = simp (c.requires, c.from-right.ensures, c.from-left.ensures)
