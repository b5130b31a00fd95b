use Rattle.rules.specs.Recording.{marked}
use Rattle.masks.proofs.bits.put_mask.Goals as goal

pub returns : goal.returns
unfolding marked
returns c =
    simp (c.put_byte.ensures, c.record_byte.ensures)
