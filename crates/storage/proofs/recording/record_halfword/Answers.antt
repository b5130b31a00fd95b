use Rattle.rules.specs.Recording.{marked}
use Rattle.storage.proofs.recording.record_halfword.Goals as goal

pub returns : goal.returns
unfolding marked
returns c =
    simp (c.record_byte-2.ensures, c.record_byte.ensures, c.sum.ensures)
