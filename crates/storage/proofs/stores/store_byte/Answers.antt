use Rattle.rules.specs.Recording.{marked}
use Rattle.storage.proofs.stores.store_byte.Goals as goal

pub returns : goal.returns
unfolding marked
returns c =
    simp (c.put_byte.ensures, c.record_byte.ensures)
