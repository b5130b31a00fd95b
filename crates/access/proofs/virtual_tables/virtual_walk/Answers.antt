use Rattle.rules.specs.LoadRealAddress.{virtual_walk}
use Rattle.access.proofs.virtual_tables.virtual_walk.Goals as goal

pub returns : goal.returns
unfolding virtual_walk
returns c = c.table_walk.ensures
