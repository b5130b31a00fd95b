use Rattle.std.proofs.Common.{◌∙◌}
use Rattle.storage.proofs.Joined.{byte_found}
use Rattle.storage.proofs.items.byte_at.Goals as goal

pub returns : goal.returns
returns c = c.copied.ensures ∙ byte_found c.args.storage.now c.args.at c.get.result c.get.ensures.lookup
