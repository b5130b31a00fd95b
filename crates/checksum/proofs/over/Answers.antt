use Rattle.std.proofs.Common.{rules, ◌≡◌}
use Rattle.std.specs.List.{fold}
use Rattle.checksum.specs.Register.{after_byte}
use Rattle.checksum.proofs.over.Goals as goal

-- the definition goes over the bytes as `fold` does
pub returns : goal.returns
returns c =
    let e : c.fold.result ≡ fold after_byte c.args.register c.args.bytes.now = search rules in
    search rules
