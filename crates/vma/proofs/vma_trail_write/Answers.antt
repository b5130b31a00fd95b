use Rattle.std.proofs.Common.{ap, ◌∙◌}
use Rattle.trail.specs.Trails.{write}
use Rattle.vma.proofs.Recorded.{trail_packed}
use Rattle.vma.proofs.vma_trail_write.Goals as goal

pub returns : goal.returns
returns c =
    let a = c.args in
    let b = c.write.new.buffer in
    let told = c.write.ensures.trail ∙ ap (write a.buffer.now a.held) c.entry_from-entry.ensures in
    let packed = c.pack_trail.ensures in
    let p = trail_packed _ _ _ told (packed.packed b) (packed.held b) in
    record { result = p.0; refusal = p.1.0; held = p.1.1.0; buffer = p.1.1.1 }
