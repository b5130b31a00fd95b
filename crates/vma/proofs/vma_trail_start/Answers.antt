use Rattle.vma.proofs.Recorded.{trail_packed}
use Rattle.vma.proofs.vma_trail_start.Goals as goal

pub returns : goal.returns
returns c =
    let b = c.start.new.buffer in
    let packed = c.pack_trail.ensures in
    let p = trail_packed _ _ _ c.start.ensures.trail (packed.packed b) (packed.held b) in
    record { result = p.0; refusal = p.1.0; held = p.1.1.0; buffer = p.1.1.1 }
