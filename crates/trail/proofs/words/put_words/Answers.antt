use Prim.Native.Nat.{◌+◌, ◌-◌, ◌*◌}
use mathlib.Core.Path.{ap, ◌∙◌}
use lib.ListN.{length}
use borrow.Rule.Slice.PartMut.{put_mid}
use Rattle.trail.specs.Words.{words_bytes}
use Rattle.trail.proofs.Puts.{put_part, words_length}
use Rattle.trail.proofs.words.put_words.Goals as goal

pub returns : goal.returns
returns c =
    let a = c.args in
    let ws = a.words.now in
    let end = a.at + 4 * length ws in
    let long = ap (λ n. a.at + n) (words_length ws) in
    ap (put_mid a.at (end - a.at) a.buffer.now) c.fill.ensures
    ∙ put_part a.at end a.buffer.now (words_bytes ws) long c.requires
