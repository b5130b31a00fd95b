use Rattle.std.proofs.Common.{◌≡◌, ◌+◌, ◌-◌, ◌*◌, ◌++◌, length, get_or, take, drop, ap, ◌∙◌, arith}
use borrow.Rule.Slice.PartMut.{put_mid}
use Rattle.trail.specs.Words.{big_endian, words_bytes}
use Rattle.trail.proofs.Puts.{words_turn, put_between}
use Rattle.trail.proofs.words.fill.Goals as goal

pub loop-i-preserved : goal.loop-i-preserved
loop-i-preserved c =
    let l = c.loop-i in
    let ws = c.args.words.now in
    let i = l.i in
    let whole : length l.part ≡ 4 * length ws = l.auto.part ∙ c.requires in
    let bytes = c.copy_from_slice.ensures.after ∙ c.to_be_bytes.ensures in
    let placed = ap (put_mid (4 * i) (4 * i + 4 - 4 * i) l.part) bytes
    ∙ put_between (4 * i) (4 * i + 4) l.part (big_endian 4 (get_or ws i 0)) (omega arith) in
    ap (λ p. take (4 * (i + 1)) p ++ words_bytes (drop (i + 1) ws)) placed
    ∙ words_turn l.part ws i _ c.loop-i-test.true whole l.invariant
