use Rattle.std.proofs.Common.{◌≡◌, ◌+◌, ◌*◌, ap, sym, ◌∙◌, arith, length}
use Rattle.std.proofs.lemmas.List.Edits.{sets}
use Rattle.trail.specs.Records.{record_bytes, trailer_bytes}
use Rattle.trail.specs.Words.{word_at}
use Rattle.trail.specs.Trails.{turned_away, add}
use Rattle.trail.proofs.Puts.{sets_behind}
use Rattle.trail.proofs.Standing.{record_length}
use Rattle.trail.proofs.add.Goals as goal

pub returns : goal.returns
unfolding add
returns c =
    let a = c.args in
    let b = a.buffer.now in
    let h = a.held in
    let bytes = record_bytes h a.entry in
    let at : c.trailer_at-at.result ≡ 128 * h = c.trailer_at-at.ensures in
    let next : c.trailer_at-at.result + 128 ≡ 128 * (h + 1) = omega (arith, at) in
    let behind : c.trailer_at-at.result + 128 ≡ 128 * h + length bytes =
    ap (λ n. n + 128) at ∙ ap (λ n. 128 * h + n) (sym (record_length h a.entry)) in
    let put = c.put_words.ensures ∙ λ i. sets b (at i) (c.record_words.ensures i) in
    let away = c.word_at-turned_away.ensures ∙ ap (λ n. word_at b (n + 8)) at in
    c.put_words-2.ensures
    ∙ (λ i. sets (put i) (behind i) (trailer_bytes (next i) (h + 1) (away i)))
    ∙ sets_behind bytes (trailer_bytes (128 * (h + 1)) (h + 1) (turned_away b h)) b (128 * h)
