use Rattle.std.proofs.Common.{rules, ℕ, List, ◌≡◌, ◌++◌, length, replicate, ap, ◌∙◌}
use borrow.Rule.Slice.PartMut.{put_mid}
use Rattle.trail.specs.Words.{big_endian, words_bytes}
use Rattle.trail.specs.Records.{general_registers, record_bytes}
use Rattle.trail.proofs.Puts.{elements_all}
use Rattle.trail.proofs.RecordBytes.{flag_number, masked_words}
use Rattle.trail.proofs.records.record_words.Goals as goal

pub returns : goal.returns
unfolding record_bytes
returns c =
    let a = c.args in
    let e = a.entry in
    let g = e.call.guest in
    let sixteen : length g.general ≡ 16 = search rules in
    let first = c.copy_from_slice.ensures.after in
    let general = c.copy_from_slice-2.ensures.after ∙ elements_all 16 0 g.general sixteen in
    let controls = c.copy_from_slice-3.ensures.after in
    let second = c.halfword_and_bytes.ensures
    ∙ ap (λ f. big_endian 2 e.call.first ++ (big_endian 1 f ++ big_endian 1 e.ending))
    (c.from.ensures ∙ flag_number e.call.installed) in
    let third = c.halfwords.ensures in
    let psw = masked_words g.psw in
    let zeros : List ℕ = replicate 24 0 in
    let placed : (front registers last : List ℕ) → List ℕ = λ front registers last.
    words_bytes (put_mid 24 3 (put_mid 8 16 (front ++ zeros) registers) last) in
    (λ i. placed (first i) (general i) (controls i))
    ∙ (λ i. big_endian 4 a.sequence
    ++ big_endian 4 e.number
    ++ second i
    ++ third i
    ++ big_endian 4 e.next
    ++ big_endian 4 e.translation
    ++ psw i
    ++ words_bytes (general_registers g)
    ++ big_endian 4 g.cr0
    ++ big_endian 4 g.cr1
    ++ big_endian 4 g.cr6
    ++ big_endian 20 0)
