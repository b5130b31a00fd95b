use Rattle.std.proofs.Common.{◌≡◌, ◌+◌, false, sym, ap, ◌∙◌, arith}
use borrow.Rule.Slice.PartMut.{Post-is}
use Rattle.rules.specs.Machine.{addresses}
use Rattle.rules.specs.Recording.{marked, changed}
use Rattle.storage.specs.Answers.{machine}
use Rattle.storage.specs.Recording.{Store, across}
use Rattle.storage.proofs.Words.{in_place}
use Rattle.storage.proofs.Recorded.{within, one_block}
use Rattle.storage.proofs.stores.store_word.Goals as goal

pub returns : goal.returns
returns c =
    let a = c.args in
    let inside : across a.at ≡ false = sym c.is_across.ensures ∙ c.if-is_across.false in
    let w = within a.at inside in
    let below = w.0 in
    let ends = w.1 in
    simp (
      c.put_word.ensures,
      Post-is a.at (a.at + 4) a.storage.now (omega arith),
      one_block a.at inside Store a.keys.now c.record_byte.ensures,
    )
    (ap (λ s. machine s (marked changed a.keys.now (addresses a.at 4)))
    (in_place a.storage.now a.at a.value (omega arith) (omega arith)))
