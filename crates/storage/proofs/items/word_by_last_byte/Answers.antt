use Rattle.std.proofs.Common.{Some, ap, sym, ◌∙◌, arith}
use Rattle.storage.proofs.Words.{word_read, word_missing}
use Rattle.storage.proofs.items.word_by_last_byte.Goals as goal

pub returns-in_err-get : goal.returns-in_err-get
returns-in_err-get c =
    let short = c.in_err-get.ensures.lookup in
    c.from_residual.ensures ∙ sym (word_missing c.args.storage.now c.args.at c.requires (omega (arith, short)))

pub returns : goal.returns
returns c =
    let part = c.in_ok-get.ensures.lookup.0 in
    let first = c.in_ok-bytes.ensures.cases in
    ap Some c.from_be_bytes.ensures
    ∙ word_read c.args.storage.now c.args.at c.requires _ _ part.2 first.same part.1
