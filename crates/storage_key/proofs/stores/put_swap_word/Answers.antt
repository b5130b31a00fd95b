use Rattle.std.proofs.Common.{◌≡◌, sym, ap, ◌∙◌, arith}
use Rattle.rules.specs.Machine.{addresses, stored}
use Rattle.storage.specs.declared.recording.Access.TheVariants.{Store}
use Rattle.storage.proofs.Recorded.{one_block}
use Rattle.storage.proofs.Words.{straight}
use Rattle.storage_key.proofs.stores.put_swap_word.Goals as goal
use Rattle.storage_key.proofs.stores.put_swap_word.Goals.{After-put_bytes-2}

-- the addresses of a word that doesn't go round the top follow each other
in_place : (c : After-put_bytes-2)
    → c.put_bytes-2.new.storage ≡ stored c.args.storage.now (addresses c.args.at 4) c.args.value
in_place c =
    let below = c.if-at-gt16777212.false in
    c.put_bytes-2.ensures
    ∙ ap (λ at. stored c.args.storage.now at c.args.value) (sym (straight c.args.at (omega arith)))

pub returns : goal.returns
returns c =
    simp (
      in_place (goal.at.returns c).After-put_bytes-2,
      one_block c.args.at (sym c.is_across.ensures ∙ c.if-is_across.false) Store c.args.keys.now c.record_byte.ensures,
    )
