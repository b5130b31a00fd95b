use Rattle.std.proofs.Common.{Some, ap, ◌∙◌}
use Rattle.storage.specs.Items.{item_at}
use Rattle.storage.proofs.Joined.{halfword_joined, left_missing, right_missing, both_there}
use Rattle.storage.proofs.items.halfword_at.Goals as goal

pub returns-in_err-left : goal.returns-in_err-left
returns-in_err-left c =
    c.from_residual.ensures ∙ left_missing _ _ _ _ (halfword_joined c.args.storage.now c.args.at)
    (c.in_err-left.ensures)

pub returns-in_err-right : goal.returns-in_err-right
returns-in_err-right c =
    let s = c.args.storage.now in
    c.from_residual-in_err-right.ensures
    ∙ right_missing _ _ _ _ (halfword_joined s c.args.at) (c.in_ok-left.ensures)
    (c.in_err-right.ensures ∙ ap (λ a. item_at s a 1) c.sum.ensures)

pub returns : goal.returns
returns c =
    let s = c.args.storage.now in
    ap Some c.from_be_bytes.ensures
    ∙ both_there _ _ _ _ (halfword_joined s c.args.at) (c.in_ok-left.ensures)
    (c.in_ok-right.ensures ∙ ap (λ a. item_at s a 1) c.sum.ensures)
