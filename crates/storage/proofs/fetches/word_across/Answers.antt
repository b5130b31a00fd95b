use Rattle.storage.proofs.Fetched.{fetches, misses}
use Rattle.storage.proofs.fetches.word_across.Goals as goal

pub returns-in_err-value : goal.returns-in_err-value
returns-in_err-value c =
    let a = c.args in
    λ e. rw c.from_residual.ensures (misses a.storage.now a.keys.now a.at 4 e (c.in_err-value.ensures))

pub returns : goal.returns
returns c =
    let a = c.args in
    λ e. fetches a.storage.now a.keys.now a.at 4 e _ (c.in_ok-value.ensures) c.record_word.ensures
