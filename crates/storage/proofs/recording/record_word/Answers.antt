use Rattle.storage.specs.Recording.{marking}
use Rattle.storage.proofs.Recorded.{word_marked}
use Rattle.storage.proofs.recording.record_word.Goals as goal

pub returns : goal.returns
returns c =
    let a = c.args in
    word_marked (marking a.access) a.keys.now a.at c.record_halfword.ensures
    c.sum.ensures c.record_halfword-2.ensures
