use Rattle.std.proofs.Common.{◌≡◌, ◌*◌, ◌++◌, take, drop}
use Rattle.trail.specs.Words.{words_bytes}
use Rattle.trail.proofs.words.fill.Given as goal

-- what has been put, and behind it the words to come, are all of the words
abbrev pub invariant-loop-i : goal.invariant-loop-i
invariant-loop-i l = take (4 * l.i) l.part ++ words_bytes (drop l.i l.words) ≡ words_bytes l.words
