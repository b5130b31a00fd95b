-- Words gathered one after the other.
use Rattle.std.specs.Prelude.{ℕ, List, take, Ok, Err}
use Rattle.storage.specs.Answers.{Step, counted}

-- the first n of the words that a step gives
abbrev pub first_words : (n : ℕ) → Step (List ℕ) → Step (List ℕ)
first_words n (Ok words) = Ok (counted (take n words.value) words.count)
first_words n (Err e) = Err e
