-- A run: a start, and then writing calls, each given the number that the one before it handed back, with the buffer
-- left alone in between.
use Rattle.std.specs.Prelude.{ℕ, ◌+◌, cond, List, [], ◌∷◌, ◌++◌, ltb}
use Rattle.trail.specs.Records.{Entry, record_bytes}
use Rattle.trail.specs.Trails.{Trail, start, write}

abbrev pub write_on : Trail → Entry → Trail
write_on t e = write t.buffer t.held e

abbrev pub write_all : Trail → List Entry → Trail
write_all t [] = t
write_all t (e ∷ es) = write_all (write_on t e) es

abbrev pub run : (buffer : List ℕ) → List Entry → Trail
run b es = write_all (start b) es

-- those whose record went in: the number handed back rose
abbrev pub went_in : Trail → List Entry → List Entry
went_in t [] = []
went_in t (e ∷ es) =
    let rest = went_in (write_on t e) es in
    cond (ltb t.held (write_on t e).held) (e ∷ rest) rest

-- records one after the other, with sequence numbers from n on
abbrev pub records_from : (n : ℕ) → List Entry → List ℕ
records_from n [] = []
records_from n (e ∷ es) = record_bytes n e ++ records_from (n + 1) es
