-- Numbers in a buffer, big-endian.
use Rattle.std.specs.Prelude.{ℕ, zero, suc, ◌+◌, ◌*◌, ◌^◌, List, [], ◌∷◌, ◌++◌, get_or}
use Rattle.rules.specs.Machine.{byte_of}

-- a number in so many bytes, of which the last is its rightmost
abbrev pub big_endian : (bytes value : ℕ) → List ℕ
big_endian zero v = []
big_endian (suc n) v = byte_of n v ∷ big_endian n v

-- words of 4 bytes, one after the other
abbrev pub words_bytes : List ℕ → List ℕ
words_bytes [] = []
words_bytes (w ∷ ws) = big_endian 4 w ++ words_bytes ws

-- the word at a place of the buffer
abbrev pub word_at : (buffer : List ℕ) (at : ℕ) → ℕ
word_at b at =
    get_or b at 0 * 2 ^ 24 + get_or b (at + 1) 0 * 2 ^ 16 + get_or b (at + 2) 0 * 2 ^ 8 + get_or b (at + 3) 0
