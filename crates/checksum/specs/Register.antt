-- The register of CRC-32 (ISO-HDLC, as in zlib): after a byte, and after bytes one by one.
use Rattle.std.specs.Prelude.{ℕ, ◌+◌, ◌*◌, ◌/◌, ◌%◌, cond, List, [], ◌∷◌, ◌++◌, map, get_or, eqb}
use Rattle.std.specs.Int.Bits.{bit_xor}

-- one bit: shifted out at the right, and if it is one the polynomial comes in
abbrev pub step : ℕ → ℕ
step r = cond (eqb (r % 2) 1) (bit_xor (r / 2) 0xedb88320) (r / 2)

abbrev pub eight : ℕ → ℕ
eight r = step (step (step (step (step (step (step (step r)))))))

abbrev pub digits : List ℕ
digits = 0 ∷ 1 ∷ 2 ∷ 3 ∷ 4 ∷ 5 ∷ 6 ∷ 7 ∷ 8 ∷ 9 ∷ 10 ∷ 11 ∷ 12 ∷ 13 ∷ 14 ∷ 15 ∷ []

-- eight steps from each value of a byte's right four bits, then from each of its left four
abbrev pub steps : List ℕ
steps = map eight digits ++ map (λ d. eight (16 * d)) digits

unfoldable pub after_byte : (register byte : ℕ) → ℕ
after_byte r b =
    let next = bit_xor (r % 256) b in
    bit_xor (bit_xor (get_or steps (next % 16) 0) (get_or steps (16 + next / 16 % 16) 0)) (r / 256)

abbrev pub over_bytes : (register : ℕ) → List ℕ → ℕ
over_bytes r [] = r
over_bytes r (b ∷ bs) = over_bytes (after_byte r b) bs

-- the bytes of a word
abbrev pub bytes_of : (word : ℕ) → List ℕ
bytes_of w = w / 16777216 ∷ w / 65536 % 256 ∷ w / 256 % 256 ∷ w % 256 ∷ []
