-- Numbers that are put side by side by shifts and `|`.
use Prim.Native.Nat.{ℕ, ◌+◌, ◌*◌, ◌%◌, ◌^◌, ◌<◌}
use native.Mathlib.Omega.{arith}
use mathlib.Core.Path.{◌≡◌, ap, ◌∙◌}
use lib.Bits.{bit_or}
use Rattle.std.proofs.lemmas.Nat.{or_shifted}

-- fields of 8 bits, 8, 16 and 32 share no bit, and lose none
pub four_fields : (a b c d : ℕ) → d < 2 ^ 32
    → bit_or
    (bit_or (bit_or (a % 256 * 2 ^ 56 % 2 ^ 64) (b % 256 * 2 ^ 48 % 2 ^ 64)) (c % 65536 * 2 ^ 32 % 2 ^ 64))
    d
    ≡ a % 256 * 2 ^ 56 + b % 256 * 2 ^ 48 + c % 65536 * 2 ^ 32 + d
four_fields a b c d h =
    let x = a % 256 in
    let y = b % 256 in
    let z = c % 65536 in
    let first : x * 2 ^ 56 % 2 ^ 64 ≡ x * 2 ^ 56 = omega arith in
    let second : y * 2 ^ 48 % 2 ^ 64 ≡ y * 2 ^ 48 = omega arith in
    let third : z * 2 ^ 32 % 2 ^ 64 ≡ z * 2 ^ 32 = omega arith in
    let two : x * 2 ^ 56 + y * 2 ^ 48 ≡ (x * 2 ^ 8 + y) * 2 ^ 48 = omega arith in
    let three : (x * 2 ^ 8 + y) * 2 ^ 48 + z * 2 ^ 32 ≡ ((x * 2 ^ 8 + y) * 2 ^ 16 + z) * 2 ^ 32 = omega arith in
    (λ i. bit_or (bit_or (bit_or (first i) (second i)) (third i)) d)
    ∙ ap (λ n. bit_or (bit_or n (z * 2 ^ 32)) d) (or_shifted x 56 (y * 2 ^ 48) (omega arith) ∙ two)
    ∙ ap (λ n. bit_or n d) (or_shifted (x * 2 ^ 8 + y) 48 (z * 2 ^ 32) (omega arith) ∙ three)
    ∙ or_shifted ((x * 2 ^ 8 + y) * 2 ^ 16 + z) 32 d h
    ∙ omega arith
