-- A record, as words and as bytes.
use Prim.Native.Nat.{ℕ, ◌+◌, ◌*◌, ◌/◌, ◌%◌, ◌^◌}
use native.Mathlib.Omega.{arith}
use mathlib.Core.Path.{◌≡◌, refl, ap, ◌∙◌}
use mathlib.Core.Bool.{Bool, true, false}
use mathlib.Core.List.{[], ◌∷◌, ◌++◌}
use lib.Bits.{bit_and, bit_or}
use Rattle.std.specs.Int.{from_bool}
use Rattle.std.proofs.lemmas.Nat.{or_shifted, and_mask}
use Rattle.trail.specs.Words.{big_endian}
use Rattle.trail.specs.Records.{flag}

-- the expanded flag, as the number of a `bool`
pub flag_number : (b : Bool) → from_bool b ≡ flag b
flag_number false = refl
flag_number true = refl

-- a halfword and two bytes share no bit of their word, and lose none
pub halfword_bytes : (a b c : ℕ)
    → big_endian 4 (bit_or (bit_or (a * 2 ^ 16 % 2 ^ 32) (b % 256 * 2 ^ 8 % 2 ^ 32)) (c % 256))
    ≡ big_endian 2 a ++ (big_endian 1 b ++ big_endian 1 c)
halfword_bytes a b c =
    let h = a % 2 ^ 16 in
    let halfword : a * 2 ^ 16 % 2 ^ 32 ≡ h * 2 ^ 16 = omega arith in
    let left : b % 256 * 2 ^ 8 % 2 ^ 32 ≡ b % 256 * 2 ^ 8 = omega arith in
    let three : h * 2 ^ 16 + b % 256 * 2 ^ 8 ≡ (h * 2 ^ 8 + b % 256) * 2 ^ 8 = omega arith in
    let sum = (λ i. bit_or (bit_or (halfword i) (left i)) (c % 256))
    ∙ ap (λ n. bit_or n (c % 256)) (or_shifted h 16 (b % 256 * 2 ^ 8) (omega arith) ∙ three)
    ∙ or_shifted (h * 2 ^ 8 + b % 256) 8 (c % 256) (omega arith) in
    let v = (h * 2 ^ 8 + b % 256) * 2 ^ 8 + c % 256 in
    let first : v / 16777216 % 256 ≡ a / 256 % 256 = omega arith in
    let second : v / 65536 % 256 ≡ a % 256 = omega arith in
    let third : v / 256 % 256 ≡ b % 256 = omega arith in
    let fourth : v % 256 ≡ c % 256 = omega arith in
    ap (big_endian 4) sum ∙ λ i. first i ∷ second i ∷ third i ∷ fourth i ∷ []

-- a doubleword is two words, left first
pub two_words : (v : ℕ) → big_endian 4 (v / 4294967296) ++ big_endian 4 (v % 4294967296) ≡ big_endian 8 v
two_words v =
    let a : v / 4294967296 / 16777216 % 256 ≡ v / 256 ^ 7 % 256 = omega arith in
    let b : v / 4294967296 / 65536 % 256 ≡ v / 256 ^ 6 % 256 = omega arith in
    let c : v / 4294967296 / 256 % 256 ≡ v / 256 ^ 5 % 256 = omega arith in
    let e : v % 4294967296 / 16777216 % 256 ≡ v / 256 ^ 3 % 256 = omega arith in
    let f : v % 4294967296 / 65536 % 256 ≡ v / 256 ^ 2 % 256 = omega arith in
    let g : v % 4294967296 / 256 % 256 ≡ v / 256 % 256 = omega arith in
    let h : v % 4294967296 % 256 ≡ v % 256 = omega arith in
    λ i. a i ∷ b i ∷ c i ∷ v / 4294967296 % 256 ∷ e i ∷ f i ∷ g i ∷ h i ∷ []

-- the right one by a mask
pub masked_words : (v : ℕ) → big_endian 4 (v / 4294967296) ++ big_endian 4 (bit_and v 4294967295) ≡ big_endian 8 v
masked_words v = ap (λ low. big_endian 4 (v / 4294967296) ++ big_endian 4 low) (and_mask v 32) ∙ two_words v
