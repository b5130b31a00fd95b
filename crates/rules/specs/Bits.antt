-- Bits of numbers. Bit 0 is leftmost, so it is said each time how wide the number is.
use Rattle.std.specs.Prelude.{ℕ, zero, suc, ◌+◌, ◌-◌, ◌/◌, ◌%◌, ◌^◌, Bool, ◌==◌}

-- x without its n rightmost bits (`x / 1` would not compute to `x`)
abbrev pub without : ℕ → ℕ → ℕ
without zero x = x
without (suc n) x = x / 2 ^ suc n

-- bits first to last of a number of so many bits
abbrev pub bits : (width first last : ℕ) → ℕ → ℕ
bits width first last x = without (width - (last + 1)) x % 2 ^ (last + 1 - first)

-- is the bit at this place one?
abbrev pub bit : (width place : ℕ) → ℕ → Bool
bit width place x = bits width place place x == 1

-- bits first to last of a word, and of a halfword
abbrev pub word : (first last : ℕ) → ℕ → ℕ
word = bits 32

abbrev pub halfword : (first last : ℕ) → ℕ → ℕ
halfword = bits 16
