-- Packing and taking apart are each other's inverse: for every record and every 21 words, for every number of 64 bits,
-- and for every answer whose parts fit their fields. Those of an attempt do (the promise of `vma_attempt`).
use Rattle.std.specs.Prelude.{ℕ, ◌<◌, ◌^◌, ◌≡◌, List, length, get_or}
use Rattle.rules.specs.declared.guest.Guest.{Guest}
use Rattle.rules.specs.Endings.{Numbers}
use Rattle.vma.specs.Words.{guest_of, words_of}
use Rattle.vma.specs.Packed.{packed, numbers_in, count_in}

-- the parts of an answer fit their fields
pub record Fits (n : Numbers) (count : ℕ) : Type 0 where
  pub number : n.number < 2 ^ 8
  pub code : n.code < 2 ^ 8
  pub references : count < 2 ^ 16
  pub address : n.address < 2 ^ 32

pub record PackingInverse : Type 0 where
  pub guest : (g : Guest) → g.psw < 2 ^ 64 → length g.general ≡ 16 → guest_of (words_of g) ≡ g
  pub words : (w : List ℕ) → length w ≡ 21 → get_or w 0 0 < 2 ^ 32 → get_or w 1 0 < 2 ^ 32 → words_of (guest_of w) ≡ w
  pub answer : (n : Numbers) (count : ℕ) → Fits n count
      → (numbers_in (packed n count) ≡ n) × (count_in (packed n count) ≡ count)
  pub number : (r : ℕ) → r < 2 ^ 64 → packed (numbers_in r) (count_in r) ≡ r
