-- The first halfword of the virtual PSW, and which bits of its byte 0, the system mask, change.
use Rattle.std.specs.Prelude.{ℕ, Bool, false, not, ◌&&◌, ◌||◌, List, [], ◌∷◌}
use Rattle.rules.specs.Bits.{bit, halfword}

abbrev pub mask_in : (first : ℕ) → ℕ
mask_in first = halfword 0 7 first

-- virtual PSW bit 12: the EC mode
abbrev pub extended_in : (first : ℕ) → Bool
extended_in first = bit 16 12 first

-- does the test hold at one of these places?
abbrev pub at_any : List ℕ → (ℕ → Bool) → Bool
at_any [] test = false
at_any (i ∷ rest) test = test i || at_any rest test

abbrev pub all_bits : List ℕ
all_bits = 0 ∷ 1 ∷ 2 ∷ 3 ∷ 4 ∷ 5 ∷ 6 ∷ 7 ∷ []

-- bit i of a mask goes from zero to one
abbrev pub rises : (old new i : ℕ) → Bool
rises old new i = not (bit 8 i old) && bit 8 i new

-- from one to zero
abbrev pub falls : (old new i : ℕ) → Bool
falls old new i = rises new old i

abbrev pub changes : (old new i : ℕ) → Bool
changes old new i = rises old new i || falls old new i
