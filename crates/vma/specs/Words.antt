-- A guest's record as 21 words: PSW bits 0-31, PSW bits 32-63, general registers 0 to 15, control registers 0, 1 and 6.
use Rattle.std.specs.Prelude.{ℕ, ◌+◌, ◌*◌, ◌^◌, List, [], ◌∷◌, ◌++◌, get_or, take, drop}
use Rattle.rules.specs.Bits.{bits}
use Rattle.rules.specs.declared.guest.Guest.{Guest}

abbrev pub guest_of : (words : List ℕ) → Guest
guest_of w = record {
  psw = get_or w 0 0 * 2 ^ 32 + get_or w 1 0;
  general = take 16 (drop 2 w);
  cr0 = get_or w 18 0;
  cr1 = get_or w 19 0;
  cr6 = get_or w 20 0;
}

abbrev pub words_of : Guest → List ℕ
words_of g =
    bits 64 0 31 g.psw ∷ bits 64 32 63 g.psw ∷ g.general ++ g.cr0 ∷ g.cr1 ∷ g.cr6 ∷ []
