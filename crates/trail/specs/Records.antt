-- A record of a call, 128 bytes, and the trailer, 16 bytes. Request R-1.
use Rattle.std.specs.Prelude.{ℕ, Bool, cond, List, [], ◌∷◌, ◌++◌, map}
use Rattle.rules.specs.declared.call.Call.{Call}
use Rattle.rules.specs.declared.answer.Answer.{Answer}
use Rattle.rules.specs.declared.guest.Guest.{Guest}
use Rattle.rules.specs.Guest.{instruction_address, register}
use Rattle.rules.specs.Endings.{numbers}
use Rattle.trail.specs.Words.{big_endian, words_bytes}
pub use Rattle.trail.specs.declared.entry.Entry.{Entry}

-- what is written down of a call: the ending by its numbers, the next address from the record handed back, and the PSW
-- and registers as before the call
abbrev pub entry_of : (guest_number : ℕ) → Call → Answer → Entry
entry_of number c a = record {
  number = number;
  call = c;
  ending = (numbers a.ending).number;
  code = (numbers a.ending).code;
  count = a.count;
  next = instruction_address a.guest;
  translation = (numbers a.ending).address;
}

abbrev pub flag : Bool → ℕ
flag b = cond b 1 0

-- general registers 0 to 15
abbrev pub general_registers : Guest → List ℕ
general_registers g =
    map (register g) (0 ∷ 1 ∷ 2 ∷ 3 ∷ 4 ∷ 5 ∷ 6 ∷ 7 ∷ 8 ∷ 9 ∷ 10 ∷ 11 ∷ 12 ∷ 13 ∷ 14 ∷ 15 ∷ [])

-- the fields in order, each with its bytes
unfoldable pub record_bytes : (sequence : ℕ) → Entry → List ℕ
record_bytes sequence e =
    big_endian 4 sequence
    ++ big_endian 4 e.number
    ++ big_endian 2 e.call.first
    ++ big_endian 1 (flag e.call.installed)
    ++ big_endian 1 e.ending
    ++ big_endian 2 e.code
    ++ big_endian 2 e.count
    ++ big_endian 4 e.next
    ++ big_endian 4 e.translation
    ++ big_endian 8 e.call.guest.psw
    ++ words_bytes (general_registers e.call.guest)
    ++ big_endian 4 e.call.guest.cr0
    ++ big_endian 4 e.call.guest.cr1
    ++ big_endian 4 e.call.guest.cr6
    ++ big_endian 20 0

abbrev pub version : ℕ
version = 1

abbrev pub trailer_bytes : (distance held turned_away : ℕ) → List ℕ
trailer_bytes distance held turned_away =
    big_endian 4 distance
    ++ big_endian 4 held
    ++ big_endian 4 turned_away
    ++ big_endian 4 version
