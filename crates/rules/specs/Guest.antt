-- A guest's record, document 01's word for its real PSW and registers: its fields, effective addresses, and the move of
-- the instruction address.
-- Document 01, "What is modelled" and "Addresses and translation".
use Rattle.std.specs.Prelude.{ℕ, zero, suc, ◌+◌, ◌-◌, ◌*◌, ◌^◌, Bool, not, ◌&&◌, ◌==◌, nat_lt, slice_index, slice_set}
pub use Rattle.rules.specs.declared.guest.Guest.{Guest}
use Rattle.rules.specs.Bits.{bits, bit, word, halfword}
use Rattle.rules.specs.Machine.{◌⊕◌}

-- ---- the real PSW

abbrev pub instruction_address : Guest → ℕ
instruction_address g = bits 64 40 63 g.psw

abbrev pub dat_on : Guest → Bool
dat_on g = bit 64 5 g.psw

abbrev pub psw_key : Guest → ℕ
psw_key g = bits 64 8 11 g.psw

abbrev pub extended_control : Guest → Bool
extended_control g = bit 64 12 g.psw

abbrev pub problem_state : Guest → Bool
problem_state g = bit 64 15 g.psw

-- the instruction address moved on by n bytes; nothing else changes
abbrev pub advance : Guest → (n : ℕ) → Guest
advance g n = record {
  psw = g.psw - instruction_address g + (instruction_address g ⊕ n);
  general = g.general;
  cr0 = g.cr0;
  cr1 = g.cr1;
  cr6 = g.cr6;
}

-- another condition code, in bits 18-19
abbrev pub with_code : Guest → (code : ℕ) → Guest
with_code g code = record {
  psw = g.psw - bits 64 18 19 g.psw * 2 ^ 44 + bits 2 0 1 code * 2 ^ 44;
  general = g.general;
  cr0 = g.cr0;
  cr1 = g.cr1;
  cr6 = g.cr6;
}

-- ---- registers

abbrev pub register : Guest → (r : ℕ) → ℕ
register g r = slice_index g.general r

-- another word in register r
abbrev pub with_register : Guest → (r new : ℕ) → Guest
with_register g r new = record {
  psw = g.psw;
  general = slice_set g.general r new;
  cr0 = g.cr0;
  cr1 = g.cr1;
  cr6 = g.cr6;
}

-- another byte in bits 24-31 of register r
abbrev pub with_byte : Guest → (r byte : ℕ) → Guest
with_byte g r byte = with_register g r (word 0 23 (register g r) * 256 + bits 8 0 7 byte)

-- another address in register r: bits 8-31, and zeros before them
abbrev pub with_address : Guest → (r address : ℕ) → Guest
with_address g r address = with_register g r (word 8 31 address)

-- base 0 means zero
abbrev pub base : Guest → (r : ℕ) → ℕ
base g zero = 0
base g (suc r) = word 8 31 (register g (suc r))

-- the address that a second halfword names: bits 0-3 the base, 4-15 the displacement
abbrev pub effective : Guest → (second : ℕ) → ℕ
effective g second = halfword 4 15 second ⊕ base g (halfword 0 3 second)

-- in the RX format an index register is added as a second base
abbrev pub indexed : Guest → (index second : ℕ) → ℕ
indexed g index second = effective g second ⊕ base g index

-- ---- control register 0

-- with bit 3 one, logical addresses 0 to 511 are protected from operand stores: document 02, R-6
abbrev pub protects_low : Guest → (address : ℕ) → Bool
protects_low g address = bit 32 3 g.cr0 && nat_lt address 512

-- ---- control register 6

-- bits 0-3 are 10X0: step 1 of STCTL, STNSM, STOSM, RRB and LRA
abbrev pub assists_control : Guest → Bool
assists_control g = word 0 1 g.cr6 == 0b10 && not (bit 32 3 g.cr6)

-- the address of MICBLOK: bits 8-28, then three zeros
abbrev pub micblok : Guest → ℕ
micblok g = word 8 28 g.cr6 * 8
