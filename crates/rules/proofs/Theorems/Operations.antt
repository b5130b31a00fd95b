-- The operation byte by the table, and the operation code: both decide alike.
use Rattle.std.proofs.Common.{
  ◌≡◌,
  ℕ,
  ◌/◌,
  ◌%◌,
  ◌<◌,
  Bool,
  true,
  false,
  cond,
  not,
  ◌&&◌,
  ◌||◌,
  eqb,
  sym,
  refl,
  ap,
  ◌∙◌,
  subst,
  ⊎_elim,
  arith,
  ne_eqb,
  eqb-true,
}
use mathlib.Core.Bool.{and-true, or-false}
use Rattle.operations.specs.Operations.{length_of, begins_assisted}
use Rattle.operations.proofs.Junctions.{either_true}
use Rattle.rules.specs.Call.{operation_byte}
use Rattle.rules.specs.Theorems.Answers.{instruction_length}
use Rattle.rules.specs.Theorems.Operations.{assisted_code, TableAsByCode}

-- what has P at each of the eight has it at an assisted operation code
pub each : (P : ℕ → Type 0) → P 0x08 → P 0x09 → P 0x80 → P 0xac → P 0xad → P 0xb1 → P 0xb213 → P 0xb6 → (op : ℕ)
    → assisted_code op ≡ true → P op
each P a b c d e f g i op h =
    let at : (code : ℕ) → P code → eqb op code ≡ true → P op = λ code p t. subst P (sym (eqb-true op code t)) p in
    let or : (b : Bool) (code : ℕ) → P code → (b ≡ true → P op) → (b || eqb op code) ≡ true → P op =
    λ b code p first t. ⊎_elim first (at code p) (either_true b _ t) in
    or _ 0xb6 i (or _ 0xb213 g (or _ 0xb1 f (or _ 0xad e (or _ 0xac d (or _ 0x80 c (or _ 0x09 b (at 0x08 a))))))) h

-- a first halfword, its first byte, and whether that is B2
module _ (first byte : ℕ) (e : byte ≡ first / 256 % 256) where
  assisted : (two : Bool) → eqb byte 0xb2 ≡ two
      → (begins_assisted byte && (not two || eqb (cond two first byte) 0xb213)) ≡ assisted_code (cond two first byte)
  assisted true t =
      let b2 = eqb-true byte 0xb2 t in
      let no : (code : ℕ) → code < 256 → eqb first code ≡ false = λ code l. ne_eqb first code (λ h. omega arith) in
      ap (λ b. begins_assisted b && eqb first 0xb213) b2
      ∙ sym (simp (
        no 0x08 (omega arith),
        no 0x09 (omega arith),
        no 0x80 (omega arith),
        no 0xac (omega arith),
        no 0xad (omega arith),
        no 0xb1 (omega arith),
        no 0xb6 (omega arith),
        or-false,
      ))
  assisted false t =
      let no : eqb byte 0xb213 ≡ false = ne_eqb byte 0xb213 (λ h. omega arith) in
      simp (t, no, and-true)

  length : (two : Bool) → eqb byte 0xb2 ≡ two → assisted_code (cond two first byte) ≡ true
      → length_of byte ≡ instruction_length (cond two first byte)
  length true t h =
      let b2 = eqb-true byte 0xb2 t in
      ap length_of b2 ∙ sym (each (λ op. 255 < op → instruction_length op ≡ 4) (λ l. absurd (omega arith))
      (λ l. absurd (omega arith)) (λ l. refl) (λ l. refl) (λ l. refl) (λ l. refl) (λ l. refl) (λ l. refl) first h
      (omega arith))
  length false t h =
      each (λ op. op < 256 → length_of op ≡ instruction_length op) (λ l. refl) (λ l. refl) (λ l. refl) (λ l. refl)
      (λ l. refl) (λ l. refl) (λ l. absurd (omega arith)) (λ l. refl) byte h (omega arith)

pub table_as_by_code : TableAsByCode
table_as_by_code c =
    let two = eqb (operation_byte c) 0xb2 in
    let code = assisted c.first (operation_byte c) (omega arith) two refl in
    record {
      assisted = code;
      length = λ h. length c.first (operation_byte c) (omega arith) two refl (sym code ∙ h);
    }
