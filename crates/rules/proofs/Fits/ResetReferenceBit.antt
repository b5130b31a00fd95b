-- RESET REFERENCE BIT: how it can end, and at most 12 references.
use Rattle.std.proofs.Common.{ℕ, Option, Some, None, refl, ap, arith}
use Rattle.operations.specs.Operations.{length_of}
use Rattle.rules.specs.Machine.{◌⊕◌}
use Rattle.rules.specs.Guest.{instruction_address, assists_control, effective, with_code}
use Rattle.rules.specs.Steps.{Steps, ◌>>=◌}
use Rattle.rules.specs.Access.{second_halfword}
use Rattle.rules.specs.Call.{Call, operation_byte, Completion}
use Rattle.rules.specs.SwapTables.{FoundPage, places, segment_table, find_page}
use Rattle.rules.specs.ResetReferenceBit.{store_reset, reset_block_key, reset_by, reset_reference_bit}
use Rattle.rules.proofs.Computing.{fetching}
use Rattle.rules.proofs.Fits.{
  Advanced,
  completes,
  Stops,
  stops,
  Exceptions,
  logical_fetch-within,
  Fits,
  fits_then,
  exceptions,
}
use Rattle.rules.proofs.Fits.ConditionCode.{code_forgotten}
use Rattle.rules.proofs.Fits.SwapTables.{WayListed, segment_table-within, find_page-within}

way : WayListed 0xb213 places
way = record {
  refused = stops refl refl refl;
  table = stops refl refl refl;
  segment = stops refl refl refl;
  swaps = stops refl refl refl;
  swap = stops refl refl refl;
  page = stops refl refl refl;
}

-- ---- the record: the condition code is replaced, and nothing else

advanced : (c : Call) (code : ℕ) → Advanced 0xb213 c (with_code c.guest code)
advanced c code =
    let g = c.guest in
    ap (λ p. record { psw = p; general = g.general; cr0 = g.cr0; cr1 = g.cr1; cr6 = g.cr6 })
    (code_forgotten (length_of (operation_byte c)) g.psw code)

-- ---- the instruction

reset_block_key-fits : (c : Call) (p : FoundPage) (block : ℕ) → Fits 0xb213 c (reset_block_key p block) 3
unfolding fetching store_reset reset_block_key
reset_block_key-fits c p block = (stops refl refl refl, λ old. completes refl (advanced c _) (omega arith))

-- steps 12 and 13, and from step 5
abbrev reset : FoundPage → Steps Completion
reset p = reset_by p p.block

abbrev reset_at : Call → (rseg second : ℕ) → Steps Completion
reset_at c rseg second = find_page places rseg (effective c.guest second) >>= reset

reset_by-fits : (c : Call) (p : FoundPage) (block : Option ℕ) → Fits 0xb213 c (reset_by p block) 3
unfolding fetching store_reset
reset_by-fits c p None = completes refl (advanced c _) (omega arith)
reset_by-fits c p (Some block) = reset_block_key-fits c p block

reset_at-fits : (c : Call) (rseg second : ℕ) → Fits 0xb213 c (reset_at c rseg second) 7
reset_at-fits c rseg second =
    fits_then 0xb213 c (find_page places rseg _) reset 4 3 7 (omega arith)
    (find_page-within 0xb213 places way rseg _) (λ p. reset_by-fits c p p.block)

pub reset_reference_bit-fits : (c : Call) → Fits 0xb213 c (reset_reference_bit c) 12
unfolding fetching reset_reference_bit
reset_reference_bit-fits c =
    let g = c.guest in
    let x : Exceptions (Stops 0xb213) (instruction_address g ⊕ 2) =
    exceptions 0xb213 _ (omega arith) (refl, refl, refl, refl, refl) in
    fits_then 0xb213 c (segment_table (assists_control g) places g) _ 1 11 12 (omega arith)
    (segment_table-within 0xb213 places way _ g)
    (λ rseg. fits_then 0xb213 c (second_halfword g) (reset_at c rseg) 4 7 11 (omega arith)
    (logical_fetch-within (Stops 0xb213) g _ 2 x) (reset_at-fits c rseg))
