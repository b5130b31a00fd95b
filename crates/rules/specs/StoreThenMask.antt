-- STORE THEN AND SYSTEM MASK (AC) and STORE THEN OR SYSTEM MASK (AD), SI format.
-- Document 01, "STNSM, STOSM"; GA22-7074, pages 21 and 22.
-- Byte 0 of the virtual PSW is stored at the operand, and is then ANDed, or ORed, with the immediate.
use Rattle.std.specs.Prelude.{ℕ, Bool, not, ◌&&◌, ◌||◌, [], ◌∷◌, bit_and, bit_or}
use Rattle.rules.specs.Writes.{store}
use Rattle.rules.specs.Guest.{Guest, assists_control, effective}
use Rattle.rules.specs.Endings.{refuse}
use Rattle.rules.specs.Steps.{Steps, ◌>>=◌, ◌>>◌, stop_if, ending_as}
use Rattle.rules.specs.Access.{store_test, second_halfword}
use Rattle.rules.specs.ControlFields.{control_halfword, micvpsw, address_in, pending}
pub use Rattle.rules.specs.declared.mask_change.MaskChange.{MaskChange}
pub use Rattle.rules.specs.declared.mask_change.MaskChange.TheVariants.{And, Or}
use Rattle.rules.specs.Masks.{mask_in, extended_in, at_any, all_bits, rises, falls}
use Rattle.rules.specs.Call.{Call, expanded, immediate, Completion, complete}

-- step 4: what the new mask is
abbrev pub new_mask : MaskChange → (old immediate : ℕ) → ℕ
new_mask And = bit_and
new_mask Or = bit_or

-- and when the expanded assist is needed for it
abbrev pub needs_expanded : MaskChange → (ec pending : Bool) (old new : ℕ) → Bool
-- EC, and bit 1 or 5 goes to zero
needs_expanded And ec pending old new = ec && at_any (1 ∷ 5 ∷ []) (falls old new)
-- EC, and any of bits 0-5 goes to one; or one is pending, and any bit goes to one
needs_expanded Or ec pending old new =
    (ec && at_any (0 ∷ 1 ∷ 2 ∷ 3 ∷ 4 ∷ 5 ∷ []) (rises old new)) || (pending && at_any all_bits (rises old new))

-- steps 5 and 6: the real address of the operand, tested for a store
unfoldable pub byte_operand : Guest → Steps ℕ
byte_operand g = do
  second ← ending_as (λ e. refuse) (second_halfword g)  -- 5: any access exception refuses
  store_test g (effective g second)  -- 6

unfoldable pub store_then : MaskChange → Call → Steps Completion
store_then change c = do
  stop_if (not (assists_control c.guest)) refuse  -- 1
  vpsw ← micvpsw 2 c.guest  -- 2
  first ← control_halfword 3 (address_in vpsw)  -- 3
  let old = mask_in first
  let new = new_mask change old (immediate c)
  stop_if (needs_expanded change (extended_in first) (pending vpsw) old new) (expanded c)  -- 4
  real ← byte_operand c.guest
  complete (store real 1 old ∷ store (address_in vpsw) 1 new ∷ [])  -- 7: the old mask, then the new one

abbrev pub store_then_and : Call → Steps Completion
store_then_and = store_then And

abbrev pub store_then_or : Call → Steps Completion
store_then_or = store_then Or
