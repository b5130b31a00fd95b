-- SET SYSTEM MASK (80), S format. Document 01, "SSM"; GA22-7074, pages 19 and 20.
-- The operand byte becomes byte 0 of the virtual PSW.
use Rattle.std.specs.Prelude.{ℕ, Bool, not, ◌&&◌, ◌||◌, [], ◌∷◌, ◌==◌}
use Rattle.rules.specs.Bits.{bit, word}
use Rattle.rules.specs.Writes.{store}
use Rattle.rules.specs.Guest.{Guest, effective}
use Rattle.rules.specs.Endings.{refuse}
use Rattle.rules.specs.Steps.{Steps, done, ◌>>=◌, ◌>>◌, stop_if}
use Rattle.rules.specs.Access.{logical_fetch, second_halfword}
use Rattle.rules.specs.ControlFields.{control_word, control_halfword, miccreg, micvpsw, address_in, pending}
use Rattle.rules.specs.Masks.{mask_in, extended_in, at_any, all_bits, rises, changes}
use Rattle.rules.specs.Call.{Call, expanded, Completion, complete}

-- steps 1 to 6: the operand byte
unfoldable pub mask_operand : Guest → Steps ℕ
mask_operand g = do
  stop_if (not (word 0 1 g.cr6 == 0b10)) refuse  -- 1
  creg ← miccreg 2 g  -- 2
  control ← control_word 3 (address_in creg)  -- 3: virtual control register 0
  stop_if (bit 32 1 control) refuse  -- 4
  second ← second_halfword g  -- 5
  logical_fetch g (effective g second) 1  -- 6

-- step 9, in the EC mode: bit 1 or 5 would change, or new bits 0, 2, 3 or 4 are not all zero, or one is pending and
-- bit 6 or 7 goes from zero to one
abbrev pub mask_needs_expanded : (pending : Bool) (old new : ℕ) → Bool
mask_needs_expanded pending old new =
    at_any (1 ∷ 5 ∷ []) (changes old new)
    || at_any (0 ∷ 2 ∷ 3 ∷ 4 ∷ []) (λ i. bit 8 i new)
    || (pending && at_any (6 ∷ 7 ∷ []) (rises old new))

-- and in the BC mode: one is pending and any bit goes from zero to one
abbrev pub mask_refused : (pending : Bool) (old new : ℕ) → Bool
mask_refused pending old new = pending && at_any all_bits (rises old new)

-- steps 7 to 9: the address of the virtual PSW, where the new mask may be put
unfoldable pub mask_target : Call → (new : ℕ) → Steps ℕ
mask_target c new = do
  vpsw ← micvpsw 7 c.guest  -- 7
  first ← control_halfword 8 (address_in vpsw)  -- 8
  let ec = extended_in first
  stop_if (ec && mask_needs_expanded (pending vpsw) (mask_in first) new) (expanded c)  -- 9
  stop_if (not ec && mask_refused (pending vpsw) (mask_in first) new) refuse  -- 9
  done (address_in vpsw)

unfoldable pub set_system_mask : Call → Steps Completion
set_system_mask c = do
  new ← mask_operand c.guest
  at ← mask_target c new
  complete (store at 1 new ∷ [])  -- 10
