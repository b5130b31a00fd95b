-- SET SYSTEM MASK: how it can end, and at most 13 references.
use Rattle.std.proofs.Common.{ℕ, ◌^◌, ◌<◌, refl, arith}
use Rattle.rules.specs.Machine.{◌⊕◌}
use Rattle.rules.specs.Guest.{Guest, effective, instruction_address}
use Rattle.rules.specs.Steps.{◌>>=◌, fetch_bytes, stop_if}
use Rattle.rules.specs.Access.{second_halfword}
use Rattle.rules.specs.Call.{Call, complete_as}
use Rattle.rules.specs.SetSystemMask.{mask_operand, mask_target, set_system_mask}
use Rattle.rules.proofs.Computing.{masking}
use Rattle.rules.proofs.Within.{Within, Any, within_then}
use Rattle.rules.proofs.Fits.{
  completes,
  Stops,
  stops,
  stops_expanded,
  Exceptions,
  logical_fetch-within,
  Fits,
  fits_then,
  exceptions,
}

ssm_exceptions : (a : ℕ) → a < 2 ^ 24 → Exceptions (Stops 0x80) a
ssm_exceptions a l = exceptions 0x80 a l (refl, refl, refl, refl, refl)

mask_operand-within : (g : Guest) → Within (Stops 0x80) Any (mask_operand g) 10
unfolding ◌>>=◌ fetch_bytes stop_if mask_operand
mask_operand-within g = (
  λ t. stops refl refl refl,
  λ t. (
    stops refl refl refl,
    λ creg. (
      stops refl refl refl,
      λ control. (
        λ t. stops refl refl refl,
        λ t.
            within_then (Stops 0x80) (λ v. Unit {0}) Any (λ r j k l h. tt) (second_halfword g) _ 4 4 8 (omega arith)
            (logical_fetch-within _ g (instruction_address g ⊕ 2) 2 (ssm_exceptions _ (omega arith)))
            (λ second t. logical_fetch-within _ g (effective g second) 1 (ssm_exceptions _ (omega arith))),
      ),
    ),
  ),
)

mask_target-within : (c : Call) (new : ℕ) → Within (Stops 0x80) Any (mask_target c new) 2
unfolding masking
mask_target-within c new = (
  stops refl refl refl,
  λ vpsw. (
    stops refl refl refl,
    λ first. (
      λ t. stops_expanded 0x80 (stops refl refl refl) (stops refl refl refl) c,
      λ t. (λ t. stops refl refl refl, λ t. tt),
    ),
  ),
)

pub set_system_mask-fits : (c : Call) → Fits 0x80 c (set_system_mask c) 13
unfolding set_system_mask complete_as
set_system_mask-fits c =
    fits_then 0x80 c (mask_operand c.guest) _ 10 3 13 (omega arith) (mask_operand-within c.guest)
    (λ new. fits_then 0x80 c (mask_target c new) _ 2 1 3 (omega arith) (mask_target-within c new)
    (λ at. completes refl refl (omega arith)))
