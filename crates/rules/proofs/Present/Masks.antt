-- SET SYSTEM MASK, STORE THEN AND and STORE THEN OR SYSTEM MASK: the virtual PSW was fetched, the operand tested.
use Rattle.std.proofs.Common.{ℕ, ◌<◌}
use Rattle.rules.specs.Endings.{refuse}
use Rattle.rules.specs.Guest.{Guest, effective}
use Rattle.rules.specs.Steps.{◌>>=◌, fetch_bytes, stop_if, ending_as}
use Rattle.rules.specs.Access.{second_halfword}
use Rattle.rules.specs.Call.{Call, complete_as}
use Rattle.rules.specs.SetSystemMask.{mask_operand, mask_target, set_system_mask}
use Rattle.rules.specs.StoreThenMask.{MaskChange, byte_operand, store_then}
use Rattle.rules.proofs.Gives.{Gives, gives_then, gives_after}
use Rattle.rules.proofs.Present.{Sized, AllInside, first_there, byte_inside, store_test-gives}

-- ---- SSM

module _ (s k : ℕ) where
  pub mask_target-gives : (c : Call) (new : ℕ) → Gives s k (λ at. at < s) (mask_target c new)
  unfolding ◌>>=◌ fetch_bytes stop_if mask_target
  mask_target-gives c new = λ t vpsw there first. (λ t. tt, λ t. (λ t. tt, λ t. first_there s _ 1 there))

  pub set_system_mask-inside : (c : Call) → Gives s k (AllInside s k) (set_system_mask c)
  unfolding set_system_mask complete_as
  set_system_mask-inside c =
      gives_after s k (AllInside s k) (mask_operand c.guest) _
      (λ new. gives_then s k (λ at. at < s) (AllInside s k) (mask_target c new) _ (mask_target-gives c new)
      (λ at h. (byte_inside s at h, tt)))

-- ---- STNSM and STOSM

module _ (s k : ℕ) (z : Sized s k) where
  byte_operand-gives : (g : Guest) → Gives s k (λ real. real < s) (byte_operand g)
  unfolding byte_operand
  byte_operand-gives g =
      gives_after s k (λ real. real < s) (ending_as (λ e. refuse) (second_halfword g)) _
      (λ second. store_test-gives s k z g (effective g second) (λ real. real < s) (λ real there w. there))

  pub store_then-inside : (change : MaskChange) (c : Call) → Gives s k (AllInside s k) (store_then change c)
  unfolding ◌>>=◌ fetch_bytes stop_if complete_as store_then
  store_then-inside change c = (
    λ t. tt,
    λ t there vpsw there2 first. (
      λ t. tt,
      λ t.
          gives_then s k (λ real. real < s) (AllInside s k) (byte_operand c.guest) _ (byte_operand-gives c.guest)
          (λ real h. (byte_inside s real h, (byte_inside s _ (first_there s _ 1 there2), tt))),
    ),
  )
