-- All eight.
use Rattle.std.proofs.Common.{ℕ}
use Rattle.rules.specs.Call.{Call}
use Rattle.rules.specs.StoreThenMask.{And, Or}
use Rattle.rules.specs.Attempt.{instruction}
use Rattle.rules.proofs.Gives.{Gives}
use Rattle.rules.proofs.Present.{Sized, AllInside}
use Rattle.rules.proofs.Present.Masks.{set_system_mask-inside, store_then-inside}
use Rattle.rules.proofs.Present.StoreControl.{store_control-inside}
use Rattle.rules.proofs.Present.StorageKeys.{
  set_storage_key-inside,
  insert_storage_key-inside,
  reset_reference_bit-inside,
}
use Rattle.rules.proofs.Present.LoadRealAddress.{load_real_address-inside}

pub instruction_inside : (s k : ℕ) → Sized s k → (c : Call) → Gives s k (AllInside s k) (instruction c)
unfolding instruction
instruction_inside s k z c = (
  λ e. set_system_mask-inside s k c,
  λ e. (
    λ e. store_control-inside s k z c,
    λ e. (
      λ e. store_then-inside s k z And c,
      λ e. (
        λ e. store_then-inside s k z Or c,
        λ e. (
          λ e. set_storage_key-inside s k c,
          λ e. (
            λ e. insert_storage_key-inside s k c,
            λ e. (λ e. load_real_address-inside s k c, λ e. reset_reference_bit-inside s k c),
          ),
        ),
      ),
    ),
  ),
)
