-- LOAD REAL ADDRESS writes nothing.
use Rattle.std.proofs.Common.{ℕ}
use Rattle.rules.specs.Machine.{◌⊕◌}
use Rattle.rules.specs.Endings.{refuse}
use Rattle.rules.specs.Steps.{◌>>=◌, fetch_bytes, stop_if}
use Rattle.rules.specs.Translation.{
  SegmentTableLength,
  SegmentInvalid,
  SegmentFormat,
  PageTableLength,
  PageInvalid,
  PageFormat,
  Walk,
  found,
  fault,
  format_of,
}
use Rattle.rules.specs.Access.{second_halfword}
use Rattle.rules.specs.ControlFields.{control_word, address_in}
use Rattle.rules.specs.Call.{Call, complete_as}
use Rattle.rules.specs.LoadRealAddress.{virtual_walk, loaded_by, load_by, load_through, load_real_address}
use Rattle.rules.proofs.Gives.{Gives, gives_after}
use Rattle.rules.proofs.Present.{AllInside}

module _ (s k : ℕ) where
  loaded_by-inside : (walk : Walk) → Gives s k (AllInside s k) (loaded_by walk)
  unfolding complete_as
  loaded_by-inside (found real) = tt
  loaded_by-inside (fault SegmentTableLength entry) = tt
  loaded_by-inside (fault SegmentInvalid entry) = tt
  loaded_by-inside (fault SegmentFormat entry) = tt
  loaded_by-inside (fault PageTableLength entry) = tt
  loaded_by-inside (fault PageInvalid entry) = tt
  loaded_by-inside (fault PageFormat entry) = tt

  load_through-inside : (c : Call) (rseg ecblok : ℕ) → Gives s k (AllInside s k) (load_through c rseg ecblok)
  unfolding load_through load_by
  load_through-inside c rseg ecblok =
      gives_after s k (AllInside s k) (control_word 3 ecblok) _
      (λ cr0. gives_after s k (AllInside s k) (control_word 4 (ecblok ⊕ 4)) _
      (λ cr1. gives_after s k (AllInside s k) (format_of refuse cr0) _
      (λ f. gives_after s k (AllInside s k) (second_halfword c.guest) _
      (λ second. gives_after s k (AllInside s k) (virtual_walk rseg f cr1 _) loaded_by loaded_by-inside))))

  pub load_real_address-inside : (c : Call) → Gives s k (AllInside s k) (load_real_address c)
  unfolding ◌>>=◌ fetch_bytes stop_if load_real_address
  load_real_address-inside c =
      (λ t. tt, λ t there rseg there2 creg. load_through-inside c rseg (address_in creg))
