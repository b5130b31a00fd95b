-- SET STORAGE KEY: how it can end, and at most 8 references.
use Rattle.std.proofs.Common.{ℕ, Option, Some, None, refl, arith}
use Rattle.rules.specs.Call.{Call}
use Rattle.rules.specs.SwapTables.{FoundPage, steps, assists_keys, segment_table, find_page}
use Rattle.rules.specs.SetStorageKey.{store_swap_word, set_block_key, set_by, set_storage_key}
use Rattle.rules.proofs.Computing.{fetching}
use Rattle.rules.proofs.Fits.{completes, stops, Fits, fits_then}
use Rattle.rules.proofs.Fits.SwapTables.{WayListed, segment_table-within, find_page-within}

way : WayListed 0x08 steps
way = record {
  refused = stops refl refl refl;
  table = stops refl refl refl;
  segment = stops refl refl refl;
  swaps = stops refl refl refl;
  swap = stops refl refl refl;
  page = stops refl refl refl;
}

set_block_key-fits : (c : Call) (p : FoundPage) (block : ℕ) → Fits 0x08 c (set_block_key c p block) 3
unfolding fetching store_swap_word set_block_key
set_block_key-fits c p block = (stops refl refl refl, λ old. completes refl refl (omega arith))

set_by-fits : (c : Call) (p : FoundPage) (block : Option ℕ) → Fits 0x08 c (set_by c p block) 3
unfolding fetching store_swap_word
set_by-fits c p None = completes refl refl (omega arith)
set_by-fits c p (Some block) = set_block_key-fits c p block

pub set_storage_key-fits : (c : Call) → Fits 0x08 c (set_storage_key c) 8
unfolding fetching set_storage_key
set_storage_key-fits c =
    fits_then 0x08 c (segment_table (assists_keys c) steps c.guest) _ 1 7 8 (omega arith)
    (segment_table-within 0x08 steps way _ c.guest)
    (λ rseg. fits_then 0x08 c (find_page steps rseg _) _ 4 3 7 (omega arith) (find_page-within 0x08 steps way rseg _)
    (λ p. set_by-fits c p p.block))
