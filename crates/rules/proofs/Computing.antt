-- To compute an attempt, every definition that is shut is opened: `unfolding computing`.
use Rattle.rules.specs.Steps.{◌>>=◌, fetch_bytes, consult_key, stop_if, ending_as}
use Rattle.rules.specs.Recording.{marked}
use Rattle.rules.specs.Translation.{
  format_of,
  segment_verdict,
  segment_walk,
  page_verdict,
  page_walk,
  table_walk,
  translate,
}
use Rattle.rules.specs.Access.{real_of, key_test, access, store_test, logical_fetch}
use Rattle.rules.specs.Call.{complete_as}
use Rattle.rules.specs.SetSystemMask.{mask_operand, mask_target, set_system_mask}
use Rattle.rules.specs.StoreControl.{gather, control_block, word_operand, store_control}
use Rattle.rules.specs.StoreThenMask.{byte_operand, store_then}
use Rattle.rules.specs.SwapTables.{segment_table, segment_of, swap_word_at, page_of, find_page}
use Rattle.rules.specs.SetStorageKey.{store_swap_word, set_block_key, set_storage_key}
use Rattle.rules.specs.InsertStorageKey.{insert_key, insert_block_key, insert_storage_key}
use Rattle.rules.specs.ResetReferenceBit.{store_reset, reset_block_key, reset_reference_bit}
use Rattle.rules.specs.LoadRealAddress.{real_by, through_real, virtual_walk, load_by, load_through, load_real_address}
use Rattle.rules.specs.Attempt.{admitted, instruction}

-- what every instruction reads by
unfoldable pub walking : Unit {0}
unfolding marked ◌>>=◌ fetch_bytes consult_key stop_if ending_as format_of segment_verdict segment_walk page_verdict
    page_walk
    table_walk translate real_of key_test access
walking = tt

unfoldable pub fetching : Unit {0}
unfolding walking logical_fetch complete_as
fetching = tt

-- the instructions
unfoldable pub masking : Unit {0}
unfolding fetching store_test mask_operand mask_target set_system_mask byte_operand store_then
masking = tt

unfoldable pub storing : Unit {0}
unfolding fetching store_test gather control_block word_operand store_control
storing = tt

unfoldable pub paging : Unit {0}
unfolding walking segment_table segment_of swap_word_at page_of find_page
paging = tt

unfoldable pub keying : Unit {0}
unfolding fetching paging store_swap_word set_block_key set_storage_key insert_key insert_block_key
    insert_storage_key store_reset
    reset_block_key reset_reference_bit
keying = tt

unfoldable pub loading : Unit {0}
unfolding fetching real_by through_real virtual_walk load_by load_through load_real_address
loading = tt

unfoldable pub computing : Unit {0}
unfolding masking storing keying loading admitted instruction
computing = tt
