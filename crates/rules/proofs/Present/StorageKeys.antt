-- SET STORAGE KEY, INSERT STORAGE KEY and RESET REFERENCE BIT: the swap word was fetched, the key consulted.
use Rattle.std.proofs.Common.{◌≡◌, ℕ, true, Option, Some, None}
use Rattle.rules.specs.Machine.{has}
use Rattle.rules.specs.Guest.{Guest, assists_control}
use Rattle.rules.specs.Steps.{◌>>=◌, fetch_bytes, consult_key}
use Rattle.rules.specs.Access.{second_halfword}
use Rattle.rules.specs.Call.{Call, complete_as}
use Rattle.rules.specs.SwapTables.{FieldNumbers, FoundPage, steps, places, assists_keys, segment_table, find_page}
use Rattle.rules.specs.SetStorageKey.{store_swap_word, set_block_key, set_by, set_storage_key}
use Rattle.rules.specs.InsertStorageKey.{insert_key, insert_block_key, insert_by, insert_storage_key}
use Rattle.rules.specs.ResetReferenceBit.{store_reset, reset_block_key, reset_by, reset_reference_bit}
use Rattle.rules.proofs.Computing.{paging}
use Rattle.rules.proofs.Gives.{Gives, gives_then, gives_after}
use Rattle.rules.proofs.Present.{AllInside}

module _ (s k : ℕ) where
  -- the swap word of a page that was found
  abbrev pub SwapThere : FoundPage → Type 0
  SwapThere page = has s page.place 4 ≡ true

  pub find_page-gives : (n : FieldNumbers) (rseg a : ℕ) → Gives s k SwapThere (find_page n rseg a)
  unfolding paging
  find_page-gives n rseg a = (
    λ t. tt,
    λ t there5 entry. (
      λ t. tt,
      λ t. (
        λ t. tt,
        λ t. (λ t. tt, λ t there7 table there8 word there9 page. (λ t. tt, λ t. there8)),
      ),
    ),
  )

  set_by-inside : (c : Call) (page : FoundPage) (block : Option ℕ) → SwapThere page
      → Gives s k (AllInside s k) (set_by c page block)
  unfolding ◌>>=◌ consult_key complete_as store_swap_word set_block_key
  set_by-inside c page None h = (h, tt)
  set_by-inside c page (Some block) h = λ there old. (there, (h, tt))

  pub set_storage_key-inside : (c : Call) → Gives s k (AllInside s k) (set_storage_key c)
  unfolding set_storage_key
  set_storage_key-inside c =
      gives_after s k (AllInside s k) (segment_table (assists_keys c) steps c.guest) _
      (λ rseg. gives_then s k SwapThere (AllInside s k) (find_page steps rseg _) _ (find_page-gives steps rseg _)
      (λ page h. set_by-inside c page page.block h))

  insert_key-inside : (g : Guest) (page : FoundPage) (tried marks : ℕ)
      → Gives s k (AllInside s k) (insert_key g page tried marks)
  unfolding ◌>>=◌ fetch_bytes complete_as insert_key
  insert_key-inside g page tried marks = λ there vpsw there2 first. tt

  insert_by-inside : (g : Guest) (page : FoundPage) (block : Option ℕ)
      → Gives s k (AllInside s k) (insert_by g page block)
  unfolding ◌>>=◌ consult_key insert_block_key
  insert_by-inside g page None = insert_key-inside g page _ 0
  insert_by-inside g page (Some block) = λ there key. insert_key-inside g page _ _

  pub insert_storage_key-inside : (c : Call) → Gives s k (AllInside s k) (insert_storage_key c)
  unfolding insert_storage_key
  insert_storage_key-inside c =
      gives_after s k (AllInside s k) (segment_table (assists_keys c) places c.guest) _
      (λ rseg. gives_after s k (AllInside s k) (find_page places rseg _) _
      (λ page. insert_by-inside c.guest page page.block))

  reset_by-inside : (page : FoundPage) (block : Option ℕ) → SwapThere page
      → Gives s k (AllInside s k) (reset_by page block)
  unfolding ◌>>=◌ consult_key complete_as store_reset reset_block_key
  reset_by-inside page None h = (h, tt)
  reset_by-inside page (Some block) h = λ there old. (there, (h, tt))

  pub reset_reference_bit-inside : (c : Call) → Gives s k (AllInside s k) (reset_reference_bit c)
  unfolding reset_reference_bit
  reset_reference_bit-inside c =
      gives_after s k (AllInside s k) (segment_table (assists_control c.guest) places c.guest) _
      (λ rseg. gives_after s k (AllInside s k) (second_halfword c.guest) _
      (λ second. gives_then s k SwapThere (AllInside s k) (find_page places rseg _) _ (find_page-gives places rseg _)
      (λ page h. reset_by-inside page page.block h)))
