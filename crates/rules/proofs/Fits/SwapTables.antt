-- The way to a page, which SSK, ISK and RRB share: how it can end, and at most 1 and 4 references.
use Rattle.std.proofs.Common.{ℕ, Bool}
use Rattle.rules.specs.Guest.{Guest}
use Rattle.rules.specs.Endings.{FieldMissing, refuse}
use Rattle.rules.specs.SwapTables.{FieldNumbers, segment_table, find_page}
use Rattle.rules.proofs.Computing.{paging}
use Rattle.rules.proofs.Within.{Within, Any}
use Rattle.rules.proofs.Fits.{Stops}

-- the endings of this way are among those of an operation code
pub record WayListed (op : ℕ) (n : FieldNumbers) : Type 0 where
  pub refused : Stops op refuse
  pub table : Stops op (FieldMissing n.table)
  pub segment : Stops op (FieldMissing n.segment)
  pub swaps : Stops op (FieldMissing n.swaps)
  pub swap : Stops op (FieldMissing n.swap)
  pub page : Stops op (FieldMissing n.page)

module _ (op : ℕ) (n : FieldNumbers) (w : WayListed op n) where
  pub segment_table-within : (assists : Bool) (g : Guest) → Within (Stops op) Any (segment_table assists n g) 1
  unfolding paging
  segment_table-within assists g = (λ t. w.refused, λ t. (w.table, λ rseg. (λ t. w.refused, λ t. tt)))

  pub find_page-within : (rseg a : ℕ) → Within (Stops op) Any (find_page n rseg a) 4
  unfolding paging
  find_page-within rseg a = (
    λ t. w.refused,
    λ t. (
      w.segment,
      λ entry. (
        λ t. w.refused,
        λ t. (
          λ t. w.refused,
          λ t. (
            λ t. w.refused,
            λ t. (w.swaps, λ table. (w.swap, λ word. (w.page, λ page. (λ t. w.refused, λ t. tt)))),
          ),
        ),
      ),
    ),
  )
