-- Rows in the order of lists.
use Rattle.std.proofs.Common.{◌≡◌, ◌∙◌, List, slice_index_or, ◌+◌, ap, sym, rules}
use Rattle.std.specs.List.Sorted.{IsSortedByKey}
use Rattle.std.specs.Ordering.{is_lt}
use Rattle.occurrences.specs.Row.{row_cmp}
use Rattle.occurrences.specs.declared.row.Row.{Row}
use Rattle.occurrences.specs.contracts.row.RowOrd.TheImpl.{ghosts}

-- rows compare so
pub rows_compare : (a b : Row) → ghosts.cmp a b ≡ row_cmp a b
rows_compare a b = search rules

-- what is sorted by the one order is sorted by the other
pub sorted_by_rows : {X : Type 0} (key : X → Row) (xs : List X) → IsSortedByKey key ghosts.cmp xs
    → IsSortedByKey key row_cmp xs
sorted_by_rows key xs h k d low high =
    ap is_lt (sym (rows_compare (key (slice_index_or xs (k + 1) d)) (key (slice_index_or xs k d)))) ∙ h k d low high
