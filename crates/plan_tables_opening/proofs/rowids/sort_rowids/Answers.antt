use Rattle.std.proofs.Common.{rules}
use Rattle.std.proofs.lemmas.List.Sorted.{IsNonDecreasingBy-from_sort_by_key}
use Rattle.sqlite.specs.Order.{Row as Values, column}
use Rattle.plan_tables_loading.specs.Rowids.{place_of}
use Rattle.plan_tables_opening.proofs.rowids.sort_rowids.Goals as goal

pub returns-clause-sorted : goal.returns-clause-sorted
returns-clause-sorted c = IsNonDecreasingBy-from_sort_by_key (λ (r : Values). place_of (column r 0)) _
    c.sort_unstable_by_key.ensures.sorted (λ a r q k. search rules)
