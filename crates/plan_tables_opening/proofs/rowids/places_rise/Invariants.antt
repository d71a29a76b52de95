use Rattle.std.proofs.Common.{◌<◌}
use Rattle.std.specs.List.{AllAdjacentBelow}
use Rattle.sqlite.specs.Order.{Row as Values, column}
use Rattle.plan_tables_loading.specs.Rowids.{place_of}
use Rattle.plan_tables_opening.proofs.rowids.places_rise.Given as goal

abbrev pub invariant-loop-at : goal.invariant-loop-at
invariant-loop-at l = AllAdjacentBelow (λ (a b : Values). place_of (column a 0) < place_of (column b 0)) l.rows l.at
