use Rattle.std.proofs.Common.{IsTrue}
use Rattle.std.specs.List.{AllWithin}
use Rattle.sqlite.specs.Order.{Row as Values, column}
use Rattle.sqlite.specs.View.{is_int}
use Rattle.plan_tables_opening.proofs.rowids.are_integers.Given as goal

abbrev pub invariant-loop-cells : goal.invariant-loop-cells
invariant-loop-cells l = AllWithin (λ (r : Values). IsTrue (is_int (column r 0))) l.rows 0 l.cells-index
