use Rattle.std.proofs.Common.{List, take}
use Rattle.std.specs.List.{filter_map}
use Rattle.occurrences.specs.declared.row.Row.{Row}
use Rattle.plan_store_lists.specs.Rows.{of_row}
use Rattle.plan_store.specs.Views.{IsAny, ListsSet, shown}
use Rattle.long_term_plan.specs.Drafting.{DraftsRise}
use Rattle.long_term_plan.specs.Modifying.{AreOf, outcome}
use Rattle.long_term_plan.proofs.modification.staying_of.Given as goal

-- those of the applications so far
abbrev pub invariant-loop-app : goal.invariant-loop-app
invariant-loop-app l = DraftsRise l.named → (rows : List Row) → ListsSet of_row (shown l.view).sets.ltp IsAny rows
    → AreOf (take l.app-index l.apps) (filter_map (outcome l.only l.named) rows) l.kept.items
