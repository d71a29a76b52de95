use Rattle.std.proofs.Common.{take}
use Rattle.plan_store_lists.specs.Rows.{AreRows, look_up, of_row}
use Rattle.plan_store.specs.HistoryReads.{HasLasts}
use Rattle.plan_store.specs.Queries.{IsQueriedIn}
use Rattle.plan_store.specs.Views.{row_serial}
use Rattle.plan_store.proofs.lasts.fill_lasts.Given as goal

-- the last rows of the queries so far
abbrev pub invariant-loop-query : goal.invariant-loop-query
invariant-loop-query l = AreRows of_row l.lasts.items
    × HasLasts (IsQueriedIn (take l.query-index l.queries)) (look_up row_serial l.history.items)
    (look_up row_serial l.lasts.items)
