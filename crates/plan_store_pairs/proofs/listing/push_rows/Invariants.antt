use Rattle.std.proofs.Common.{take}
use Rattle.plan_store_pairs.specs.LiveRows.{AddsRows}
use Rattle.plan_store_pairs.proofs.listing.push_rows.Given as goal

abbrev pub invariant-loop-row : goal.invariant-loop-row
invariant-loop-row l = AddsRows (take l.row-index l.list) l.place l.initial.rows.items l.rows.items
