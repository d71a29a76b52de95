use Rattle.std.proofs.Common.{take}
use Rattle.plan_store_pairs.specs.LiveRows.{AddsCurrent}
use Rattle.plan_store_pairs.proofs.listing.push_current.Given as goal

abbrev pub invariant-loop-current : goal.invariant-loop-current
invariant-loop-current l = AddsCurrent (take l.current-index l.list) l.initial.rows.items l.rows.items
