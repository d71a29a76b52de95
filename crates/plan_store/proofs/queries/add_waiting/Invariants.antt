use Rattle.std.proofs.Common.{take}
use Rattle.plan_store.specs.Queries.{AddsQueries, ReadByOne, ReadsRow}
use Rattle.plan_store.proofs.queries.add_waiting.Given as goal

-- those of the rows so far
abbrev pub invariant-loop-current : goal.invariant-loop-current
invariant-loop-current l = AddsQueries (ReadByOne (ReadsRow l.in_force.items l.definitions) (take l.current-index l.rows))
    l.initial.queries.items l.queries.items
