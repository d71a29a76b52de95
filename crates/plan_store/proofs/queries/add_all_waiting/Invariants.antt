use Rattle.std.proofs.Common.{take}
use Rattle.plan_store_lists.specs.Blocks.{items_in}
use Rattle.plan_store.specs.Queries.{AddsQueries, ReadByOne, ReadsRow}
use Rattle.plan_store.proofs.queries.add_all_waiting.Given as goal

-- those of the blocks so far
abbrev pub invariant-loop-block : goal.invariant-loop-block
invariant-loop-block l = AddsQueries
    (ReadByOne (ReadsRow l.in_force.items l.definitions) (items_in (take l.block-index l.all)))
    l.initial.queries.items l.queries.items
