-- the occurrences of the blocks so far
use Rattle.std.proofs.Common.{◌≡◌, ◌++◌, map, take}
use Rattle.plan_store_lists.specs.Blocks.{items_in}
use Rattle.plan_store.proofs.listed.push_set.Given as goal

abbrev pub invariant-loop-block : goal.invariant-loop-block
invariant-loop-block g l = map (λ row. row.now) l.all.items ≡ map (λ row. row.now) l.initial.all.items
    ++ map g.T.PlanRow.row_of (items_in (take l.block-index l.blocks))
