-- the rows of the blocks so far
use Rattle.std.proofs.Common.{◌≡◌, ◌++◌, map, take}
use Rattle.plan_store_lists.specs.Blocks.{items_in}
use Rattle.plan_store.proofs.listed.push_blocks.Given as goal

abbrev pub invariant-loop-block : goal.invariant-loop-block
invariant-loop-block g l = map (λ x. x.now) l.found.items
    ≡ map (λ x. x.now) l.initial.found.items ++ items_in (take l.block-index l.all)
