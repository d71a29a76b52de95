use Rattle.std.proofs.Common.{take}
use Rattle.plan_store.specs.Views.{shown}
use Rattle.plan_store_lists.specs.Blocks.{items_in}
use Rattle.plan_store_pairs.specs.Planned.{AddsPairsOf}
use Rattle.external_dependencies.specs.Touch.{HasRowOf}
use Rattle.plan_store_pairs.proofs.planned.push_all_planned.Given as goal

-- the pairs of the blocks so far
abbrev pub invariant-loop-block : goal.invariant-loop-block
invariant-loop-block l = AddsPairsOf (shown l.view).pairs (HasRowOf (items_in (take l.block-index l.blocks)))
    l.initial.pairs.items l.pairs.items
