use Rattle.std.proofs.Common.{◌⊎◌, Contains, take}
use Rattle.external_dependencies.specs.declared.links.Link.{Link}
use Rattle.plan_store_lists.specs.Blocks.{items_in}
use Rattle.plan_store_pairs.proofs.touches.lists_beside.Given as goal

-- of the blocks so far
abbrev pub invariant-loop-block : goal.invariant-loop-block
invariant-loop-block l = (link : Link) → Contains (items_in (take l.block-index l.block-items)) link
    → Contains l.others.items link ⊎ Contains l.apps.items link.app
