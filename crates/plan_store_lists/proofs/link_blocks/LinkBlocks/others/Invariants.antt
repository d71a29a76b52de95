use Rattle.std.proofs.Common.{◌≢◌, ◌↔◌, take}
use Rattle.std.specs.List.{Contains}
use Rattle.external_dependencies.specs.declared.links.Link.{Link}
use Rattle.plan_store_lists.specs.Blocks.{items_in}
use Rattle.plan_store_lists.proofs.link_blocks.LinkBlocks.others.Given as goal

-- the links of the blocks so far, but for those of the application
abbrev pub invariant-loop-block : goal.invariant-loop-block
invariant-loop-block l = (link : Link) → Contains l.found.items link
    ↔ (Contains (items_in (take l.block-index l.block-items)) link × (link.app ≢ l.app))
