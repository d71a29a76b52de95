use Rattle.std.proofs.Common.{◌≡◌, take}
use Rattle.std.specs.List.{Contains}
use Rattle.external_dependencies.specs.declared.links.Link.{Link}
use Rattle.plan_store_lists.specs.Blocks.{HasRoomAt, items_of}
use Rattle.plan_store_lists.specs.LinkBlocks.{AreNamingBlocks}
use Rattle.plan_store_lists.proofs.namings.reserve_namings.Given as goal

-- there is room for the namings of the links so far
abbrev pub invariant-loop-link : goal.invariant-loop-link
invariant-loop-link l = record {
  blocks : AreNamingBlocks l.namings.blocks.items;
  same : items_of l.namings ≡ items_of l.fn.namings;
  room : (link : Link) → Contains (take l.link-index l.links) link
      → HasRoomAt l.namings.blocks.items link.predecessor 1;
}
