use Rattle.std.proofs.Common.{◌↔◌, ◌⊎◌, take, drop}
use Rattle.std.specs.List.{Contains}
use Rattle.external_dependencies.specs.declared.links.Link.{Link}
use Rattle.plan_store_lists.specs.Blocks.{HasRoomAt, items_of}
use Rattle.plan_store_lists.specs.LinkBlocks.{AreNamingBlocks}
use Rattle.plan_store_lists.specs.declared.namings.Naming.{Naming}
use Rattle.plan_store_lists.proofs.namings.insert_namings.Given as goal

-- the namings of the links so far are in, and there is room for the others
abbrev pub invariant-loop-link : goal.invariant-loop-link
invariant-loop-link l = record {
  blocks : AreNamingBlocks l.namings.blocks.items;
  inserted : (naming : Naming) → Contains (items_of l.namings) naming
      ↔ (Contains (take l.link-index l.links) naming.link ⊎ Contains (items_of l.fn.namings) naming);
  room : (link : Link) → Contains (drop l.link-index l.links) link
      → HasRoomAt l.namings.blocks.items link.predecessor 1;
}
