use Rattle.std.proofs.Common.{◌↔◌, ℕ, List, take}
use Rattle.std.specs.List.{Contains}
use Rattle.plan_store_lists.specs.Blocks.{HasRoomAt, items_of}
use Rattle.plan_store_lists.specs.Keyed.{LacksKey}
use Rattle.plan_store_lists.specs.LinkBlocks.{AreNamingBlocks, names_of}
use Rattle.plan_store_lists.specs.declared.namings.Naming.{Naming}
use Rattle.plan_store_lists.proofs.namings.remove_namings.Given as goal

-- the namings of the links so far are out
abbrev pub invariant-loop-link : goal.invariant-loop-link
invariant-loop-link l = record {
  blocks : AreNamingBlocks l.namings.blocks.items;
  removed : (naming : Naming) → Contains (items_of l.namings) naming ↔ (Contains (items_of l.fn.namings) naming
      × LacksKey names_of (take l.link-index l.links) (names_of naming.link));
  stays : (app : List ℕ) (count : ℕ) → HasRoomAt l.fn.namings.blocks.items app count
      → HasRoomAt l.namings.blocks.items app count;
}
