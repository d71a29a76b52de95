use Rattle.std.proofs.Common.{◌-◌, ◌≤◌, ◌↔◌, ℕ, length, take}
use Rattle.std.specs.List.{Contains}
use Rattle.plan_store_lists.specs.Blocks.{AreBlocks, HasRoomAt, items_of}
use Rattle.plan_store_lists.specs.Keyed.{LacksKey}
use Rattle.plan_store_lists.proofs.blocks.remove_from.Given as goal

-- the items with the keys of those so far are out
abbrev pub invariant-loop-start : goal.invariant-loop-start
invariant-loop-start g l = record {
  within : l.start ≤ length l.items;
  blocks : AreBlocks g.T.Group.Ord.cmp g.T.Key.Ord.cmp g.T.Grouped.group_of g.T.Keyed.key_of l.list.blocks.items;
  removed : (x : g.row.T.Denot) → Contains (items_of l.list) x
      ↔ (Contains (items_of l.fn.list) x
      × LacksKey g.T.Keyed.key_of (take l.start l.items) (g.T.Keyed.key_of x));
  stays : (group : g.row.T-Group.Denot) (count : ℕ) → HasRoomAt l.fn.list.blocks.items group count
      → HasRoomAt l.list.blocks.items group count;
}

abbrev pub decreases-loop-start : goal.decreases-loop-start
decreases-loop-start g l = length l.items - l.start
