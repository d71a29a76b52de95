use Rattle.std.proofs.Common.{◌-◌, ◌≤◌, ◌⊎◌, ◌↔◌, length, take, drop}
use Rattle.std.specs.List.{Contains}
use Rattle.plan_store_lists.specs.Blocks.{AreBlocks, HasRoomFor, items_of}
use Rattle.plan_store_lists.proofs.blocks.insert_into.Given as goal

-- the items so far are in, and there is room for the others
abbrev pub invariant-loop-start : goal.invariant-loop-start
invariant-loop-start g l = record {
  within : l.start ≤ length l.items;
  blocks : AreBlocks g.T.Group.Ord.cmp g.T.Key.Ord.cmp g.T.Grouped.group_of g.T.Keyed.key_of l.list.blocks.items;
  inserted : (x : g.row.T.Denot) → Contains (items_of l.list) x
      ↔ (Contains (take l.start l.items) x ⊎ Contains (items_of l.fn.list) x);
  room : HasRoomFor g.T.Group.Ord.cmp g.T.Grouped.group_of (drop l.start l.items) l.list.blocks.items;
}

abbrev pub decreases-loop-start : goal.decreases-loop-start
decreases-loop-start g l = length l.items - l.start
