use Rattle.std.proofs.Common.{◌≡◌, ◌≢◌, ◌-◌, ◌≤◌, length, take, drop}
use Rattle.std.specs.List.{Contains}
use Rattle.plan_store_lists.specs.Blocks.{AreBlocks, HasRoomAt, count_of, items_of}
use Rattle.plan_store_lists.proofs.blocks.reserve_for.Given as goal

-- there is room for the groups so far, which do not come again
abbrev pub invariant-loop-start : goal.invariant-loop-start
invariant-loop-start g l = record {
  within : l.start ≤ length l.items;
  blocks : AreBlocks g.T.Group.Ord.cmp g.T.Key.Ord.cmp g.T.Grouped.group_of g.T.Keyed.key_of l.list.blocks.items;
  same : items_of l.list ≡ items_of l.fn.list;
  apart : (x y : g.row.T.Denot) → Contains (take l.start l.items) x → Contains (drop l.start l.items) y
      → g.T.Grouped.group_of x ≢ g.T.Grouped.group_of y;
  room : (x : g.row.T.Denot) → Contains (take l.start l.items) x
      → HasRoomAt l.list.blocks.items (g.T.Grouped.group_of x)
      (count_of g.T.Group.Ord.cmp g.T.Grouped.group_of l.items (g.T.Grouped.group_of x));
}

abbrev pub decreases-loop-start : goal.decreases-loop-start
decreases-loop-start g l = length l.items - l.start
