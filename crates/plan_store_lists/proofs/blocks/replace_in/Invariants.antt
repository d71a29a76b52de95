use Rattle.std.proofs.Common.{ℕ, ◌⊎◌, ◌↔◌, take}
use Rattle.std.specs.List.{Contains}
use Rattle.plan_store_lists.specs.Blocks.{AreBlocks, HasRoomAt, items_of}
use Rattle.plan_store_lists.specs.Keyed.{HasKey, LacksKey}
use Rattle.plan_store_lists.proofs.blocks.replace_in.Given as goal

-- the first items are written, and the list has its keys and its room
abbrev pub invariant-loop-item : goal.invariant-loop-item
invariant-loop-item g l = record {
  blocks : AreBlocks g.T.Group.Ord.cmp g.T.Key.Ord.cmp g.T.Grouped.group_of g.T.Keyed.key_of l.list.blocks.items;
  has : (k : g.row.T-Key.Denot) → HasKey g.T.Keyed.key_of (items_of l.fn.list) k
      → HasKey g.T.Keyed.key_of (items_of l.list) k;
  stays : (group : g.row.T-Group.Denot) (count : ℕ) → HasRoomAt l.fn.list.blocks.items group count
      → HasRoomAt l.list.blocks.items group count;
  replaced : (x : g.row.T.Denot) → Contains (items_of l.list) x ↔ (Contains (take l.item-index l.items) x
      ⊎ (Contains (items_of l.fn.list) x × LacksKey g.T.Keyed.key_of (take l.item-index l.items)
      (g.T.Keyed.key_of x)));
}
