-- The rows of a set: a list, and the blocks in which it is kept.
use Rattle.std.specs.Prelude.{◌≡◌, ◌+◌, ◌<◌, ◌^◌, ℕ, List, length}
use Rattle.std.specs.Cmp.Lexicographic.{slice_cmp}
use Rattle.std.specs.Ordering.{nat_cmp}
use Rattle.occurrences.specs.declared.row.Row.{Row}
use Rattle.plan_store_lists.specs.Blocks.{HasRoomFor, items_in, items_of}
use Rattle.plan_store_lists.specs.RowBlocks.{AreRowBlocks}
use Rattle.plan_store_lists.specs.declared.blocks.Block.{Block}
use Rattle.plan_store_lists.specs.declared.blocks.Blocks.{Blocks}

-- the rows, and their blocks, which contracts see for the room in them
pub record RowList (X : Type 0) : Type 0 where
  pub items : List X
  pub blocks : List (Block (List ℕ) X)

-- the rows in these blocks
abbrev pub listed : {X : Type 0} → List (Block (List ℕ) X) → RowList X
listed blocks = record { items = items_in blocks; blocks = blocks }

-- these blocks are of so many rows, which are fewer than can't be counted together with those of other sets
pub record AreCountedRows {X : Type 0} (row_of : X → Row) (list : Blocks (List ℕ) X) (count : ℕ) : Type 0 where
  pub blocks : AreRowBlocks row_of list
  pub exact : count ≡ length (items_of list)
  pub few : count < 2 ^ 62

-- there is room for these rows, and with them there are still few enough
pub record HasRowRoom {X : Type 0} (row_of : X → Row) (rows : List X) (list : RowList X) : Type 0 where
  pub room : HasRoomFor (slice_cmp nat_cmp) (λ x. (row_of x).key.app) rows list.blocks
  pub few : length list.items + length rows < 2 ^ 62
