-- What a page holds, and what reading an item gives.
use Rattle.std.specs.Prelude.{◌≡◌, ◌⊎◌, ℕ, ◌-◌, ◌<◌, ◌≤◌, List, [], ◌∷◌, ◌++◌, Option, None, Some, length, vec_capacity}
use Rattle.planner_cli_stream.specs.Blocks.{block_held}
use Rattle.planner_cli_stream.specs.Items.{block_room, end_room, longest_block, DataBlock, Whole, TooLong, Unended}
use Rattle.planner_cli_stream.specs.Items.{Item, NoStatement, Alone, WithBlock, items_of}
use Rattle.planner_cli_stream.specs.Lines.{line_room}
use Rattle.planner_cli_stream.specs.declared.line_kinds.LineKind.{LineKind}
use Rattle.planner_cli_stream.specs.declared.line_kinds.LineKind.TheVariants as Kinds
use Rattle.planner_cli_stream.specs.declared.items.DataBlock.{DataBlock as BlockValue}
use Rattle.planner_cli_stream.specs.declared.items.DataBlock.TheVariants as Blocks
use Rattle.planner_cli_stream.specs.declared.items.Item.{Item as ItemValue}
use Rattle.planner_cli_stream.specs.declared.items.Item.TheVariants as Items
use Rattle.planner_cli_stream.specs.declared.blocks.Ending.{Ending}
use Rattle.planner_cli_stream.specs.declared.pages.Held.{Held}
use Rattle.planner_cli_stream.specs.declared.pages.Held.TheVariants as Helds
use Rattle.planner_cli_stream.specs.declared.pages.Page.{Page}

-- the item, and the block, that slices stand for
abbrev pub block_shown : BlockValue → DataBlock
block_shown (Blocks.Whole bytes) = Whole bytes.now
block_shown Blocks.TooLong = TooLong
block_shown Blocks.Unended = Unended

abbrev pub item_of : ItemValue → Item
item_of Items.NoStatement = NoStatement
item_of (Items.Alone line) = Alone line.now
item_of (Items.WithBlock line block) = WithBlock line.now (block_shown block)

-- the block of an item, if it has one, has at most as many bytes as a block may have
abbrev pub BlockFits : BlockValue → Type 0
BlockFits (Blocks.Whole bytes) = length bytes.now ≤ longest_block
BlockFits _ = Unit {0}

abbrev pub FitsBlock : ItemValue → Type 0
FitsBlock (Items.WithBlock line block) = BlockFits block
FitsBlock _ = Unit {0}

-- the item that a page holds, or none
abbrev pub item_held : Held → List ℕ → List ℕ → Option Item
item_held Helds.Nothing line bytes = None
item_held Helds.Skipped line bytes = None
item_held Helds.NoStatement line bytes = Some NoStatement
item_held Helds.Alone line bytes = Some (Alone line)
item_held (Helds.WithBlock end) line bytes = Some (WithBlock line (block_held end bytes))

-- the item on a page
abbrev pub item_on : Page → Option Item
item_on page = item_held page.held page.line.items page.block.items

-- how many bytes of a stream may still be read to a page
abbrev pub left_on : Page → ℕ
left_on page = page.left

-- a buffer of the page may have to grow: it has room for fewer bytes than it may come to hold
abbrev pub MayNeedMemory : Page → Type 0
MayNeedMemory page = (vec_capacity page.line < line_room)
    ⊎ ((vec_capacity page.block < block_room) ⊎ (vec_capacity page.end < end_room))

-- no buffer of a page lost room
abbrev pub KeepsRoom : Page → Page → Type 0
KeepsRoom old new = (vec_capacity old.line ≤ vec_capacity new.line)
    × (vec_capacity old.block ≤ vec_capacity new.block) × (vec_capacity old.end ≤ vec_capacity new.end)

-- what a line is after which no data follow
abbrev pub held_alone : LineKind → Held
held_alone Kinds.Skipped = Helds.Skipped
held_alone Kinds.NoStatement = Helds.NoStatement
held_alone Kinds.Statement = Helds.Alone

-- what a line is whose data ended so
abbrev pub held_with_data : LineKind → Ending → Held
held_with_data Kinds.Skipped end = Helds.Skipped
held_with_data Kinds.NoStatement end = Helds.NoStatement
held_with_data Kinds.Statement end = Helds.WithBlock end

-- the items of an item that may be missing
abbrev pub listed : Option Item → List Item
listed None = []
listed (Some one) = one ∷ []

-- one line of a text is read, and the data after it: this is its item, if it has one, and `rest` comes after it
pub record PartRead (text : List ℕ) (one : Option Item) (rest : Option (List ℕ)) : Type 0 where
  pub left : List ℕ
  pub rest_is : rest ≡ Some left
  pub items : items_of text ≡ listed one ++ items_of left
  pub shorter : length left ≤ length text - 1

-- an item is read: it is the first of the text's items, and `rest` comes after it; none where the text has no item
abbrev pub ItemRead : List ℕ → Option Item → Option (List ℕ) → Type 0
ItemRead text None rest = (items_of text ≡ []) × (rest ≡ Some [])
ItemRead text (Some one) rest = (left : List ℕ) × (rest ≡ Some left) × (items_of text ≡ one ∷ items_of left)
