-- The data after a line, and what is held of them.
use Rattle.std.specs.Prelude.{◌≡◌, ℕ, ◌≤◌, List, true, Option, Some, length, nat_le, if◌then◌else◌}
use Rattle.planner_cli_stream.specs.Lines.{raw_lines}
use Rattle.planner_cli_stream.specs.Items.{longest_block, DataBlock, Whole, TooLong, Unended}
use Rattle.planner_cli_stream.specs.Items.{block_of, bytes_before_end, items_of, items_of_lines}
use Rattle.planner_cli_stream.specs.declared.blocks.Ending.{Ending}
use Rattle.planner_cli_stream.specs.declared.blocks.Ending.TheVariants as Endings

-- the block whose front is held
abbrev pub block_held : Ending → List ℕ → DataBlock
block_held Endings.Whole bytes = Whole bytes
block_held Endings.TooLong bytes = TooLong
block_held Endings.Unended bytes = Unended

-- how data ended of which so many bytes were held
abbrev pub ending_of : ℕ → Ending
ending_of bytes = if nat_le bytes longest_block then Endings.Whole else Endings.TooLong

-- data at the start of a text are read to their end: this is their block, and `rest` comes after them
pub record BlockRead (text : List ℕ) (end : Ending) (bytes : List ℕ) (rest : Option (List ℕ)) : Type 0 where
  pub left : List ℕ
  pub rest_is : rest ≡ Some left
  pub block : block_of (bytes_before_end (raw_lines text)) ≡ block_held end bytes
  pub items : items_of_lines true (raw_lines text) ≡ items_of left
  pub shorter : length left ≤ length text
