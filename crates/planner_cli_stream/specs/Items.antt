-- What a text reads as: a list of items.
use Rattle.std.specs.Prelude.{ℕ, ◌+◌, List, [], ◌∷◌, ◌++◌, length, nat_le}
use Rattle.std.specs.Prelude.{Bool, true, false, not, Option, None, Some, if◌then◌else◌}
use Rattle.std.specs.Option.{option_map}
use Rattle.planner_cli_stream.specs.Lines.{raw_lines, line_of, opens_data, ends_data, kind_of}
use Rattle.planner_cli_stream.specs.declared.line_kinds.LineKind.{LineKind}
use Rattle.planner_cli_stream.specs.declared.line_kinds.LineKind.TheVariants as Kinds

-- the most bytes that a block of data may have
abbrev pub longest_block : ℕ
longest_block = 262144

-- how many bytes of a block are held: one more than it may have
abbrev pub block_room : ℕ
block_room = longest_block + 1

-- how many bytes of a line in data are held: those of the line that ends them
abbrev pub end_room : ℕ
end_room = 4

-- the data after a line: their bytes, or too many of them, or no line that ends them
pub data DataBlock : Type 0 where
  Whole : (bytes : List ℕ) → DataBlock
  TooLong : DataBlock
  Unended : DataBlock

-- an item of a text
pub data Item : Type 0 where
  -- a line that is no statement; data after it, if any, are skipped
  NoStatement : Item
  -- a line without data
  Alone : (line : List ℕ) → Item
  -- a line, and the data after it
  WithBlock : (line : List ℕ) → (block : DataBlock) → Item

-- all bytes before the first line that is `/*`, where there is one
unfoldable pub bytes_before_end : List (List ℕ) → Option (List ℕ)
bytes_before_end [] = None
bytes_before_end (raw ∷ rest) =
    if ends_data (line_of raw) then Some [] else option_map (λ bytes. raw ++ bytes) (bytes_before_end rest)

unfoldable pub block_of : Option (List ℕ) → DataBlock
block_of None = Unended
block_of (Some bytes) = if nat_le (length bytes) longest_block then Whole bytes else TooLong

-- a line that is read as a statement
unfoldable pub statement_item : List ℕ → List (List ℕ) → Item
statement_item line rest = if opens_data line then WithBlock line (block_of (bytes_before_end rest)) else Alone line

-- the item of a line, or none
unfoldable pub items_of_line : LineKind → List ℕ → List (List ℕ) → List Item
items_of_line Kinds.Skipped line rest = []
items_of_line Kinds.NoStatement line rest = NoStatement ∷ []
items_of_line Kinds.Statement line rest = statement_item line rest ∷ []

-- the items of lines; `within_data` says whether the first of them are in data
unfoldable pub items_of_lines : Bool → List (List ℕ) → List Item
items_of_lines within_data [] = []
items_of_lines true (raw ∷ rest) = items_of_lines (not (ends_data (line_of raw))) rest
items_of_lines false (raw ∷ rest) =
    items_of_line (kind_of (line_of raw)) (line_of raw) rest ++ items_of_lines (opens_data (line_of raw)) rest

-- what a text reads as
unfoldable pub items_of : List ℕ → List Item
items_of text = items_of_lines false (raw_lines text)
