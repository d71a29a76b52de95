-- The limits that this crate's definitions cite, each with its value once more. The law `limits_hold` has this record
-- for its contract, so a limit that is changed is refused until its line here changes too.
use Rattle.std.specs.Prelude.{◌≡◌}
use Rattle.planner_cli_stream.specs.Items.{block_room, end_room, longest_block}
use Rattle.planner_cli_stream.specs.Lines.{line_room, longest_line}

pub record AreLimits : Type 0 where
  -- bytes of a statement's line, and of one that is held: with a carriage return and a line feed
  pub line : longest_line ≡ 1024
  pub held_line : line_room ≡ 1026
  -- bytes of a block of data, and of one that is held: one more
  pub block : longest_block ≡ 262144
  pub held_block : block_room ≡ 262145
  -- bytes that are held of a line of data: `/*`, a carriage return and a line feed
  pub end : end_room ≡ 4
