-- The uses that the rows of `clap` stand for.
use Rattle.std.specs.Prelude.{Bool, List, [], map, is_some, slice_get, unwrap_or}
use Rattle.std.specs.List.{list_all}
use Rattle.clap.specs.Walk.{Row}
use Rattle.planner_cli_stream.specs.Grammar.{Use}

-- a row has a value
abbrev pub has_value : Row → Bool
has_value r = is_some (slice_get r.values 0)

abbrev pub all_have_values : List Row → Bool
all_have_values = list_all has_value

-- a row's name, with its first value
abbrev pub use_in : Row → Use
use_in r = (r.id, unwrap_or (slice_get r.values 0) [])

abbrev pub uses_in : List Row → List Use
uses_in = map use_in
