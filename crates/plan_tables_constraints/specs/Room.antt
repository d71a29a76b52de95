-- Room for new rows in a table that numbers its rows itself.
use Rattle.std.specs.Prelude.{◌≡◌, ℕ, ℤ, pos, ◌<◌, ◌≤◌, ◌^◌, ◌+ℤ◌, true, ◌+◌, List, length}
use Rattle.std.specs.List.{AllByRecursion}
use Rattle.sqlite.specs.Order.{Row}
use Rattle.sqlite.specs.Tree.{rowid}
use Rattle.sqlite.specs.declared.types.Value.TheVariants.{Int}
use Rattle.sqlite_sql.specs.Ops.{fits_i64}
use Rattle.sqlite_trees.specs.Tree.{IsTable}
use Rattle.planner_machine.specs.declared.job.Job.{Job}
use Rattle.plan_tables_content.specs.Content.{answer_text}

-- the rowid of the row is a number of 64 bits, and so are the n above it
abbrev pub HasRoomAbove : ℕ → Row → Type 0
HasRoomAbove n row = (id : ℤ) × (rowid row ≡ Int id) × ((k : ℕ) → k ≤ n → fits_i64 (id +ℤ pos k) ≡ true)

-- n more rows can be numbered: the rowids rise, as in each table, and there is room above each of them
pub record HaveRoom (n : ℕ) (rows : List Row) : Type 0 where
  pub rising : IsTable rows
  pub above : AllByRecursion (HasRoomAbove n) rows
  pub few : n < 2 ^ 63

-- the row of a job can be stored: its text and the line of its answer, with 18 bytes for each value, are at most a
-- billion bytes
abbrev pub CanBeStored : Job → Type 0
CanBeStored job = 72 + length job.text + length (answer_text job.reply) ≤ 10 ^ 9
