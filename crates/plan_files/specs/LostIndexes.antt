-- Indexes that a migration of schema 1 loses.
use Rattle.std.specs.Prelude.{◌≡◌, ◌≢◌, ◌⊎◌, ℕ, List, codes, length, take}
use Rattle.std.specs.List.{All}
use Rattle.sqlite_schema.specs.declared.schema.Index.{Index}
use Rattle.sqlite_schema.specs.declared.schema.Schema.{Schema}
use Rattle.sqlite_schema.specs.declared.schema.Table.{Table}
use Rattle.plan_tables_schema.specs.Schema.{name}
use Rattle.plan_tables_schema.specs.declared.tables.Table.TheVariants.{LinkInForce, Predecessor}

-- the table is one of the two that differ in schema 2
abbrev pub IsMadeAnew : Table → Type 0
IsMadeAnew table = (table.name ≡ name Predecessor) ⊎ (table.name ≡ name LinkInForce)

-- the index is of another table, or this one stays
abbrev pub IsAside : Index → Table → Type 0
IsAside index table = (table.tree ≢ index.table) ⊎ (IsMadeAnew table → ⊥)

-- how the names of indexes begin that SQLite makes itself
abbrev pub of_sqlite : List ℕ
of_sqlite = codes "sqlite_autoindex_"

-- SQLite made the index, or it is of no table that is made anew
abbrev pub IsKept : List Table → Index → Type 0
IsKept tables index = (take (length of_sqlite) index.name ≡ of_sqlite) ⊎ All (IsAside index) tables

-- a migration loses no index that a user made
abbrev pub KeepsIndexes : Schema → Type 0
KeepsIndexes schema = All (IsKept schema.tables) schema.indexes
