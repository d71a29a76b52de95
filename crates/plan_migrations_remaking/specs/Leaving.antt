-- What is left of a schema once the tables of some names are dropped.
use Rattle.std.specs.Prelude.{ℕ, ◌==◌, Bool, false, not, List, filter, Option, Some, None}
use Rattle.std.specs.List.{list_any}
use Rattle.sqlite_schema.specs.declared.schema.Schema.{Schema}
use Rattle.sqlite_schema.specs.declared.schema.Table.{Table}
use Rattle.plan_tables_schema.specs.Named.{first_named}

-- a table that is found is in the tree
abbrev pub is_in : ℕ → Option Table → Bool
is_in tree (Some found) = tree == found.tree
is_in tree None = false

-- the tree is that of a table with the name of one of these
abbrev pub is_of : List Table → List Table → ℕ → Bool
is_of tables named tree = list_any (λ t. is_in tree (first_named tables t.name)) named

abbrev pub left_by : Schema → List Table → Schema
left_by schema named = record schema {
  tables = filter (λ t. not (is_of schema.tables named t.tree)) schema.tables;
  indexes = filter (λ i. not (is_of schema.tables named i.table)) schema.indexes;
}
