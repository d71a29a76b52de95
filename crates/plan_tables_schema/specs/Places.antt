-- Where a table is: in a schema, and in the list of objects, which names its tree.
use Rattle.std.specs.Prelude.{◌≡◌, ◌≢◌, ℕ, ◌^◌, ◌-◌, ◌==◌, nat_le, false, List, filter, find, slice_get, Option, Some, None}
use Rattle.sqlite.specs.Order.{Row}
use Rattle.sqlite.specs.Schema.{Schema}
use Rattle.sqlite.specs.Table.{Table}
use Rattle.sqlite.specs.Tree.{rowid}
use Rattle.sqlite_catalog.specs.Listing.{is_table_row}
use Rattle.sqlite_schema.specs.Names.{same_name, table_named}
use Rattle.sqlite_trees.specs.Objects.{number_in}
use Rattle.sqlite_value.specs.Order.{bytes, column}

-- the table is at this place of the list, and none before it has its name or its tree
pub record TableIsAt (schema : Schema) (table : Table) (at : ℕ) : Type 0 where
  pub named : table_named schema table.name ≡ Some at
  pub got : slice_get schema.tables at ≡ Some table
  pub found : find (λ t. t.tree == table.tree) schema.tables ≡ Some table
  pub stored : nat_le (2 ^ 31) table.tree ≡ false

abbrev pub TreesDiffer : Table → Table → Type 0
TreesDiffer s t = s.tree ≢ t.tree

abbrev pub tree_at : Option Row → ℕ
tree_at (Some row) = number_in (rowid row) - 1
tree_at None = 0

-- the tree of the table of that name
abbrev pub tree_named : List Row → List ℕ → ℕ
tree_named objects name = tree_at (find (λ row. same_name (bytes (column row 2)) name) (filter is_table_row objects))
