-- The list of objects tells the tree of a table that stands in the schema.
use Rattle.std.proofs.Common.{◌≡◌, ◌∙◌, ◌+◌, ◌-◌, ℕ, Bool, true, false, cond, List, [], ◌∷◌, filter, find, Some, ap, arith}
use Rattle.std.specs.List.{AllZip}
use Rattle.sqlite.specs.Order.{Row}
use Rattle.sqlite.specs.State.{State}
use Rattle.sqlite.specs.Tree.{rowid}
use Rattle.sqlite_catalog.specs.Listing.{AreListed, IsTableRow, is_table_row}
use Rattle.sqlite_schema.specs.Names.{same_name}
use Rattle.sqlite_schema.specs.declared.schema.Schema.{Schema}
use Rattle.sqlite_schema.specs.declared.schema.Table.{Table as Described}
use Rattle.sqlite_trees.specs.Objects.{number_in}
use Rattle.sqlite_value.specs.Order.{bytes, column}
use Rattle.plan_tables_schema.specs.Rows.{IsPlan, tables_of}
use Rattle.plan_tables_schema.specs.Schema.{HasTables, name, table_at}
use Rattle.plan_tables_schema.specs.declared.tables.Table.{Table}
use Rattle.plan_tables_schema.specs.Places.{TableIsAt, tree_at, tree_named}
use Rattle.plan_tables_schema.proofs.FoundLemmas.{named_there}

row_tree : (row : Row) (table : Described) → IsTableRow row table → number_in (rowid row) - 1 ≡ table.tree
row_tree row table is = let e : table.tree + 1 - 1 ≡ table.tree = omega arith in rw is.described.id e

tree_found : (name : List ℕ) (table : Described) (rows : List Row) (tables : List Described) → AllZip IsTableRow rows tables
    → find (λ t. same_name t.name name) tables ≡ Some table → tree_at (find (λ row. same_name (bytes (column row 2)) name) rows) ≡ table.tree
tree_found name table [] [] all h = cc
tree_found name table [] (t ∷ ts) all h = absurd all
tree_found name table (r ∷ rs) [] all h = absurd all
tree_found name table (r ∷ rs) (t ∷ ts) all h = rw all.0.described.name_is (go (same_name t.name name) h (tree_found name table rs ts all.1))
  where
    go : (b : Bool) → cond b (Some t) (find (λ t. same_name t.name name) ts) ≡ Some table
        → (find (λ t. same_name t.name name) ts ≡ Some table → tree_at (find (λ row. same_name (bytes (column row 2)) name) rs) ≡ table.tree)
        → tree_at (cond b (Some r) (find (λ row. same_name (bytes (column row 2)) name) rs)) ≡ table.tree
    go true h later = let same : t ≡ table = cc in row_tree r t all.0 ∙ ap (λ (d : Described). d.tree) same
    go false h later = later h

pub tree_is : (schema : Schema) (table : Described) (at : ℕ) (objects : List Row) → TableIsAt schema table at → AreListed objects schema
    → tree_named objects table.name ≡ table.tree
tree_is schema table at objects it are =
    tree_found table.name table (filter is_table_row objects) schema.tables are.tables (named_there schema table at it)

-- so it tells those of the tables of a plan
pub tells : (schema : Schema) (has : HasTables schema) (objects : List Row) → AreListed objects schema → (t : Table)
    → tree_named objects (name t) ≡ has.trees t
tells schema has objects are t = tree_is schema (table_at (has.trees t) t) (has.at t) objects (has.stands t) are

-- and what stands there are the rows of the tables
pub rows_are : (s : State) (plan : IsPlan s) → tables_of s.now.trees ≡ (λ t. s.now.trees (plan.schema.trees t))
rows_are s plan = λ i t. s.now.trees (plan.told t i)
