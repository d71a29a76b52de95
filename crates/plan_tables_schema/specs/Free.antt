-- Where tables can be made next to other tables, and what is there then.
use Rattle.std.specs.Prelude.{◌≡◌, ◌+◌, ◌<◌, ◌≤◌, false, List, [], ◌∷◌, length}
use Rattle.std.specs.List.{All}
use Rattle.sqlite.specs.Change.{created, next_tree}
use Rattle.sqlite.specs.Does.{lacks_sequence}
use Rattle.sqlite_catalog.specs.Change.{is_used}
use Rattle.sqlite_schema.specs.Names.{same_name}
use Rattle.sqlite_schema.specs.declared.schema.Reference.{Reference}
use Rattle.sqlite_schema.specs.declared.schema.Schema.{Schema}
use Rattle.sqlite_schema.specs.declared.schema.Table.{Table as Described}
use Rattle.sqlite_trees.specs.Tree.{IsAscending}
use Rattle.plan_tables_schema.specs.Places.{TreesDiffer}
use Rattle.plan_tables_schema.specs.Schema.{all_tables, plan_schema, table_at}
use Rattle.plan_tables_schema.specs.declared.tables.Table.{Table}

-- the reference is to none of these tables
abbrev pub IsAsideOf : List Described → Reference → Type 0
IsAsideOf tables ref = All (λ t. same_name t.name ref.parent ≡ false) tables

-- the table refers to none of these
abbrev pub AreAside : List Described → Described → Type 0
AreAside tables child = All (IsAsideOf tables) child.references

-- the names of the other's tables and indexes are not used
pub record AreUnused (schema made : Schema) : Type 0 where
  pub tables : All (λ t. is_used schema t.name ≡ false) made.tables
  pub indexes : All (λ i. is_used schema i.name ≡ false) made.indexes

-- there is room for the trees of the other
abbrev pub FitsIn : Schema → Schema → Type 0
FitsIn schema made = next_tree schema + length made.tables + length made.indexes ≤ 65536

-- the tables of the other can be made in it: nothing has their names, and there is room for their trees; no table
-- refers to one of them; no two tables have one tree, and no index is of a tree that is still to be made; and
-- AUTOINCREMENT has its table if it needs one
pub record CanMake (schema made : Schema) : Type 0 where
  pub unused : AreUnused schema made
  pub room : FitsIn schema made
  pub aside : All (AreAside made.tables) schema.tables
  pub apart : IsAscending TreesDiffer schema.tables
  pub indexed : All (λ i. i.table < next_tree schema) schema.indexes
  pub uncounted : lacks_sequence schema ≡ false

-- nothing is in the way of the tables of a plan
abbrev pub IsFree : Schema → Type 0
IsFree schema = CanMake schema plan_schema

-- these tables are made, one after the other, after those that are there
abbrev pub with_tables : Schema → List Table → Schema
with_tables schema [] = schema
with_tables schema (t ∷ ts) = with_tables (created schema (table_at 0 t)) ts

abbrev pub with_plan : Schema → Schema
with_plan schema = with_tables schema all_tables
