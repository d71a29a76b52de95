-- The tables of the plan and their indexes.
use Rattle.std.specs.Prelude.{◌≡◌, ◌⊎◌, ◌+◌, ◌==◌, if◌then◌else◌, ℕ, false, List, [], ◌∷◌, ◌++◌, map, Option, codes}
use Rattle.std.specs.List.{AllByRecursion}
use Rattle.sqlite.specs.Schema.{Schema}
use Rattle.sqlite.specs.Table.{Table as Described}
use Rattle.sqlite.specs.Term.{Term}
use Rattle.sqlite_catalog.specs.Listing.{automatic}
use Rattle.sqlite_schema.specs.declared.schema.Action.TheVariants.{NoAction, Cascade}
use Rattle.sqlite_schema.specs.declared.schema.Column.{Column}
use Rattle.sqlite_schema.specs.declared.schema.Index.{Index}
use Rattle.sqlite_schema.specs.declared.schema.Reference.{Reference}
use Rattle.sqlite_schema.specs.Names.{same_name}
use Rattle.sqlite_trees.specs.Tree.{IsAscending}
use Rattle.sqlite_value.specs.Keys.{plain}
use Rattle.sqlite_value.specs.declared.keys.Order.{Order}
use Rattle.plan_tables_schema.specs.Form.{checks_of, columns_of, key_of, orders_of, primary_of, references_of, uniques_of}
use Rattle.plan_tables_schema.specs.Forms.{form}
use Rattle.plan_tables_schema.specs.Places.{TableIsAt, TreesDiffer}
use Rattle.plan_tables_schema.specs.declared.tables.Table.{Table}
use Rattle.plan_tables_schema.specs.declared.tables.Table.TheVariants.{Meta, CalendarEntry, Period, Application}
use Rattle.plan_tables_schema.specs.declared.tables.Table.TheVariants.{RunCycle, Offset, Predecessor, LinkInForce}
use Rattle.plan_tables_schema.specs.declared.tables.Table.TheVariants.{LongTerm, Current, History, Deletion}
use Rattle.plan_tables_schema.specs.declared.tables.Table.TheVariants.{Dependency, Job}

-- a table with no AUTOINCREMENT and no default that is computed
abbrev pub plain_table : List ℕ → ℕ → List Column → Option ℕ → List ℕ → List (List ℕ) → List Order → List Term
    → List Reference → Described
plain_table name tree columns key primary uniques orders checks references = record {
  name = name;
  tree = tree;
  columns = columns;
  key = key;
  primary = primary;
  uniques = uniques;
  orders = orders;
  checks = checks;
  references = references;
  computed = [];
  stamps = record { places = []; terms = []; formats = [] };
  is_counted = false;
}

abbrev pub name : Table → List ℕ
name t = (form t).name

-- which of the tables it is
abbrev pub place : Table → ℕ
place Meta = 0
place CalendarEntry = 1
place Period = 2
place Application = 3
place RunCycle = 4
place Offset = 5
place Predecessor = 6
place LinkInForce = 7
place LongTerm = 8
place Current = 9
place History = 10
place Deletion = 11
place Dependency = 12
place Job = 13

-- the table at the place
abbrev pub table_of : ℕ → Table
table_of n =
    if n == 0 then Meta else (
    if n == 1 then CalendarEntry else (
    if n == 2 then Period else (
    if n == 3 then Application else (
    if n == 4 then RunCycle else (
    if n == 5 then Offset else (
    if n == 6 then Predecessor else (
    if n == 7 then LinkInForce else (
    if n == 8 then LongTerm else (
    if n == 9 then Current else (
    if n == 10 then History else (
    if n == 11 then Deletion else (
    if n == 12 then Dependency else (
    Job)))))))))))))

-- which tree has its rows
abbrev pub tree : Table → ℕ
tree Meta = 0
tree CalendarEntry = 1
tree Period = 3
tree Application = 5
tree RunCycle = 7
tree Offset = 9
tree Predecessor = 11
tree LinkInForce = 13
tree LongTerm = 15
tree Current = 17
tree History = 18
tree Deletion = 20
tree Dependency = 21
tree Job = 23

abbrev pub columns : Table → List Column
columns t = columns_of (form t)

-- the column that stands for the rowid
abbrev pub key : Table → Option ℕ
key t = key_of (form t).key

-- the places of the primary key in a row, which begins with the rowid
abbrev pub primary : Table → List ℕ
primary t = primary_of (form t).key

-- the places of each key that has an index
abbrev pub uniques : Table → List (List ℕ)
uniques t = uniques_of (form t).key

abbrev pub orders : Table → List Order
orders t = orders_of (form t).key

abbrev pub checks : Table → List Term
checks t = checks_of (form t).key

-- an offset belongs to a run cycle, and is deleted with it
abbrev pub to_run_cycle : Reference
to_run_cycle = record {
  columns = 1 ∷ 2 ∷ [];
  parent = codes "run_cycle";
  parent_columns = [];
  on_delete = Cascade;
  on_update = NoAction;
  is_deferred = false;
}

abbrev pub references : Table → List Reference
references t = references_of (form t).key

-- as it is in that tree
abbrev pub table_at : ℕ → Table → Described
table_at at t = plain_table (name t) at (columns t) (key t) (primary t) (uniques t) (orders t) (checks t)
    (references t)

abbrev pub table : Table → Described
table t = table_at (tree t) t

abbrev pub all_tables : List Table
all_tables = Meta ∷ CalendarEntry ∷ Period ∷ Application ∷ RunCycle ∷ Offset ∷ Predecessor ∷ LinkInForce ∷ LongTerm
    ∷ Current ∷ History ∷ Deletion ∷ Dependency ∷ Job ∷ []

-- the indexes of their keys, in the order in which they are made
abbrev pub indexes_of : List Table → List Index
indexes_of [] = []
indexes_of (t ∷ ts) = map (λ places. automatic (table t) 0 places (tree t + 1)) (uniques t) ++ indexes_of ts

abbrev pub indexes : List Index
indexes = indexes_of all_tables

abbrev pub plan_schema : Schema
plan_schema = record { tables = map table all_tables; indexes = indexes; views = [] }

-- the reference is to none of the tables
abbrev pub IsAside : Reference → Type 0
IsAside ref = (t : Table) → same_name (name t) ref.parent ≡ false

-- no reference is to one of the tables, except that of the offsets, which are in this tree
abbrev pub RefersAside : Schema → ℕ → Type 0
RefersAside schema n = AllByRecursion (λ child. AllByRecursion (λ ref. IsAside ref
    ⊎ ((child ≡ table_at n Offset) × (ref ≡ to_run_cycle))) child.references) schema.tables

-- the tables of the plan are in the schema, each at some place and in some tree, and perhaps others, which refer to
-- none of these
pub record HasTables (schema : Schema) : Type 0 where
  pub at : Table → ℕ
  pub trees : Table → ℕ
  pub stands : (t : Table) → TableIsAt schema (table_at (trees t) t) (at t)
  pub apart : IsAscending TreesDiffer schema.tables
  pub refer : RefersAside schema (trees Offset)

-- where the index is of a table of the plan, it is that of its key
abbrev pub IsKeyIndex : (Table → ℕ) → Index → Type 0
IsKeyIndex trees i = (t : Table) → i.table ≡ trees t → (uniques t ≡ i.columns ∷ []) × (i.order ≡ plain)

-- each index of a table of the plan is that of its key
abbrev pub HasOnlyKeyIndexes : Schema → Type 0
HasOnlyKeyIndexes schema = (has : HasTables schema) → AllByRecursion (IsKeyIndex has.trees) schema.indexes

abbrev pub no_schema : Schema
no_schema = record { tables = []; indexes = []; views = [] }
