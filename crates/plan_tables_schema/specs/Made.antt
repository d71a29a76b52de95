-- Tables of a plan that are made next to others, inside a transaction.
use Rattle.std.specs.Prelude.{◌≡◌, ◌+◌, List, [], ◌∷◌, ◌++◌, drop, take, IsTrue, ⊤}
use Rattle.sqlite.specs.Change.{KeepsRows, created, next_tree}
use Rattle.sqlite.specs.Effect.{Database, IsDatabase}
use Rattle.sqlite.specs.Schema.{Schema}
use Rattle.sqlite.specs.State.{State}
use Rattle.sqlite.specs.Table.{Table as Described}
use Rattle.sqlite.specs.Tree.{Trees}
use Rattle.plan_tables_schema.specs.Free.{IsFree, with_plan, with_tables}
use Rattle.plan_tables_schema.specs.Rows.{IsPlan, no_rows, tables_of}
use Rattle.plan_tables_schema.specs.Schema.{HasOnlyKeyIndexes, all_tables, place, table_at}
use Rattle.plan_tables_schema.specs.declared.tables.Table.{Table}

-- the tables that are made before it
abbrev pub earlier : Table → List Table
earlier t = take (place t) all_tables

-- the tables that are made after it
abbrev pub later : Table → List Table
later t = drop (place t + 1) all_tables

abbrev pub up_to : Table → List Table
up_to t = earlier t ++ t ∷ []

-- each of the tables is like this one, in the tree in which it is made
abbrev pub AllMade : (Described → Type 0) → Schema → List Table → Type 0
AllMade P schema [] = ⊤
AllMade P schema (t ∷ ts) = P (table_at (next_tree schema) t) × AllMade P (created schema (table_at 0 t)) ts

-- once a table is made, the database obeys its rules
abbrev pub IsWritten : List Table → Database → Type 0
IsWritten [] db = ⊤
IsWritten (t ∷ ts) db = IsDatabase db

-- a transaction begins over a database in which the tables of a plan can be made
pub record IsReady (base : Database) (s : State) : Type 0 where
  pub free : IsFree base.schema
  pub is : s.now ≡ base
  pub mode : IsTrue s.in_transaction

-- these tables are made, without rows; the others are unchanged, with their rows
pub record IsMadeSoFar (done : List Table) (base : Database) (s : State) : Type 0 where
  pub free : IsFree base.schema
  pub schema : s.now.schema ≡ with_tables base.schema done
  pub empty : AllMade (λ t. s.now.trees t.tree ≡ []) base.schema done
  pub others : KeepsRows base.schema.tables base.trees s.now.trees
  pub sound : IsWritten done s.now
  pub mode : IsTrue s.in_transaction

-- the tables of a plan are made, without rows; the others are unchanged, with their rows
pub record IsMadeWhole (base : Database) (s : State) : Type 0 where
  pub free : IsFree base.schema
  pub schema : s.now.schema ≡ with_plan base.schema
  pub plan : IsPlan s
  pub rows_are : tables_of s.now.trees ≡ no_rows
  pub others : KeepsRows base.schema.tables base.trees s.now.trees
  pub own : HasOnlyKeyIndexes s.now.schema
  pub sound : IsDatabase s.now
  pub mode : IsTrue s.in_transaction

-- the tables of a plan were made, without rows; the others are unchanged, with their rows
pub record IsMadeBeside (old new : State) : Type 0 where
  pub plan : IsPlan new
  pub rows_are : tables_of new.now.trees ≡ no_rows
  pub schema : new.now.schema ≡ with_plan old.now.schema
  pub others : KeepsRows old.now.schema.tables old.now.trees new.now.trees

-- what that leaves
abbrev pub HoldsMade : State → Trees → Type 0
HoldsMade old db = (tables_of db ≡ no_rows) × KeepsRows old.now.schema.tables old.now.trees db
