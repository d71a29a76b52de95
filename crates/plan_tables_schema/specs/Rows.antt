-- The rows of the tables, and what one statement makes of them.
use Rattle.std.specs.Prelude.{◌≡◌, ◌≢◌, ◌⊎◌, Bool, false, not, ◌==◌, if◌then◌else◌, List, [], ◌∷◌, filter, IsTrue, IsSome, ⊤}
use Rattle.std.specs.List.{AllByRecursion, list_all}
use Rattle.std.specs.Ordering.{is_eq, match_ordering}
use Rattle.sqlite.specs.Effect.{Database, IsDatabase}
use Rattle.sqlite.specs.Order.{Row}
use Rattle.sqlite.specs.State.{HasCause, IsRolledBack, IsUnchanged, State, store_error}
use Rattle.sqlite_trees.specs.declared.error.StoreError.{StoreError}
use Rattle.sqlite.specs.declared.error.Error.{Error}
use Rattle.sqlite.specs.declared.error.Error.TheVariants.{SqliteFailure}
use Rattle.sqlite.specs.declared.error.ErrorCode.TheVariants.{OperationInterrupted}
use Rattle.sqlite.specs.Term.{eval_all, holds}
use Rattle.sqlite.specs.Tree.{Trees, rowid}
use Rattle.sqlite.specs.View.{is_int}
use Rattle.sqlite_rules.specs.Cast.{cast_row}
use Rattle.sqlite_rules.specs.Edit.{with_rowid}
use Rattle.sqlite.specs.Rowids.TheVariants.{Chosen}
use Rattle.sqlite_trees.specs.Objects.{catalog_tree}
use Rattle.sqlite_value.specs.Order.{value_cmp}
use Rattle.plan_tables_schema.specs.Cells.{delete_tests, insert_terms, select_terms}
use Rattle.plan_tables_schema.specs.Places.{tree_named}
use Rattle.plan_tables_schema.specs.Schema.{HasTables, name, place, table}
use Rattle.plan_tables_schema.specs.declared.tables.Table.{Table}
use Rattle.plan_tables_schema.specs.declared.tables.Table.TheVariants.{Offset, RunCycle}

-- the rows of each table, each with its rowid first
abbrev pub Tables : Type 0
Tables = Table → List Row

-- those of a database: of each table those in the tree that the list of objects names
abbrev pub tables_of : Trees → Tables
tables_of db t = db (tree_named (db catalog_tree) (name t))

-- the row that these values make: its rowid, or NULL where one is to be chosen, and its columns
abbrev pub stored : Table → Row → Row
stored t cells = eval_all (insert_terms t) (cells ∷ [])

-- the values that a row shows: its columns
abbrev pub shown : Table → Row → Row
shown t row = eval_all (select_terms t) ([] ∷ row ∷ [])

-- each value is of the kind of its column, so that none is converted where it is stored
abbrev pub AreOfKinds : Table → Row → Type 0
AreOfKinds t cells = cast_row (table t) (stored t cells) ≡ stored t cells

-- the row has the key
abbrev pub matches : Table → Row → Row → Bool
matches t key row = list_all (holds (key ∷ row ∷ [])) (delete_tests t)

-- the row among the others, in the order of rowids
abbrev pub placed : Row → List Row → List Row
placed new [] = new ∷ []
placed new (r ∷ rs) = match_ordering (value_cmp (rowid r) (rowid new)) (r ∷ placed new rs) (r ∷ placed new rs) (new
    ∷ r ∷ rs)

abbrev pub with_rows : Table → List Row → Tables → Tables
with_rows t rows all u = if place u == place t then rows else all u

-- the tables with a row of these values in one of them
abbrev pub with_cells : Table → Row → Tables → Tables
with_cells t cells all = with_rows t (placed (with_rowid Chosen (all t) (stored t cells)) (all t)) all

-- with a row of each of these values in one of them, one after another
abbrev pub with_several : Table → List Row → Tables → Tables
with_several t [] all = all
with_several t (cells ∷ more) all = with_several t more (with_cells t cells all)

-- the tables without the rows that have the key in one of them
abbrev pub without_key : Table → Row → Tables → Tables
without_key t key all = with_rows t (filter (λ r. not (matches t key r)) (all t)) all

-- if the table has run cycles, no offset has the key: a run cycle's offsets are deleted with it
abbrev pub IsAlone : Table → Row → Tables → Type 0
IsAlone RunCycle key all = AllByRecursion (λ r. matches Offset key r ≡ false) (all Offset)
IsAlone _ key all = ⊤

-- the two have different rowids
abbrev pub Differ : Row → Row → Type 0
Differ a b = is_eq (value_cmp (rowid a) (rowid b)) ≡ false

-- each row has an integer as its rowid, and no two have the same
abbrev pub HaveRowids : List Row → Type 0
HaveRowids [] = ⊤
HaveRowids (r ∷ rs) = IsTrue (is_int (rowid r)) × AllByRecursion (Differ r) rs × HaveRowids rs

-- the database has the tables of the plan, and perhaps others; its list of objects names their trees
pub record IsPlan (s : State) : Type 0 where
  pub schema : HasTables s.now.schema
  pub told : (t : Table) → tree_named (s.now.trees catalog_tree) (name t) ≡ schema.trees t
  pub rowids : (t : Table) → HaveRowids (tables_of s.now.trees t)

-- each table that isn't one of the plan's has the rows that it had
abbrev pub KeepsBeside : Database → Database → Type 0
KeepsBeside old new =
    AllByRecursion (λ d. ((t : Table) → d.tree ≢ tree_named (old.trees catalog_tree) (name t))
    → new.trees d.tree ≡ old.trees d.tree) old.schema.tables

-- inside a transaction the tables now have these rows; the others are unchanged, and if the database obeyed its rules
-- it still does
pub record Stands (old new : State) (rows : Tables) : Type 0 where
  pub plan : IsPlan new
  pub schema : new.now.schema ≡ old.now.schema
  pub same : (t : Table) → tree_named (new.now.trees catalog_tree) (name t)
      ≡ tree_named (old.now.trees catalog_tree) (name t)
  pub others : KeepsBeside old.now new.now
  pub obeys : IsDatabase old.now → IsDatabase new.now
  pub rows_are : tables_of new.now.trees ≡ rows
  pub committed : new.committed ≡ old.committed
  pub mode : IsTrue new.in_transaction

-- why a statement may fail even if the tables allow it, the four general errors: memory is refused, the device fails
-- meanwhile, the connection was closed before, or a limit on steps is reached, if one is set
abbrev pub MayFail : State → State → Error → Type 0
MayFail old new e = ((cause : StoreError) × (e ≡ store_error cause) × HasCause old new ⊥ cause)
    ⊎ ((e ≡ SqliteFailure OperationInterrupted) × IsSome old.step_limit)

-- all is as it was, or what was not committed is undone
abbrev pub StaysOrIsUndone : State → State → Type 0
StaysOrIsUndone old new = IsUnchanged old new ⊎ IsRolledBack old new

-- no table has a row
abbrev pub no_rows : Tables
no_rows t = []
