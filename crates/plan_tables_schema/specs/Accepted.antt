-- What the tables of a plan accept.
use Rattle.std.specs.Prelude.{◌≡◌, ℕ, ℤ, true, false, List, [], ◌∷◌, drop, length, ◌*◌, IsTrue, ⊤}
use Rattle.std.specs.List.{AllByRecursion, list_any}
use Rattle.sqlite.specs.Effect.{IsDatabase}
use Rattle.sqlite.specs.Kind.{Kind}
use Rattle.sqlite.specs.Kind.TheVariants as kind
use Rattle.sqlite.specs.Order.{Row}
use Rattle.sqlite.specs.Rowids.TheVariants.{Chosen}
use Rattle.sqlite.specs.State.{State}
use Rattle.sqlite.specs.Tree.{rowid}
use Rattle.sqlite.specs.View.{is_int}
use Rattle.sqlite.specs.declared.types.Value.TheVariants.{Int, Text}
use Rattle.sqlite_rules.specs.Edit.{id_in, is_taken, with_rowid}
use Rattle.sqlite_schema.specs.Rules.{agree, are_present, are_typed, index_reals, passes_checks, table_reals}
use Rattle.sqlite_sql.specs.Catalog.{entry_of}
use Rattle.sqlite_sql.specs.Ops.{fits_i64}
use Rattle.sqlite_trees.specs.View.{IsStorable, IsStorableRow}
use Rattle.sqlite_value.specs.Keys.{plain}
use Rattle.plan_tables_schema.specs.Cells.{column_names, rows_at_once, rows_given}
use Rattle.plan_tables_schema.specs.Form.{key_kinds}
use Rattle.plan_tables_schema.specs.Forms.{form}
use Rattle.plan_tables_schema.specs.Rows.{AreOfKinds, IsAlone, IsPlan, Tables, stored, with_cells}
use Rattle.plan_tables_schema.specs.Schema.{HasOnlyKeyIndexes, columns, key, primary, references, table, uniques}
use Rattle.plan_tables_schema.specs.declared.tables.Table.{Table}
use Rattle.plan_tables_schema.specs.declared.tables.Table.TheVariants.{RunCycle}

-- ---- a row that is inserted

-- the row of these values, with the rowid that is chosen where none is given
abbrev pub new_row : Table → Row → Tables → Row
new_row t cells all = with_rowid Chosen (all t) (stored t cells)

-- no row has the same values at these places
abbrev pub HasNone : List Row → Row → List ℕ → Type 0
HasNone rows row places = AllByRecursion (λ other. agree plain places other places row ≡ false) rows

-- where the table refers to run cycles, that of the row is there
abbrev pub HasParents : Table → Row → Tables → Type 0
HasParents t row all = AllByRecursion (λ ref. list_any (λ parent. agree plain (primary RunCycle) parent ref.columns row)
    (all RunCycle) ≡ true) (references t)

-- the table accepts a row of these values: there is one for each column, of its type, and no NULL where a value is
-- required; the row can be stored, and its entries in the indexes; no other has its rowid or one of its keys; and the
-- row that it refers to is there
pub record AcceptsRow (t : Table) (cells : Row) (all : Tables) : Type 0 where
  pub whole : length cells ≡ length (column_names t)
  pub kinds : AreOfKinds t cells
  pub typed : are_typed (key t) 0 (columns t) (drop 1 (new_row t cells all)) ≡ true
  pub present : are_present (key t) 0 (columns t) (new_row t cells all) ≡ true
  pub checked : passes_checks (table t) (new_row t cells all) ≡ true
  pub storable : IsStorableRow (table_reals (table t)) (new_row t cells all)
  pub entries : AllByRecursion (λ places. IsStorable (index_reals (table_reals (table t)) places)
      (entry_of places (new_row t cells all))) (uniques t)
  pub numbered : is_int (rowid (new_row t cells all)) ≡ true
  pub within : fits_i64 (id_in (rowid (new_row t cells all))) ≡ true
  pub fresh : is_taken (all t) (new_row t cells all) ≡ false
  pub unique : AllByRecursion (HasNone (all t) (new_row t cells all)) (uniques t)
  pub parents : HasParents t (new_row t cells all) all

-- rows of these values in turn, each as the tables are then
abbrev pub AcceptsInTurn : Table → List Row → Tables → Type 0
AcceptsInTurn t [] all = ⊤
AcceptsInTurn t (cells ∷ more) all = AcceptsRow t cells all × AcceptsInTurn t more (with_cells t cells all)

-- the values are those of several rows, as many as one statement inserts, and the table accepts these in turn
abbrev pub AcceptsSeveral : Table → Row → Tables → Type 0
AcceptsSeveral t values all = (length values ≡ rows_at_once t * length (column_names t))
    × AcceptsInTurn t (rows_given t values) all

-- ---- a key by which rows are found

abbrev pub IsNumber : Row → Type 0
IsNumber values = (n : ℤ) × (values ≡ Int n ∷ [])

abbrev pub IsName : Row → Type 0
IsName values = (name : List ℕ) × (values ≡ Text name ∷ [])

abbrev pub IsNamePair : Row → Type 0
IsNamePair values = (app : List ℕ) × (name : List ℕ) × (values ≡ Text app ∷ Text name ∷ [])

abbrev pub IsNumberPair : Row → Type 0
IsNumberPair values = (m : ℤ) × (n : ℤ) × (values ≡ Int m ∷ Int n ∷ [])

-- values of columns of these kinds, which a key has
abbrev pub HasKinds : List Kind → Row → Type 0
HasKinds (kind.Integer ∷ []) values = IsNumber values
HasKinds (kind.Text ∷ []) values = IsName values
HasKinds (kind.Text ∷ kind.Text ∷ []) values = IsNamePair values
HasKinds (kind.Integer ∷ kind.Integer ∷ []) values = IsNumberPair values
HasKinds _ values = ⊥

-- the values are a key of the table
abbrev pub IsKeyOf : Table → Row → Type 0
IsKeyOf t values = HasKinds (key_kinds (form t)) values

-- the rows of the key can be deleted, and no row of another table with them
abbrev pub LosesKey : Table → Row → Tables → Type 0
LosesKey t values all = IsKeyOf t values × IsAlone t values all

-- ---- the database

-- in a transaction the database has the tables of the plan with no other indexes, and obeys its rules
pub record IsSoundPlan (s : State) : Type 0 where
  pub plan : IsPlan s
  pub own : HasOnlyKeyIndexes s.now.schema
  pub sound : IsTrue s.is_open → IsDatabase s.now
  pub mode : IsTrue s.in_transaction
