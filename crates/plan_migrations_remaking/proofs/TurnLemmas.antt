-- Statements in turn, over tables of schema 1.
use Rattle.std.proofs.Common.{◌≡◌, ◌∙◌, ℕ, ◌+◌, ◌<◌, List, [], ◌∷◌, ◌++◌, length, drop, get_or}
use Rattle.std.proofs.Common.{refl, sym, ap, subst}
use Rattle.sqlite.specs.Order.{Row}
use Rattle.sqlite.specs.State.{State}
use Rattle.sqlite.specs.declared.error.Error.{Error}
use Rattle.plan_tables_schema.specs.Rows.{Tables, tables_of}
use Rattle.plan_tables_schema.specs.declared.tables.Table.{Table}
use Rattle.plan_tables_schema.proofs.InTurn.{IsOnWay, cut}
use Rattle.plan_migrations_remaking.specs.Remaking.{RefusesRow, RefusesToFill}
use Rattle.plan_migrations_remaking.specs.Remaking.{remade_row, with_all_put, with_rows_put}
use Rattle.plan_migrations_remaking.specs.declared.rows.FirstRows.{FirstRows}

-- ---- rows are refused

-- the next row of a table is refused
pub row_refused : (old mid : State) (t : Table) (rows : List Row) (i : ℕ) (row : Row) (e : Error) → i < length rows
    → row ≡ get_or rows i row → mid.step_limit ≡ old.step_limit
    → IsOnWay old mid (with_rows_put t (drop i rows)) (with_rows_put t rows (tables_of old.now.trees))
    → RefusesRow mid.step_limit mid.now t (remade_row t row) e
    → RefusesToFill old.step_limit old.now.schema (with_rows_put t rows (tables_of old.now.trees)) e
row_refused old mid t rows i row e low is limit way refused = record {
  db = mid.now;
  same = way.0.schema;
  table = t;
  row = row;
  rows = drop (i + 1) rows;
  reads = [];
  next = ap (λ left. with_rows_put t left (tables_of mid.now.trees)) (sym (cut rows i row low is)) ∙ way.1;
  refused = subst (λ l. RefusesRow l mid.now t (remade_row t row) e) limit refused;
}

pub put_both : (xs ys : List FirstRows) (all : Tables) → with_all_put (xs ++ ys) all ≡ with_all_put ys (with_all_put xs all)
put_both [] ys all = refl
put_both (x ∷ xs) ys all = put_both xs ys (with_rows_put x.table x.rows.items all)

-- a row of the next table is refused
pub table_refused : (old mid : State) (reads : List FirstRows) (i : ℕ) (read : FirstRows) (e : Error) → i < length reads
    → read ≡ get_or reads i read → mid.step_limit ≡ old.step_limit
    → IsOnWay old mid (with_all_put (drop i reads)) (with_all_put reads (tables_of old.now.trees))
    → RefusesToFill mid.step_limit mid.now.schema (with_rows_put read.table read.rows.items (tables_of mid.now.trees)) e
    → RefusesToFill old.step_limit old.now.schema (with_all_put reads (tables_of old.now.trees)) e
table_refused old mid reads i read e low is limit way refused = record {
  db = refused.db;
  same = refused.same ∙ way.0.schema;
  table = refused.table;
  row = refused.row;
  rows = refused.rows;
  reads = refused.reads ++ drop (i + 1) reads;
  next = put_both refused.reads (drop (i + 1) reads) (with_rows_put refused.table (refused.row ∷ refused.rows) (tables_of
      refused.db.trees)) ∙ ap (with_all_put (drop (i + 1) reads)) refused.next
      ∙ ap (λ left. with_all_put left (tables_of mid.now.trees)) (sym (cut reads i read low is)) ∙ way.1;
  refused = subst (λ l. RefusesRow l refused.db refused.table (remade_row refused.table refused.row) e) limit refused.refused;
}
