-- What the texts of INSERT and DELETE say, as they are written.
use Rattle.std.specs.Prelude.{◌≡◌, ℕ, ◌+◌, List, [], length, Option, Some, None, Ok, Err}
use Rattle.sqlite_schema.specs.declared.schema.Schema.{Schema}
use Rattle.sqlite_schema.specs.declared.schema.Table.{Table}
use Rattle.sqlite_schema.specs.declared.command.Source.{Source}
use Rattle.sqlite_ast.specs.declared.Expr.TheOpen.{Expr-F}
use Rattle.sqlite_resolve.specs.Lowering.{Checked}
use Rattle.sqlite_resolve.specs.Compile.{new_rows, small}
use Rattle.sqlite_resolve.specs.Write.{deleted}
use Rattle.sqlite_resolve.specs.Program.{program}
use Rattle.sqlite_draft.specs.declared.query.Draft.{Draft}
use Rattle.sqlite_draft.specs.Query.{query_of}
use Rattle.sqlite_ast.specs.declared.Expr.{Expr, out-Expr, roll-Expr}
use Rattle.sqlite_ast.specs.declared.Rows.{Rows}
use Rattle.sqlite_ast.specs.declared.Rows.TheVariants as rows
use Rattle.sqlite_ast.specs.declared.Statement.{Statement}
use Rattle.sqlite_ast.specs.declared.Statement.TheVariants as written
use Rattle.sqlite_ast.specs.declared.Conflict.TheVariants.{Abort}
use Rattle.sqlite_syntax.specs.declared.statement.Parsed.{Parsed}
use Rattle.sqlite_ast.specs.declared.Binary.TheVariants as binary
use Rattle.plan_tables_schema.proofs.WrittenTests.{IsEqual, left, right}

abbrev pub IfRead : Checked Parsed → (Parsed → Type 0) → Type 0
IfRead (Ok p) P = P p
IfRead (Err e) P = ⊥

-- ---- INSERT

abbrev pub insert_target : Statement → List ℕ
insert_target (written.Insert how name columns all_rows clauses shown) = name
insert_target _ = []

abbrev pub insert_columns : Statement → List (List ℕ)
insert_columns (written.Insert how name columns all_rows clauses shown) = columns
insert_columns _ = []

abbrev pub insert_rows : Statement → Rows
insert_rows (written.Insert how name columns all_rows clauses shown) = all_rows
insert_rows _ = rows.Defaults

-- the text inserts these rows, once the table is known
pub record Inserts (schema : Schema) (table : Table) (source : Source) (size given : ℕ) (p : Parsed) : Type 0 where
  pub whole : p.tail ≡ size
  pub parameters : length p.names ≡ given
  pub is : p.statement ≡ written.Insert Abort (insert_target p.statement) (insert_columns p.statement) (insert_rows p.statement) [] []
  pub target : insert_target p.statement ≡ table.name
  pub timeless : p.formats ≡ []
  pub rows : new_rows schema table (small p.names + 0) (insert_columns p.statement) (insert_rows p.statement) ≡ Ok source

-- ---- DELETE

abbrev pub delete_target : Statement → List ℕ
delete_target (written.Delete name test shown) = name
delete_target _ = []

abbrev pub delete_test : Statement → Option Expr
delete_test (written.Delete name test shown) = test
delete_test _ = None

abbrev pub test_in : Option Expr → Expr
test_in (Some e) = e
test_in None = roll-Expr Expr-F.Null

-- the text deletes the rows of this draft
pub record Deletes (schema : Schema) (table : Table) (at : ℕ) (draft : Draft) (size given : ℕ) (p : Parsed) : Type 0 where
  pub whole : p.tail ≡ size
  pub parameters : length p.names ≡ given
  pub is : p.statement ≡ written.Delete (delete_target p.statement) (delete_test p.statement) []
  pub target : delete_target p.statement ≡ table.name
  pub timeless : p.formats ≡ []
  pub drafted : deleted schema at table (delete_test p.statement) ≡ Ok draft
  pub program : program schema [] draft ≡ Ok (record { lets = []; body = query_of draft })

-- the text deletes by one key column
pub record SaysEqual (name column : List ℕ) (n size : ℕ) (p : Parsed) : Type 0 where
  pub whole : p.tail ≡ size
  pub parameters : length p.names ≡ 1
  pub is : p.statement ≡ written.Delete (delete_target p.statement) (delete_test p.statement) []
  pub target : delete_target p.statement ≡ name
  pub timeless : p.formats ≡ []
  pub test : delete_test p.statement ≡ Some (test_in (delete_test p.statement))
  pub equal : IsEqual column n (test_in (delete_test p.statement))

-- or by two
pub record SaysPair (name one_column two_column : List ℕ) (m n size : ℕ) (p : Parsed) : Type 0 where
  pub whole : p.tail ≡ size
  pub parameters : length p.names ≡ 2
  pub is : p.statement ≡ written.Delete (delete_target p.statement) (delete_test p.statement) []
  pub target : delete_target p.statement ≡ name
  pub timeless : p.formats ≡ []
  pub test : delete_test p.statement ≡ Some (test_in (delete_test p.statement))
  pub both : out-Expr (test_in (delete_test p.statement)) ≡ Expr-F.Binary binary.And (left (test_in (delete_test p.statement))) (right (test_in (delete_test p.statement)))
  pub one : IsEqual one_column m (left (test_in (delete_test p.statement)))
  pub two : IsEqual two_column n (right (test_in (delete_test p.statement)))
