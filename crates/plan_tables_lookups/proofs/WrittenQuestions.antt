-- What the text of a question says, as it is written.
use Rattle.std.specs.Prelude.{◌≡◌, ℕ, ◌+◌, Bool, true, false, List, [], ◌∷◌, length, map, Option, Some, None, codes}
use Rattle.sqlite_ast.specs.declared.Binary.{Binary}
use Rattle.sqlite_ast.specs.declared.Binary.TheVariants as binary
use Rattle.sqlite_ast.specs.declared.Core.{out-Core}
use Rattle.sqlite_ast.specs.declared.Expr.{Expr, out-Expr}
use Rattle.sqlite_ast.specs.declared.Expr.TheOpen.{Expr-F}
use Rattle.sqlite_ast.specs.declared.Select.{Select, out-Select}
use Rattle.sqlite_ast.specs.declared.Sort.{Sort, out-Sort}
use Rattle.sqlite_ast.specs.declared.Statement.TheVariants as written
use Rattle.sqlite_sql.specs.declared.ops.CompareOp.{CompareOp}
use Rattle.sqlite_sql.specs.declared.ops.CompareOp.TheVariants.{Eq, Ne, Lt, Le, Gt, Ge}
use Rattle.sqlite_syntax.specs.declared.statement.Parsed.{Parsed}
use Rattle.plan_tables_lookups.specs.Question.{By, Question, Side, Test}
use Rattle.plan_tables_lookups.specs.Question.Side.{Given, Letters}
use Rattle.plan_tables_schema.specs.Cells.{column_names}
use Rattle.plan_tables_schema.specs.Schema.{name}
use Rattle.plan_tables_schema.proofs.Written.{test_in}
use Rattle.plan_tables_schema.proofs.WrittenQueries.{select_of, shown_column, source_table}
use Rattle.plan_tables_schema.proofs.WrittenTests.{left, right}

abbrev pub written_how : CompareOp → Binary
written_how Eq = binary.Eq
written_how Ne = binary.Ne
written_how Lt = binary.Lt
written_how Le = binary.Le
written_how Gt = binary.Gt
written_how Ge = binary.Ge

abbrev pub IsSide : Side → Expr → Type 0
IsSide (Given n) e = out-Expr e ≡ Expr-F.Parameter (n + 1)
IsSide (Letters s) e = out-Expr e ≡ Expr-F.Text s

-- it is written as the test
abbrev pub IsTest : Test → Expr → Type 0
IsTest t e = (out-Expr e ≡ Expr-F.Binary (written_how t.how) (left e) (right e))
    × (out-Expr (left e) ≡ Expr-F.Column None t.column) × IsSide t.side (right e)

-- WHERE of no test, of one, or of two
abbrev pub AreTests : List Test → Option Expr → Type 0
AreTests [] o = o ≡ None
AreTests (t ∷ []) o = (o ≡ Some (test_in o)) × IsTest t (test_in o)
AreTests (t ∷ u ∷ []) o = (o ≡ Some (test_in o))
    × (out-Expr (test_in o) ≡ Expr-F.Binary binary.And (left (test_in o)) (right (test_in o)))
    × IsTest t (left (test_in o)) × IsTest u (right (test_in o))
AreTests _ o = ⊥

-- it is written as the order
abbrev pub IsSort : By → Sort → Type 0
IsSort b s = (out-Expr (out-Sort s).key ≡ Expr-F.Column None b.column) × ((out-Sort s).descending ≡ b.falls)
    × ((out-Sort s).nulls_first ≡ None)

abbrev pub AreSorts : List By → List Sort → Type 0
AreSorts [] ss = ss ≡ []
AreSorts (b ∷ bs) [] = ⊥
AreSorts (b ∷ bs) (s ∷ ss) = IsSort b s × AreSorts bs ss

-- LIMIT 1, or none
abbrev pub IsLimit : Bool → Option Expr → Type 0
IsLimit true o = (o ≡ Some (test_in o)) × (out-Expr (test_in o) ≡ Expr-F.Integer (codes "1"))
IsLimit false o = o ≡ None

-- it is written with these columns of the table of the name, tests, orders and limit, and nothing else
pub record IsWritten (s : Select) (name : List ℕ) (columns : List (List ℕ)) (ts : List Test) (bs : List By)
    (is_one : Bool) : Type 0 where
  pub whole : out-Select s ≡ record {
    «with» = [];
    first = (out-Select s).first;
    others = [];
    order = (out-Select s).order;
    limit = (out-Select s).limit;
    offset = None;
  }
  pub core : out-Core (out-Select s).first ≡ record {
    distinct = false;
    shown = map shown_column columns;
    from = source_table name ∷ [];
    filter = (out-Core (out-Select s).first).filter;
    group = [];
    having = None;
  }
  pub filter : AreTests ts (out-Core (out-Select s).first).filter
  pub order : AreSorts bs (out-Select s).order
  pub limit : IsLimit is_one (out-Select s).limit

-- the text asks the question to its end, with so many parameters
pub record Says (q : Question) (given size : ℕ) (p : Parsed) : Type 0 where
  pub text : (p.tail ≡ size) × (length p.names ≡ given) × (p.formats ≡ [])
  pub is : p.statement ≡ written.Select (select_of p.statement)
  pub asks : IsWritten (select_of p.statement) (name q.table) (column_names q.table) q.tests q.order q.is_one
