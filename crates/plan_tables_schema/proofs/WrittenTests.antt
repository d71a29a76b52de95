-- WHERE of a key: a column equals a parameter.
use Rattle.std.specs.Prelude.{◌≡◌, ℕ, zero, suc, List, slice_get, Some, None, option_map, unwrap_or}
use Rattle.sqlite_value.specs.declared.keys.Collation.TheVariants.{Binary}
use Rattle.sqlite_schema.specs.declared.schema.Table.{Table}
use Rattle.sqlite_schema.specs.declared.schema.Column.{Column}
use Rattle.sqlite_schema.specs.Names.{column_named, place_of}
use Rattle.sqlite_ast.specs.declared.Binary.TheVariants as binary
use Rattle.sqlite_ast.specs.declared.Expr.{Expr, out-Expr}
use Rattle.sqlite_ast.specs.declared.Expr.TheOpen.{Expr-F}
use Rattle.sqlite_ast.specs.Layer.{Layer}
use Rattle.sqlite_sql.specs.Term.{Term, col, op2}
use Rattle.sqlite_sql.specs.declared.ops.BinaryOp.TheVariants.{Compare}
use Rattle.sqlite_sql.specs.declared.ops.CompareOp.TheVariants.{Eq}
use Rattle.sqlite_resolve.specs.declared.compare.Affinity.{Affinity}
use Rattle.sqlite_resolve.specs.declared.compare.Affinity.TheVariants as affinity
use Rattle.sqlite_resolve.specs.Compare.{of_declared, converted}
use Rattle.sqlite_resolve.specs.Lowering.{chosen, nothing}
use Rattle.sqlite_resolve.specs.Scope.{declared}

-- the affinity of a place of the table's rows
abbrev pub affinity_at : Table → ℕ → Affinity
affinity_at table zero = affinity.Numeric
affinity_at table (suc k) = unwrap_or (option_map of_declared (slice_get table.columns k)) affinity.None

-- the column is at this place of the rows, and is compared with a parameter as it stands
pub record IsCompared (table : Table) (column : List ℕ) (p : ℕ) : Type 0 where
  pub k : ℕ
  pub c : Column
  pub named : column_named table column ≡ Some k
  pub has : slice_get table.columns k ≡ Some c
  pub there : place_of table k ≡ p
  pub collated : chosen (declared table k c) nothing ≡ Binary
  pub kept : converted (affinity_at table p) affinity.None (col 1 p) ≡ col 1 p
  pub bare : (m : ℕ) → converted affinity.None (affinity_at table p) (col 0 m) ≡ col 0 m

abbrev pub left_at : Expr → Layer → Expr
left_at e (Expr-F.Binary op a b) = a
left_at e _ = e

abbrev pub right_at : Expr → Layer → Expr
right_at e (Expr-F.Binary op a b) = b
right_at e _ = e

abbrev pub left : Expr → Expr
left e = left_at e (out-Expr e)

abbrev pub right : Expr → Expr
right e = right_at e (out-Expr e)

-- it is written `column = ?n`
pub record IsEqual (column : List ℕ) (n : ℕ) (e : Expr) : Type 0 where
  pub is : out-Expr e ≡ Expr-F.Binary binary.Eq (left e) (right e)
  pub column_is : out-Expr (left e) ≡ Expr-F.Column None column
  pub parameter_is : out-Expr (right e) ≡ Expr-F.Parameter n

abbrev pub equals : ℕ → ℕ → Term
equals p m = op2 (Compare Eq Binary) (col 1 p) (col 0 m)
