-- A column by its name, in a query over one table, wherever the table stands.
use Rattle.std.proofs.Common.{◌≡◌, ℕ, suc, ◌-◌, nat_lt, List, [], ◌∷◌, Ok, refl, None, Some, true, Bool, slice_get}
use Rattle.sqlite_schema.specs.declared.schema.Schema.{Schema}
use Rattle.sqlite_schema.specs.declared.schema.Table.{Table}
use Rattle.sqlite_schema.specs.declared.schema.Column.{Column}
use Rattle.sqlite_schema.specs.Names.{column_named, place_of}
use Rattle.sqlite_sql.specs.Term.{col}
use Rattle.sqlite_ast.specs.declared.Expr.{Expr, out-Expr}
use Rattle.sqlite_ast.specs.declared.Expr.TheOpen.{Expr-F}
use Rattle.sqlite_resolve.specs.declared.scope.Output.{Output}
use Rattle.sqlite_resolve.specs.declared.scope.Found.TheVariants as found
use Rattle.sqlite_resolve.specs.declared.state.State.{State}
use Rattle.sqlite_resolve.specs.declared.state.Carried.{Carried}
use Rattle.sqlite_resolve.specs.Lowering.{spend, begin, finish}
use Rattle.sqlite_resolve.specs.Scope as scope
use Rattle.sqlite_resolve.specs.Scope.{Context}
use Rattle.sqlite_resolve.specs.Expr as expr
use Rattle.sqlite_resolve.specs.Body.{heading}
use Rattle.plan_tables_schema.proofs.WrittenQueries.{only_bound, with_budget}

module _ (schema : Schema) (table : Table) (at : ℕ) (got : slice_get schema.tables at ≡ Some table) (name : List ℕ) (shown : List Output) (may_aggregate may_alias : Bool)
    (column : List ℕ) (k : ℕ) (c : Column) (named : column_named table column ≡ Some k) (has : slice_get table.columns k ≡ Some c) where
  abbrev cx : Context
  cx = record { schema = schema; levels = record { tables = only_bound name at; shown = shown } ∷ []; may_aggregate = may_aggregate; may_alias = may_alias }

  pub found_column : scope.find cx None column ≡ Ok (found.Column 1 at k)
  unfolding scope.find scope.in_level scope.only scope.hit scope.column_in scope.is_among
  found_column = rw (got, named) refl

  pub reads_column : (s : State) → scope.column cx None column s ≡ Ok (col 1 (place_of table k), record s { last = scope.declared table k c })
  unfolding scope.column scope.term_of scope.column_at
  reads_column s = rw (found_column, got, has) refl

  pub lowers_column : (depth budget : ℕ) (last : Carried) (e : Expr) → out-Expr e ≡ Expr-F.Column None column → nat_lt 1 budget ≡ true
      → expr.lower_to (suc depth) cx e (with_budget budget last) ≡ Ok (col 1 (place_of table k), with_budget (budget - 1) (scope.declared table k c))
  unfolding expr.lower_to expr.node expr.opened expr.passes spend begin finish
  lowers_column depth budget last e is enough = rw (enough, is, reads_column) refl

  pub heads_column : (e : Expr) (text : List ℕ) → out-Expr e ≡ Expr-F.Column None column → heading cx e text ≡ c.name
  unfolding heading Rattle.sqlite_resolve.specs.Body.declared
  heads_column e text is = rw (is, found_column, got, has) refl
