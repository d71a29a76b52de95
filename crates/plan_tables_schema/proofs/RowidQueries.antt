-- `SELECT rowid FROM table` wherever the table stands.
use Rattle.std.proofs.Common.{◌≡◌, ℕ, suc, ◌-◌, ◌^◌, nat_lt, List, [], ◌∷◌, length, Ok, refl, None, Some, true, slice_get, lt-ltb}
use Rattle.std.proofs.lemmas.Bool.{leb-false}
use Rattle.sqlite_schema.specs.declared.schema.Schema.{Schema}
use Rattle.sqlite_schema.specs.declared.schema.Table.{Table}
use Rattle.sqlite_schema.specs.Names.{column_named}
use Rattle.sqlite_sql.specs.Term.{col}
use Rattle.sqlite_ast.specs.declared.Expr.{Expr, out-Expr}
use Rattle.sqlite_ast.specs.declared.Expr.TheOpen.{Expr-F}
use Rattle.sqlite_resolve.specs.declared.scope.Found.TheVariants as found
use Rattle.sqlite_resolve.specs.declared.state.State.{State}
use Rattle.sqlite_resolve.specs.declared.state.Carried.{Carried}
use Rattle.sqlite_resolve.specs.Lowering.{spend, begin, finish, max_budget, nothing}
use Rattle.sqlite_resolve.specs.Scope as scope
use Rattle.sqlite_resolve.specs.Expr as expr
use Rattle.sqlite_resolve.specs.Body as body
use Rattle.sqlite_resolve.specs.Compile.{first}
use Rattle.sqlite_typing.specs.Types.{are_typed, row_classes}
use Rattle.plan_tables_schema.proofs.ColumnsLemmas as lemmas
use Rattle.plan_tables_schema.proofs.QueryMeanings.{ShowsRows, text_shows}
use Rattle.plan_tables_schema.specs.Places.{TableIsAt}
use Rattle.plan_tables_schema.proofs.Written.{IfRead}
use Rattle.plan_tables_schema.proofs.WrittenQueries.{only_bound, with_budget, outer_level, shown_column, IsBareText, rowid_head, rowid_output}

module _ (schema : Schema) (table : Table) (at : ℕ) (got : slice_get schema.tables at ≡ Some table) (stored : nat_lt table.tree (2 ^ 31) ≡ true)
    (n : List ℕ) (is : scope.is_rowid n ≡ true) (named : column_named table n ≡ None) where
  abbrev cx : scope.Context
  cx = outer_level schema (record { tables = only_bound table.name at; shown = [] }) true

  found_rowid : scope.find cx None n ≡ Ok (found.Rowid 1 at)
  unfolding scope.find scope.in_level scope.only scope.hit scope.column_in scope.rowid_in scope.is_among
  found_rowid = rw (got, named, is, stored) refl

  reads_rowid : (s : State) → scope.column cx None n s ≡ Ok (col 1 0, record s { last = nothing })
  unfolding scope.column scope.term_of
  reads_rowid s = rw found_rowid refl

  lowers_rowid : (depth budget : ℕ) (last : Carried) (e : Expr) → out-Expr e ≡ Expr-F.Column None n → nat_lt 1 budget ≡ true
      → expr.lower_to (suc depth) cx e (with_budget budget last) ≡ Ok (col 1 0, with_budget (budget - 1) nothing)
  unfolding expr.lower_to expr.node expr.opened expr.passes spend begin finish
  lowers_rowid depth budget last e written enough = rw (enough, written, reads_rowid) refl

  heads_rowid : (e : Expr) (text : List ℕ) → out-Expr e ≡ Expr-F.Column None n → body.heading cx e text ≡ rowid_head table
  unfolding body.heading body.declared
  heads_rowid e text written = rw (written, found_rowid, got) refl

  shows_rowid : (depth budget : ℕ) (last : Carried) → nat_lt 1 budget ≡ true
      → body.outputs_from (expr.lower_to (suc depth)) cx (only_bound table.name at) [] (shown_column n ∷ []) (with_budget budget last) ≡ Ok (rowid_output table ∷ [], with_budget (budget - 1) nothing)
  unfolding body.shown body.is_column
  shows_rowid depth budget last enough =
      let lowered = lowers_rowid depth budget last _ (lemmas.opens_column n) enough in
      let head = heads_rowid _ n (lemmas.opens_column n) in
      rw (lemmas.opens_shown, lemmas.opens_column, lowered, head) refl

module _ (schema : Schema) (table : Table) (at : ℕ) (it : TableIsAt schema table at) (sql n : List ℕ) (is : scope.is_rowid n ≡ true) (named : column_named table n ≡ None)
    (text : IfRead (first sql) (IsBareText (length sql) table.name (shown_column n ∷ []))) (typed : are_typed [] (row_classes table ∷ []) (col 1 0 ∷ []) ≡ true) where
  pub rowid_shows : ShowsRows schema sql table.tree (col 1 0 ∷ []) (rowid_head table ∷ [])
  rowid_shows =
      text_shows schema table at it sql (shown_column n ∷ []) (rowid_output table ∷ []) (max_budget - 1) nothing
      (shows_rowid schema table at it.got (lt-ltb table.tree (2 ^ 31) (leb-false (2 ^ 31) table.tree it.stored)) n is named 699 max_budget nothing refl) typed text
