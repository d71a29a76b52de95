-- A query of columns of one table, wherever the table stands.
use Rattle.std.proofs.Common.{◌≡◌, ℕ, suc, ◌-◌, ◌<◌, nat_lt, List, [], ◌∷◌, ◌++◌, length, map, Ok, Err, refl, Option, None, Some, false, true, slice_get, append-nil, arith, append_assoc}
use Rattle.std.proofs.lemmas.Bool.{lt-ltb}
use Rattle.sqlite_schema.specs.declared.schema.Schema.{Schema}
use Rattle.sqlite_schema.specs.declared.schema.Table.{Table}
use Rattle.sqlite_schema.specs.declared.schema.Column.{Column}
use Rattle.sqlite_schema.specs.Names.{table_named, column_named}
use Rattle.sqlite_sql.specs.Term.{Term}
use Rattle.sqlite_ast.specs.declared.Expr.{out-Expr, roll-Expr}
use Rattle.sqlite_ast.specs.declared.Expr.TheOpen.{Expr-F, Shown-F}
use Rattle.sqlite_ast.specs.declared.Shown.{out-Shown}
use Rattle.sqlite_ast.specs.declared.Source.{out-Source}
use Rattle.sqlite_ast.specs.declared.Core.{Core, out-Core}
use Rattle.sqlite_ast.specs.declared.Origin.TheVariants as origin
use Rattle.sqlite_draft.specs.declared.join.Step.TheVariants.{Inner}
use Rattle.sqlite_resolve.specs.declared.scope.Bound.{Bound}
use Rattle.sqlite_resolve.specs.declared.scope.Output.{Output}
use Rattle.sqlite_resolve.specs.declared.state.State.{State}
use Rattle.sqlite_resolve.specs.declared.state.Carried.{Carried}
use Rattle.sqlite_resolve.specs.Lowering.{Checked, fresh, take_slot, max_budget, nothing}
use Rattle.sqlite_resolve.specs.Scope as scope
use Rattle.sqlite_resolve.specs.Expr as expr
use Rattle.sqlite_resolve.specs.Expr.{lower}
use Rattle.sqlite_resolve.specs.Body as body
use Rattle.sqlite_resolve.specs.Select as select
use Rattle.sqlite_tied.specs.Compute.{everything}
use Rattle.plan_tables_schema.proofs.ColumnLemmas as columns
use Rattle.plan_tables_schema.proofs.WrittenQueries.{only_bound, with_budget, HasColumn, HasColumns, IfFound, shown_as, shown_column, source_table, outer_level, Yields}

pub found : {X : Type 0} (o : Option X) (P : X → Type 0) → IfFound o P → (x : X) × (o ≡ Some x) × P x
found (Some x) P h = (x, refl, h)
found None P h = absurd h

pub yielded : {A : Type 0} (r : Checked A) (P : A → Type 0) → Yields r P → (a : A) × (r ≡ Ok a) × P a
yielded (Ok a) P h = (a, refl, h)
yielded (Err e) P h = absurd h

-- what is rolled up opens again
pub opens_source : (name : List ℕ) → out-Source (source_table name) ≡ record { is_left = false; origin = origin.Table name; alias = None; on = None; using = [] }
unfolding everything
opens_source name = refl

pub opens_shown : (n : List ℕ) → out-Shown (shown_column n) ≡ Shown-F.One (roll-Expr (Expr-F.Column None n)) None n
unfolding everything
opens_shown n = refl

pub opens_column : (n : List ℕ) → out-Expr (roll-Expr (Expr-F.Column None n)) ≡ Expr-F.Column None n
unfolding everything
opens_column n = refl

module _ (schema : Schema) (table : Table) (at : ℕ) (got : slice_get schema.tables at ≡ Some table) where
  abbrev name : List ℕ
  name = table.name

  abbrev bound : List Bound
  bound = only_bound name at

  pub binds_table : table_named schema name ≡ Some at → body.bounds schema (source_table name ∷ []) (fresh 1 max_budget) ≡ Ok (bound, with_budget max_budget nothing)
  unfolding body.bounds body.bound body.table_in take_slot
  binds_table named = rw (opens_source, named) refl

  abbrev cx : scope.Context
  cx = outer_level schema (record { tables = bound; shown = [] }) true

  shows_found : (depth budget : ℕ) (last : Carried) (done : List Output) (n : List ℕ) (k : ℕ) (c : Column) → column_named table n ≡ Some k → slice_get table.columns k ≡ Some c → nat_lt 1 budget ≡ true
      → body.shown (expr.lower_to (suc depth)) cx bound done (shown_column n) (with_budget budget last) ≡ Ok (done ++ shown_as table n ∷ [], with_budget (budget - 1) (scope.declared table k c))
  unfolding body.shown body.is_column
  shows_found depth budget last done n k c named has enough =
      let lowered = columns.lowers_column schema table at got name [] true true n k c named has depth budget last _ (opens_column n) enough in
      let head = columns.heads_column schema table at got name [] true true n k c named has _ n (opens_column n) in
      rw (opens_shown, opens_column, lowered, head, named, has) refl

  shows_one : (depth budget : ℕ) (last : Carried) (done : List Output) (n : List ℕ) → HasColumn table n → nat_lt 1 budget ≡ true
      → (next : Carried) × (body.shown (expr.lower_to (suc depth)) cx bound done (shown_column n) (with_budget budget last) ≡ Ok (done ++ shown_as table n ∷ [], with_budget (budget - 1) next))
  shows_one depth budget last done n has enough =
      let k = found (column_named table n) _ has in
      let c = found (slice_get table.columns k.0) _ k.2 in
      (scope.declared table k.0 c.0, shows_found depth budget last done n k.0 c.0 k.1 c.1 enough)

  pub shows_all : (depth : ℕ) (ns : List (List ℕ)) → HasColumns table ns → (budget : ℕ) (last : Carried) (done : List Output) → length ns < budget
      → (next : Carried) × (body.outputs_from (expr.lower_to (suc depth)) cx bound done (map shown_column ns) (with_budget budget last) ≡ Ok (done ++ map (shown_as table) ns, with_budget (budget - length ns) next))
  shows_all depth [] has budget last done few = (last, let e : budget - 0 ≡ budget = omega arith in rw (append-nil, e) refl)
  shows_all depth (n ∷ ns) has budget last done few =
      let one = shows_one depth budget last done n has.0 (lt-ltb 1 budget (omega (arith, few))) in
      let all = shows_all depth ns has.1 (budget - 1) one.0 (done ++ shown_as table n ∷ []) (omega (arith, few)) in
      let left : budget - 1 - length ns ≡ budget - suc (length ns) = omega arith in
      (all.0, rw (one.1, all.1, left, append_assoc) refl)

  -- FROM and the columns of the result, and then WHERE
  pub reads_body : (core : Core) (ns : List (List ℕ)) (tests : List Term) → table_named schema name ≡ Some at → HasColumns table ns → length ns < max_budget
      → (out-Core core).shown ≡ map shown_column ns → (out-Core core).from ≡ source_table name ∷ []
      → (next : Carried) × ((t : State) → body.tests lower (outer_level schema (record { tables = bound; shown = map (shown_as table) ns }) false) [] (out-Core core).filter (with_budget (max_budget - length ns) next) ≡ Ok (tests, t)
      → body.body lower (select.outermost schema) core (fresh 1 max_budget) ≡ Ok (record { level = record { tables = bound; shown = map (shown_as table) ns }; steps = Inner table.tree ∷ []; filter = tests }, t))
  unfolding body.body body.result body.outputs body.matching body.joins body.join body.shared body.inner_join body.tests
  reads_body core ns tests named has few shown from =
      let all = shows_all 699 ns has max_budget nothing [] few in
      (all.0, λ t filtered. rw (from, binds_table named, shown, all.1, opens_source, got, filtered) refl)
