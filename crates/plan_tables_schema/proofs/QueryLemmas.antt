-- A query of columns of one table, from its parts to its command, wherever the table stands.
use Rattle.std.proofs.Common.{◌≡◌, ℕ, suc, List, [], ◌∷◌, map, Ok, refl, false, true}
use Rattle.sqlite_schema.specs.declared.schema.Schema.{Schema}
use Rattle.sqlite_schema.specs.declared.schema.Table.{Table}
use Rattle.sqlite_schema.specs.declared.program.Table.{Table as Let}
use Rattle.sqlite_schema.specs.declared.command.Command.TheVariants as command
use Rattle.sqlite_ast.specs.declared.Core.{Core}
use Rattle.sqlite_ast.specs.declared.Select.{Select, out-Select}
use Rattle.sqlite_ast.specs.declared.Shown.{Shown}
use Rattle.sqlite_draft.specs.declared.join.Step.TheVariants.{Inner}
use Rattle.sqlite_draft.specs.Query.{query_of}
use Rattle.sqlite_resolve.specs.declared.scope.Bound.{Bound}
use Rattle.sqlite_resolve.specs.declared.scope.Output.{Output}
use Rattle.sqlite_resolve.specs.declared.body.Body.{Body}
use Rattle.sqlite_resolve.specs.declared.state.Carried.{Carried}
use Rattle.sqlite_resolve.specs.Lowering.{fresh, max_budget}
use Rattle.sqlite_resolve.specs.Expr.{lower}
use Rattle.sqlite_resolve.specs.Body as body
use Rattle.sqlite_resolve.specs.Select as select
use Rattle.sqlite_resolve.specs.Order as order
use Rattle.sqlite_resolve.specs.Program as program
use Rattle.sqlite_resolve.specs.Compile as compile
use Rattle.sqlite_typing.specs.Types.{accepts_program}
use Rattle.plan_tables_schema.proofs.ColumnsLemmas as lemmas
use Rattle.plan_tables_schema.specs.Places.{TableIsAt}
use Rattle.plan_tables_schema.proofs.WrittenQueries.{only_bound, with_budget, source_table, IsBareSelect, Lowered, all_rows, draft_of}

module _ (schema : Schema) (table : Table) (at : ℕ) (it : TableIsAt schema table at) (s : Select) (shown : List Shown) (outs : List Output) (budget : ℕ) (next : Carried)
    (is : IsBareSelect s table.name shown) (lowered : Lowered schema table at shown outs budget next) where
  abbrev core : Core
  core = (out-Select s).first

  abbrev bound : List Bound
  bound = only_bound table.name at

  abbrev whole : Body
  whole = record { level = record { tables = bound; shown = outs }; steps = Inner table.tree ∷ []; filter = [] }

  -- FROM and the columns
  body_is : body.body lower (select.outermost schema) core (fresh 1 max_budget) ≡ Ok (whole, with_budget budget next)
  unfolding body.body body.result body.outputs body.matching body.joins body.join body.shared body.inner_join body.tests
  body_is = rw (is.from, lemmas.binds_table schema table at it.got it.named, is.shows, lowered, lemmas.opens_source, it.got, is.filter) refl

  -- no GROUP BY, HAVING, ORDER BY
  parts_are : select.parts schema core [] (fresh 1 max_budget) ≡ Ok (record { body = whole; is_grouped = false; keys = []; collations = []; having = []; order = [] }, with_budget budget next)
  unfolding select.parts select.having order.keys order.sorts body.tests
  parts_are = rw (body_is, is.group, is.having) refl

  named_is : select.named schema core [] all_rows ≡ Ok (draft_of table.tree outs, map (λ o. o.name) outs, map (λ o. o.carried.collation) outs)
  unfolding select.named select.assembled select.ungrouped
  named_is = rw (parts_are, is.repeats) refl

  pages : select.paging schema s ≡ Ok all_rows
  unfolding select.paging select.constant_or
  pages = rw (is.limit, is.offset) refl

  abbrev shows : program.Shown
  shows = (draft_of table.tree outs, map (λ o. o.name) outs, map (λ o. o.carried.collation) outs)

  viewing_is : (again : Schema → Select → program.Building program.Shown) (n : ℕ) (lets : List Let) → program.viewing again schema core [] all_rows (suc n) schema lets ≡ Ok ((shows, schema), lets)
  unfolding program.viewing
  viewing_is again n lets = rw named_is refl

  sources_are : (again : Schema → Select → program.Building program.Shown) (lets : List Let) → program.sources again schema (source_table table.name ∷ []) lets ≡ Ok (schema, lets)
  unfolding program.sources program.source
  sources_are again lets = rw lemmas.opens_source refl

  single_is : (again : Schema → Select → program.Building program.Shown) (lets : List Let) → program.single again schema core [] all_rows lets ≡ Ok ((shows, schema), lets)
  unfolding program.single
  single_is again lets = rw (is.from, sources_are again lets, viewing_is again 63 lets) refl

  whole_is : (again : Schema → Select → program.Building program.Shown) (lets : List Let) → program.whole again schema s lets ≡ Ok (shows, lets)
  unfolding program.whole program.alone
  whole_is again lets = rw (pages, is.alone, is.order, single_is again lets) refl

  level_is : (again : Schema → Select → program.Building program.Shown) (lets : List Let) → program.level again schema s lets ≡ Ok (shows, lets)
  unfolding program.level program.with
  level_is again lets = rw (is.lets, whole_is again lets) refl

  query_is : program.query schema s ≡ Ok (shows, [])
  unfolding program.query program.query_to
  query_is = level_is (program.query_to 15) []

  pub reads : accepts_program schema [] (query_of (draft_of table.tree outs)) [] ≡ true
      → compile.read schema s ≡ Ok (command.Select (record { lets = []; body = query_of (draft_of table.tree outs) }) (map (λ o. o.name) outs))
  unfolding compile.read program.program
  reads typed = rw (query_is, typed) refl
