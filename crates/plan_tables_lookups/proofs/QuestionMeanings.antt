-- A question to one table, from its parts to its command, wherever the table stands.
use Rattle.std.proofs.Common.{◌≡◌, ℕ, ◌+◌, ◌-◌, ◌<◌, List, [], ◌∷◌, length, map, Ok, refl, ap, false, true, Bool}
use Rattle.std.proofs.Common.{arith, None}
use Rattle.std.specs.List.{AllByRecursion}
use Rattle.sqlite_schema.specs.declared.schema.Schema.{Schema}
use Rattle.sqlite_schema.specs.declared.schema.Table.{Table}
use Rattle.sqlite_schema.specs.declared.command.Command.TheVariants as command
use Rattle.sqlite_ast.specs.declared.Core.{Core, out-Core}
use Rattle.sqlite_ast.specs.declared.Select.{Select, out-Select}
use Rattle.sqlite_draft.specs.declared.join.Step.TheVariants.{Inner}
use Rattle.sqlite_draft.specs.declared.query.Draft.{Draft}
use Rattle.sqlite_draft.specs.Query.{query_of}
use Rattle.sqlite_sql.specs.Term.{Term}
use Rattle.sqlite_value.specs.declared.keys.Key.{Key}
use Rattle.sqlite_resolve.specs.declared.scope.Level.{Level}
use Rattle.sqlite_resolve.specs.declared.scope.Output.{Output}
use Rattle.sqlite_resolve.specs.declared.body.Body.{Body}
use Rattle.sqlite_resolve.specs.declared.select.Clauses.{Clauses}
use Rattle.sqlite_resolve.specs.declared.state.Carried.{Carried}
use Rattle.sqlite_resolve.specs.Lowering.{fresh, max_budget}
use Rattle.sqlite_resolve.specs.Expr.{lower}
use Rattle.sqlite_resolve.specs.Body as body
use Rattle.sqlite_resolve.specs.Select as select
use Rattle.sqlite_resolve.specs.Order as order
use Rattle.sqlite_resolve.specs.Program as program
use Rattle.sqlite_resolve.specs.Compile as compile
use Rattle.sqlite_resolve.specs.Terms.{number}
use Rattle.sqlite_typing.specs.Types.{accepts_program}
use Rattle.plan_tables_lookups.specs.Question.{By, Test}
use Rattle.plan_tables_lookups.proofs.ReadMeanings as read
use Rattle.plan_tables_lookups.proofs.SortMeanings.{IsPlaced, limit_term, limits, sort_term, sorts}
use Rattle.plan_tables_lookups.proofs.TestMeanings.{IsTested, compared, filters}
use Rattle.plan_tables_lookups.proofs.WrittenQuestions.{IsWritten}
use Rattle.plan_tables_schema.proofs.ColumnsLemmas as lemmas
use Rattle.plan_tables_schema.proofs.WrittenQueries.{HasColumns, only_bound, outer_level, plain_draft, shown_as}
use Rattle.plan_tables_schema.proofs.WrittenQueries.{shown_column, shown_column, source_table, with_budget}
use Rattle.plan_tables_schema.specs.Places.{TableIsAt}

abbrev pub test_term : (Test → ℕ) → Test → Term
test_term places t = compared t.how (places t) t.side

-- the columns, tests and orders are those of the table
pub record IsAbout (table : Table) (ns : List (List ℕ)) (ts : List Test) (bs : List By) (tested : Test → ℕ)
    (placed : By → ℕ) : Type 0 where
  pub has : HasColumns table ns
  pub few : length ns < 1000
  pub tests : AllByRecursion (λ t. IsTested table t (tested t)) ts
  pub order : AllByRecursion (λ b. IsPlaced table (map (shown_as table) ns) b (placed b)) bs
  pub short : length bs < 1000

module _ (schema : Schema) (table : Table) (at : ℕ) (it : TableIsAt schema table at) (s : Select)
    (ns : List (List ℕ)) (ts : List Test) (bs : List By) (is_one : Bool)
    (tested : Test → ℕ) (placed : By → ℕ) (of : IsAbout table ns ts bs tested placed)
    (is : IsWritten s table.name ns ts bs is_one) where
  abbrev core : Core
  core = (out-Select s).first

  abbrev outs : List Output
  outs = map (shown_as table) ns

  abbrev level : Level
  level = record { tables = only_bound table.name at; shown = outs }

  abbrev whole : Body
  whole = record { level = level; steps = Inner table.tree ∷ []; filter = map (test_term tested) ts }

  -- without GROUP BY and HAVING
  abbrev clauses : List (Term × Key) → Clauses
  clauses terms = record {
    body = whole;
    is_grouped = false;
    keys = [];
    collations = [];
    having = [];
    order = terms;
  }

  abbrev page : Term × Term
  page = (limit_term is_one, number 0)

  abbrev draft : Draft
  draft = plain_draft table.tree (map (test_term tested) ts) (map (λ o. o.term) outs) (map (sort_term placed) bs) page

  abbrev shows : program.Shown
  shows = (draft, map (λ o. o.name) outs, map (λ o. o.carried.collation) outs)

  shown_is : (out-Core core).shown ≡ map shown_column ns
  shown_is = ap (λ x. x.shown) is.core

  from_is : (out-Core core).from ≡ source_table table.name ∷ []
  from_is = ap (λ x. x.from) is.core

  group_is : (out-Core core).group ≡ []
  group_is = ap (λ x. x.group) is.core

  having_is : (out-Core core).having ≡ None
  having_is = ap (λ x. x.having) is.core

  repeats_is : (out-Core core).distinct ≡ false
  repeats_is = ap (λ x. x.distinct) is.core

  offset_is : (out-Select s).offset ≡ None
  offset_is = ap (λ x. x.offset) is.whole

  -- FROM, the columns and WHERE
  body_is : (budget : ℕ) × (next : Carried) × (max_budget < budget + length ns + 8)
      × (body.body lower (select.outermost schema) core (fresh 1 max_budget) ≡ Ok (whole, with_budget budget next))
  body_is =
      let few : length ns < max_budget = omega (arith, of.few) in
      let reads = lemmas.reads_body schema table at it.got core ns
      (map (test_term tested) ts) it.named of.has few shown_is from_is in
      let filter = filters schema table at it.got outs ts tested of.tests (out-Core core).filter is.filter
      (max_budget - length ns) reads.0 (omega (arith, of.few)) in
      (filter.0, filter.1, omega (arith, filter.2, of.few), reads.1 (with_budget filter.0 filter.1) filter.3)

  parts_by : (budget less : ℕ) (next then : Carried) (terms : List (Term × Key))
      → body.body lower (select.outermost schema) core (fresh 1 max_budget) ≡ Ok (whole, with_budget budget next)
      → order.sorts lower (outer_level schema level false) outs (out-Select s).order (with_budget budget next)
      ≡ Ok (terms, with_budget less then)
      → select.parts schema core (out-Select s).order (fresh 1 max_budget) ≡ Ok (clauses terms, with_budget less then)
  unfolding select.parts select.having order.keys body.tests
  parts_by budget less next then terms made sorted = rw (made, group_is, having_is, sorted) refl

  named_by : (less : ℕ) (then : Carried) → select.parts schema core (out-Select s).order (fresh 1 max_budget)
      ≡ Ok (clauses (map (sort_term placed) bs), with_budget less then)
      → select.named schema core (out-Select s).order page ≡ Ok shows
  unfolding select.named select.assembled select.ungrouped
  named_by less then parts = rw (parts, repeats_is) refl

  named_is : select.named schema core (out-Select s).order page ≡ Ok shows
  named_is =
      let made = body_is in
      let sorted = sorts schema table at it.got outs placed bs (out-Select s).order is.order of.order made.0 made.1
      (omega (arith, made.2, of.few, of.short)) in
      named_by _ _ (parts_by made.0 _ made.1 sorted.0 (map (sort_term placed) bs) made.3 sorted.1)

  pages : select.paging schema s ≡ Ok page
  unfolding select.paging select.constant_or
  pages = rw (limits schema is_one (out-Select s).limit is.limit, offset_is) refl

  pub reads : accepts_program schema [] (query_of draft) [] ≡ true
      → compile.read schema s ≡ Ok (command.Select (record { lets = []; body = query_of draft })
      (map (λ o. o.name) outs))
  reads = read.reads schema s table.name page draft (map (λ o. o.name) outs) (map (λ o. o.carried.collation) outs)
      (ap (λ x. x.«with») is.whole) (ap (λ x. x.others) is.whole) from_is pages named_is
