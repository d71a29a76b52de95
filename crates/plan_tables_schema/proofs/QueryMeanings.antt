-- What the text of a query means, once its command is known.
use Rattle.std.proofs.Common.{◌≡◌, ℕ, List, [], ◌∷◌, length, map, Ok, refl, None, sym, ap, subst, false, true}
use Rattle.sqlite_schema.specs.declared.schema.Schema.{Schema}
use Rattle.sqlite_schema.specs.declared.schema.Table.{Table}
use Rattle.sqlite_schema.specs.declared.command.Command.{Command}
use Rattle.sqlite_schema.specs.declared.command.Command.TheVariants as command
use Rattle.sqlite_ast.specs.declared.Select.{Select, out-Select}
use Rattle.sqlite_ast.specs.declared.Core.{out-Core}
use Rattle.sqlite_ast.specs.declared.Shown.{Shown}
use Rattle.sqlite_ast.specs.declared.Statement.TheVariants as written
use Rattle.sqlite_sql.specs.Term.{Term}
use Rattle.sqlite_syntax.specs.declared.statement.Parsed.{Parsed}
use Rattle.sqlite_resolve.specs.declared.scope.Output.{Output}
use Rattle.sqlite_resolve.specs.declared.state.Carried.{Carried}
use Rattle.sqlite_resolve.specs.declared.compiled.Compiled.{Compiled}
use Rattle.sqlite_resolve.specs.Compile as compile
use Rattle.sqlite_typing.specs.Types.{accepts_program, are_typed, row_classes}
use Rattle.sqlite.specs.Listing.{understood, reads_listing}
use Rattle.sqlite.proofs.Callers.{IsPlain, command_of}
use Rattle.plan_tables_schema.proofs.Steps.{plain_query}
use Rattle.plan_tables_schema.proofs.MeaningLemmas.{IsWhole}
use Rattle.plan_tables_schema.proofs.ColumnsLemmas.{yielded}
use Rattle.plan_tables_schema.proofs.QueryLemmas as query
use Rattle.plan_tables_schema.specs.Places.{TableIsAt}
use Rattle.plan_tables_schema.proofs.Written.{IfRead}
use Rattle.plan_tables_schema.proofs.WrittenQueries.{select_of, source_table, IsBareSelect, IsBareText, Lowered}

-- all that is asked of the text of a query over one table
pub record ShowsRows (schema : Schema) (sql : List ℕ) (tree : ℕ) (terms : List Term) (names : List (List ℕ)) : Type 0 where
  pub means : command_of (understood schema sql) ≡ command.Select (record { lets = []; body = plain_query tree [] terms }) names
  pub unlisted : reads_listing schema sql ≡ false
  pub plain : IsPlain (understood schema sql)
  pub whole : IsWhole (understood schema sql) (length sql) 0
  pub typed : accepts_program schema [] (plain_query tree [] terms) [] ≡ true

pub types_fit : (schema : Schema) (table : Table) (at : ℕ) (terms : List Term) → TableIsAt schema table at → are_typed [] (row_classes table ∷ []) terms ≡ true
    → accepts_program schema [] (plain_query table.tree [] terms) [] ≡ true
types_fit schema table at terms it typed = rw (it.stored, it.found, typed) refl

plans : (schema : Schema) (p : Parsed) (s : Select) (c : Command) → p.statement ≡ written.Select s → p.formats ≡ [] → compile.read schema s ≡ Ok c
    → compile.planned schema p ≡ Ok ([], (c, None))
unfolding compile.planned compile.timed compile.meaning compile.returning compile.command
plans schema p s c is timeless reads = rw (is, timeless, reads) refl

pub compiles : (schema : Schema) (sql : List ℕ) (p : Parsed) (c : Command) → compile.first sql ≡ Ok p → compile.planned schema p ≡ Ok ([], (c, None))
    → compile.compiled schema sql ≡ Ok (compile.with_command p ([], (c, None)))
unfolding compile.compiled
compiles schema sql p c read planned = rw (read, planned) refl

pub understands : (schema : Schema) (sql : List ℕ) (k : Compiled) → compile.compiled schema sql ≡ Ok k → (understood schema sql ≡ Ok k) × (reads_listing schema sql ≡ false)
unfolding understood
understands schema sql k is = (rw is refl, rw is refl)

bare_select : (s : Select) (name : List ℕ) (shown : List Shown)
    → out-Select s ≡ record { «with» = []; first = (out-Select s).first; others = []; order = []; limit = None; offset = None }
    → out-Core (out-Select s).first ≡ record { distinct = false; shown = shown; from = source_table name ∷ []; filter = None; group = []; having = None }
    → IsBareSelect s name shown
bare_select s name shown whole core = record {
  lets = ap (λ x. x.«with») whole;
  alone = ap (λ x. x.others) whole;
  order = ap (λ x. x.order) whole;
  limit = ap (λ x. x.limit) whole;
  offset = ap (λ x. x.offset) whole;
  repeats = ap (λ x. x.distinct) core;
  shows = ap (λ x. x.shown) core;
  from = ap (λ x. x.from) core;
  filter = ap (λ x. x.filter) core;
  group = ap (λ x. x.group) core;
  having = ap (λ x. x.having) core;
}

module _ (schema : Schema) (table : Table) (at : ℕ) (it : TableIsAt schema table at) (sql : List ℕ) (shown : List Shown) (outs : List Output) (budget : ℕ) (next : Carried)
    (lowered : Lowered schema table at shown outs budget next) (typed : are_typed [] (row_classes table ∷ []) (map (λ o. o.term) outs) ≡ true) where
  pub text_shows : IfRead (compile.first sql) (IsBareText (length sql) table.name shown) → ShowsRows schema sql table.tree (map (λ o. o.term) outs) (map (λ o. o.name) outs)
  text_shows text =
      let read = yielded (compile.first sql) _ text in
      let p = read.0 in
      let text_is = read.2 in
      let bare = bare_select (select_of p.statement) table.name shown text_is.4 text_is.5 in
      let fits = types_fit schema table at (map (λ o. o.term) outs) it typed in
      let reads = query.reads schema table at it (select_of p.statement) shown outs budget next bare lowered fits in
      let known = understands schema sql _ (compiles schema sql p _ read.1 (plans schema p _ _ text_is.0 text_is.1 reads)) in
      record {
        means = ap command_of known.0;
        unlisted = known.1;
        plain = subst IsPlain (sym known.0) (refl, refl);
        whole = subst (λ r. IsWhole r (length sql) 0) (sym known.0) (text_is.2, text_is.3);
        typed = fits;
      }
