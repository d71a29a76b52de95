-- A query over one table is read as its one SELECT.
use Rattle.std.proofs.Common.{◌≡◌, ℕ, suc, List, [], ◌∷◌, Ok, refl, Option, true}
use Rattle.sqlite_ast.specs.declared.Core.{Core, out-Core}
use Rattle.sqlite_ast.specs.declared.Select.{Select, out-Select}
use Rattle.sqlite_draft.specs.declared.query.Draft.{Draft}
use Rattle.sqlite_draft.specs.Query.{query_of}
use Rattle.sqlite_resolve.specs.Compile as compile
use Rattle.sqlite_resolve.specs.Program as program
use Rattle.sqlite_resolve.specs.Select as select
use Rattle.sqlite_schema.specs.declared.command.Command.TheVariants as command
use Rattle.sqlite_schema.specs.declared.program.Table.{Table as Let}
use Rattle.sqlite_schema.specs.declared.schema.Schema.{Schema}
use Rattle.sqlite_sql.specs.Term.{Term}
use Rattle.sqlite_typing.specs.Types.{accepts_program}
use Rattle.sqlite_value.specs.declared.keys.Collation.{Collation}
use Rattle.plan_tables_schema.proofs.ColumnsLemmas as lemmas
use Rattle.plan_tables_schema.proofs.WrittenQueries.{source_table}

module _ (schema : Schema) (s : Select) (name : List ℕ) (page : Term × Term) (draft : Draft)
    (names : List (List ℕ)) (collations : List (Option Collation))
    (no_lets : (out-Select s).«with» ≡ []) (no_others : (out-Select s).others ≡ [])
    (from : (out-Core (out-Select s).first).from ≡ source_table name ∷ []) (pages : select.paging schema s ≡ Ok page)
    (named : select.named schema (out-Select s).first (out-Select s).order page ≡ Ok (draft, names, collations)) where
  abbrev core : Core
  core = (out-Select s).first

  abbrev shows : program.Shown
  shows = (draft, names, collations)

  abbrev Again : Type 0
  Again = Schema → Select → program.Building program.Shown

  viewing_is : (again : Again) (n : ℕ) (lets : List Let)
      → program.viewing again schema core (out-Select s).order page (suc n) schema lets ≡ Ok ((shows, schema), lets)
  unfolding program.viewing
  viewing_is again n lets = rw named refl

  sources_are : (again : Again) (lets : List Let)
      → program.sources again schema (source_table name ∷ []) lets ≡ Ok (schema, lets)
  unfolding program.sources program.source
  sources_are again lets = rw (lemmas.opens_source name) refl

  single_is : (again : Again) (lets : List Let)
      → program.single again schema core (out-Select s).order page lets ≡ Ok ((shows, schema), lets)
  unfolding program.single
  single_is again lets = rw (from, sources_are again lets, viewing_is again 63 lets) refl

  whole_is : (again : Again) (lets : List Let) → program.whole again schema s lets ≡ Ok (shows, lets)
  unfolding program.whole program.alone
  whole_is again lets = rw (pages, no_others, single_is again lets) refl

  level_is : (again : Again) (lets : List Let) → program.level again schema s lets ≡ Ok (shows, lets)
  unfolding program.level program.with
  level_is again lets = rw (no_lets, whole_is again lets) refl

  query_is : program.query schema s ≡ Ok (shows, [])
  unfolding program.query program.query_to
  query_is = level_is (program.query_to 15) []

  pub reads : accepts_program schema [] (query_of draft) [] ≡ true
      → compile.read schema s ≡ Ok (command.Select (record { lets = []; body = query_of draft }) names)
  unfolding compile.read program.program
  reads typed = rw (query_is, typed) refl
