-- CREATE TABLE means the same wherever its name is free.
use Rattle.std.proofs.Common.{◌≡◌, ◌∙◌, ap, ◌==◌, ◌&&◌, not, ℕ, List, [], length, Ok, Err, refl, None, true, false}
use Rattle.std.specs.Prelude.{slice_range}
use Rattle.sqlite_ast.specs.declared.CreateTable.{CreateTable}
use Rattle.sqlite_ast.specs.declared.Statement.TheVariants as written
use Rattle.sqlite_schema.specs.declared.schema.Schema.{Schema}
use Rattle.sqlite_schema.specs.declared.schema.Table.{Table}
use Rattle.sqlite_schema.specs.declared.command.Command.TheVariants as command
use Rattle.sqlite_schema.specs.Names.{table_named, view_named, index_named}
use Rattle.sqlite_syntax.specs.declared.statement.Parsed.{Parsed}
use Rattle.sqlite_catalog.specs.Change.{is_used}
use Rattle.sqlite_catalog.proofs.StepLemmas.{no_table, no_index, no_view}
use Rattle.sqlite_resolve.specs.Lowering.{Checked}
use Rattle.sqlite_resolve.specs.Compile as compile
use Rattle.sqlite_resolve.specs.Define as define
use Rattle.sqlite.specs.Listing.{understood}
use Rattle.sqlite.proofs.Callers.{statement_of}
use Rattle.plan_tables_schema.proofs.Written.{IfRead}
use Rattle.plan_tables_schema.proofs.MeaningLemmas.{Means, Plans, compiles, means, understands}

-- the text makes this table
pub record Creates (name sql : List ℕ) (table : Table) (p : Parsed) : Type 0 where
  pub def : CreateTable
  pub whole : p.tail ≡ length sql
  pub parameters : p.names ≡ []
  pub text : slice_range sql p.start p.end ≡ sql
  pub is : p.statement ≡ written.CreateTable def
  pub named : def.name ≡ name
  pub free : compile.creates def.if_missing def.name None None ≡ Ok true
  pub defined : define.table p.formats def ≡ Ok table
  pub fit : (length table.computed == length table.stamps.places && not def.resolves) ≡ true

create_meaning : (schema : Schema) (formats : List (List ℕ)) (base : ℕ) (def : CreateTable) (table : Table)
    → table_named schema def.name ≡ None → view_named schema def.name ≡ None → index_named schema def.name ≡ None
    → compile.creates def.if_missing def.name None None ≡ Ok true → define.table formats def ≡ Ok table
    → (length table.computed == length table.stamps.places && not def.resolves) ≡ true
    → compile.command schema formats base (written.CreateTable def) ≡ Ok command.CreateTable
unfolding compile.command compile.create_table compile.is_attached
create_meaning schema formats base def table no_table no_view no_index free defined fit = rw (no_view, no_table, no_index, free, defined, fit) refl

create_planned : (schema : Schema) (p : Parsed) (def : CreateTable) → p.statement ≡ written.CreateTable def
    → ((base : ℕ) → compile.command schema p.formats base (written.CreateTable def) ≡ Ok command.CreateTable)
    → compile.planned schema p ≡ Ok ([], (command.CreateTable, None))
unfolding compile.planned compile.meaning compile.returning compile.timed
create_planned schema p def is meant = rw (is, meant) refl

module _ (schema : Schema) (name sql : List ℕ) (table : Table) (free : is_used schema name ≡ false) where
  plans : (p : Parsed) → Creates name sql table p → compile.planned schema p ≡ Ok ([], (command.CreateTable, None))
  plans p h = create_planned schema p h.def h.is (λ base. create_meaning schema p.formats base h.def table
      (ap (table_named schema) h.named ∙ no_table schema name free) (ap (view_named schema) h.named ∙ no_view schema name free)
      (ap (index_named schema) h.named ∙ no_index schema name free) h.free h.defined h.fit)

  create_plans : (r : Checked Parsed) → IfRead r (Creates name sql table) → IfRead r (Plans schema command.CreateTable (length sql) 0)
  create_plans (Err e) h = absurd h
  create_plans (Ok p) h = (plans p h, h.whole, ap length h.parameters)

  -- the statement is the text
  states : (r : Checked Parsed) → compile.first sql ≡ r → IfRead r (Creates name sql table) → statement_of sql (understood schema sql) ≡ sql
  states (Err e) read h = absurd h
  states (Ok p) read h =
      let it = understands schema sql p _ (compiles schema sql p _ read (plans p h)) in
      rw it.1 h.text

-- what the text defines does not depend on a schema
defines : (p : Parsed) (def : CreateTable) (table : Table) → p.statement ≡ written.CreateTable def → define.table p.formats def ≡ Ok table
    → compile.table_in p.formats p.statement ≡ Ok table
unfolding compile.table_in
defines p def table is defined = rw (is, defined) refl

table_defined : (name sql : List ℕ) (table : Table) (r : Checked Parsed) → compile.first sql ≡ r → IfRead r (Creates name sql table) → compile.table_defined_by sql ≡ Ok table
unfolding compile.table_defined_by
table_defined name sql table (Err e) read h = absurd h
table_defined name sql table (Ok p) read h = rw (read, defines p h.def table h.is h.defined) refl

module _ (name sql : List ℕ) (table : Table) (says : IfRead (compile.first sql) (Creates name sql table)) where
  -- where the name is free, the table is made, by the whole text
  pub creates : (schema : Schema) → is_used schema name ≡ false
      → Means schema sql command.CreateTable 0 × (statement_of sql (understood schema sql) ≡ sql)
  creates schema free =
      let r = compile.first sql in (
        means schema sql _ _ r refl (create_plans schema name sql table free r says),
        states schema name sql table free r refl says,
      )

  pub defined_so : compile.table_defined_by sql ≡ Ok table
  defined_so = table_defined name sql table (compile.first sql) refl says
