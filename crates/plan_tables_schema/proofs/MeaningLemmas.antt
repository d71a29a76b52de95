-- A text means its command wherever its table stands.
use Rattle.std.proofs.Common.{◌≡◌, ℕ, ◌+◌, List, [], length, Result, Ok, Err, refl, Option, None, false}
use Rattle.sqlite_schema.specs.declared.schema.Schema.{Schema}
use Rattle.sqlite_schema.specs.declared.schema.Table.{Table}
use Rattle.sqlite_schema.specs.declared.command.Source.{Source}
use Rattle.sqlite_schema.specs.declared.command.Command.{Command}
use Rattle.sqlite_schema.specs.declared.command.Command.TheVariants as command
use Rattle.sqlite_schema.specs.declared.program.Program.{Program}
use Rattle.sqlite_draft.specs.declared.query.Draft.{Draft}
use Rattle.sqlite_draft.specs.Query.{query_of}
use Rattle.sqlite_resolve.specs.Lowering.{Checked}
use Rattle.sqlite_resolve.specs.declared.compiled.Compiled.{Compiled}
use Rattle.sqlite_resolve.specs.declared.error.CompileError.{CompileError}
use Rattle.sqlite_resolve.specs.Compile as compile
use Rattle.sqlite_resolve.specs.Program.{program}
use Rattle.sqlite_resolve.specs.Write.{deleted}
use Rattle.sqlite_syntax.specs.declared.statement.Parsed.{Parsed}
use Rattle.sqlite_ast.specs.declared.Rows.{Rows}
use Rattle.sqlite_ast.specs.declared.Expr.{Expr}
use Rattle.sqlite_ast.specs.declared.Statement.TheVariants as written
use Rattle.sqlite_ast.specs.declared.Conflict.TheVariants.{Abort}
use Rattle.sqlite.specs.Listing.{understood, reads_listing}
use Rattle.sqlite.proofs.Callers.{IsPlain, command_of}
use Rattle.plan_tables_schema.specs.Places.{TableIsAt}
use Rattle.plan_tables_schema.proofs.Written.{IfRead, Inserts, Deletes}

-- it is understood to its end, and has so many parameters
abbrev pub IsWhole : Result Compiled CompileError → ℕ → ℕ → Type 0
IsWhole (Ok c) size given = (c.tail ≡ size) × (length c.names ≡ given)
IsWhole (Err e) size given = ⊥

-- the text means the command, to its end and with so many parameters
pub record Means (schema : Schema) (sql : List ℕ) (c : Command) (given : ℕ) : Type 0 where
  pub is : command_of (understood schema sql) ≡ c
  pub plain : IsPlain (understood schema sql)
  pub whole : IsWhole (understood schema sql) (length sql) given
  pub own : reads_listing schema sql ≡ false

-- what was read of the text is planned as the command
abbrev pub Plans : Schema → Command → ℕ → ℕ → Parsed → Type 0
Plans schema c size given p = (compile.planned schema p ≡ Ok ([], (c, None))) × (p.tail ≡ size) × (length p.names ≡ given)

-- ---- from what is planned to what is understood

pub compiles : (schema : Schema) (sql : List ℕ) (p : Parsed) (c : Command) → compile.first sql ≡ Ok p → compile.planned schema p ≡ Ok ([], (c, None))
    → compile.compiled schema sql ≡ Ok (compile.with_command p ([], (c, None)))
unfolding compile.compiled
compiles schema sql p c read h = rw (read, h) refl

pub understands : (schema : Schema) (sql : List ℕ) (p : Parsed) (c : Command) → compile.compiled schema sql ≡ Ok (compile.with_command p ([], (c, None)))
    → (reads_listing schema sql ≡ false) × (understood schema sql ≡ Ok (compile.with_command p ([], (c, None))))
unfolding understood
understands schema sql p c h = (rw h refl, rw h refl)

pub means : (schema : Schema) (sql : List ℕ) (c : Command) (given : ℕ) (r : Checked Parsed) → compile.first sql ≡ r → IfRead r (Plans schema c (length sql) given) → Means schema sql c given
means schema sql c given (Err e) read h = absurd h
means schema sql c given (Ok p) read h =
    let it = understands schema sql p c (compiles schema sql p c read h.0) in
    record { is = rw it.1 refl; plain = rw it.1 (refl, refl); whole = rw it.1 (h.1, h.2); own = it.0 }

module _ (schema : Schema) (table : Table) (at : ℕ) (it : TableIsAt schema table at) where
  -- ---- INSERT

  pub insert_meaning : (base : ℕ) (source : Source) (name : List ℕ) (columns : List (List ℕ)) (all_rows : Rows)
      → name ≡ table.name → compile.new_rows schema table base columns all_rows ≡ Ok source
      → compile.command schema [] base (written.Insert Abort name columns all_rows [] []) ≡ Ok (command.Insert at source)
  unfolding compile.command compile.insert_or_abort compile.insert
  insert_meaning base source name columns all_rows target rows = rw (target, it.named, it.got, rows) refl

  insert_timed : (name : List ℕ) (columns : List (List ℕ)) (all_rows : Rows) → name ≡ table.name → table.stamps.formats ≡ []
      → compile.timed schema [] (written.Insert Abort name columns all_rows [] []) ≡ []
  unfolding compile.timed
  insert_timed name columns all_rows target untimed = rw (target, it.named, it.got, untimed) refl

  insert_planned : (p : Parsed) (source : Source) (name : List ℕ) (columns : List (List ℕ)) (all_rows : Rows)
      → p.statement ≡ written.Insert Abort name columns all_rows [] [] → name ≡ table.name → p.formats ≡ [] → table.stamps.formats ≡ []
      → compile.new_rows schema table (compile.small p.names + 0) columns all_rows ≡ Ok source
      → compile.planned schema p ≡ Ok ([], (command.Insert at source, None))
  unfolding compile.planned compile.meaning compile.returning compile.shows
  insert_planned p source name columns all_rows is target timeless untimed rows =
      rw (is, timeless, insert_timed name columns all_rows target untimed, insert_meaning _ source name columns all_rows target rows) refl

  pub insert_plans : (source : Source) (size given : ℕ) → table.stamps.formats ≡ [] → (r : Checked Parsed) → IfRead r (Inserts schema table source size given) → IfRead r (Plans schema (command.Insert at source) size given)
  insert_plans source size given untimed (Err e) h = absurd h
  insert_plans source size given untimed (Ok p) h = (insert_planned p source _ _ _ h.is h.target h.timeless untimed h.rows, h.whole, h.parameters)

  -- ---- DELETE

  pub delete_meaning : (base : ℕ) (draft : Draft) (q : Program) (name : List ℕ) (test : Option Expr)
      → name ≡ table.name → deleted schema at table test ≡ Ok draft → program schema [] draft ≡ Ok q
      → compile.command schema [] base (written.Delete name test []) ≡ Ok (command.Delete at q)
  unfolding compile.command compile.delete
  delete_meaning base draft q name test target drafted fits = rw (target, it.named, it.got, drafted, fits) refl

  delete_planned : (p : Parsed) (draft : Draft) (q : Program) (name : List ℕ) (test : Option Expr)
      → p.statement ≡ written.Delete name test [] → name ≡ table.name → p.formats ≡ []
      → deleted schema at table test ≡ Ok draft → program schema [] draft ≡ Ok q
      → compile.planned schema p ≡ Ok ([], (command.Delete at q, None))
  unfolding compile.planned compile.meaning compile.returning compile.shows compile.timed
  delete_planned p draft q name test is target timeless drafted fits = rw (is, timeless, delete_meaning _ draft q name test target drafted fits) refl

  pub delete_plans : (draft : Draft) (size given : ℕ) (r : Checked Parsed) → IfRead r (Deletes schema table at draft size given)
      → IfRead r (Plans schema (command.Delete at (record { lets = []; body = query_of draft })) size given)
  delete_plans draft size given (Err e) h = absurd h
  delete_plans draft size given (Ok p) h = (delete_planned p draft _ _ _ h.is h.target h.timeless h.drafted h.program, h.whole, h.parameters)
