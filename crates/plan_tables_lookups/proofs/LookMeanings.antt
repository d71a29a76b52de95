-- The texts of the questions mean the same wherever their table stands.
use Rattle.std.proofs.Common.{◌≡◌, ℕ, List, [], length, map, Ok, Err, refl, None, subst, subst₂, sym, true}
use Rattle.sqlite_ast.specs.declared.Select.{Select}
use Rattle.sqlite_ast.specs.declared.Statement.TheVariants as written
use Rattle.sqlite_draft.specs.Query.{query_of}
use Rattle.sqlite_resolve.specs.Compile as compile
use Rattle.sqlite_resolve.specs.Lowering.{Checked}
use Rattle.sqlite_resolve.specs.Terms.{number}
use Rattle.sqlite_schema.specs.declared.command.Command.{Command}
use Rattle.sqlite_schema.specs.declared.command.Command.TheVariants as command
use Rattle.sqlite_schema.specs.declared.schema.Schema.{Schema}
use Rattle.sqlite_sql.specs.Query.{Query}
use Rattle.sqlite_sql.specs.Term.{Term}
use Rattle.sqlite_typing.specs.Types.{accepts_program}
use Rattle.sqlite_syntax.specs.declared.statement.Parsed.{Parsed}
use Rattle.plan_tables_lookups.specs.Looks.{look_sql, question}
use Rattle.plan_tables_lookups.specs.Question.{Question}
use Rattle.plan_tables_lookups.specs.declared.looks.Look.{Look}
use Rattle.plan_tables_lookups.proofs.LookFits.{look_accepted, look_fits, placed, query_to, tested}
use Rattle.plan_tables_lookups.proofs.LookTexts.{asked_with, look_says}
use Rattle.plan_tables_lookups.proofs.QuestionMeanings as question_meanings
use Rattle.plan_tables_lookups.proofs.QuestionMeanings.{test_term}
use Rattle.plan_tables_lookups.proofs.SortMeanings.{limit_term, sort_term}
use Rattle.plan_tables_lookups.proofs.WrittenQuestions.{IsWritten, Says}
use Rattle.plan_tables_schema.specs.Cells.{column_names}
use Rattle.plan_tables_schema.specs.Places.{TableIsAt}
use Rattle.plan_tables_schema.specs.Schema.{name, table_at}
use Rattle.plan_tables_schema.proofs.MeaningLemmas.{Means, Plans, means}
use Rattle.plan_tables_schema.proofs.Written.{IfRead}
use Rattle.plan_tables_schema.proofs.WrittenQueries.{plain_draft, select_of}

abbrev pub look_command : ℕ → Look → Command
look_command tree look = command.Select (record { lets = []; body = query_to tree (question look) })
    (column_names (question look).table)

pub plans : (schema : Schema) (p : Parsed) (s : Select) (c : Command) → p.statement ≡ written.Select s
    → p.formats ≡ [] → compile.read schema s ≡ Ok c
    → compile.planned schema p ≡ Ok ([], (c, None))
unfolding compile.planned compile.timed compile.meaning compile.returning compile.command
plans schema p s c is timeless reads = rw (is, timeless, reads) refl

module _ (schema : Schema) (at tree : ℕ) (look : Look)
    (it : TableIsAt schema (table_at tree (question look).table) at) where
  abbrev q : Question
  q = question look

  abbrev shows : List Term → Query
  shows terms = query_of (plain_draft tree (map (test_term (tested q)) q.tests) terms
      (map (sort_term (placed q)) q.order) (limit_term q.is_one, number 0))

  abbrev IsRead : Select → List Term → List (List ℕ) → Type 0
  IsRead s terms names = compile.read schema s ≡ Ok (command.Select (record { lets = []; body = shows terms }) names)

  read_as : (s : Select) → IsWritten s (name q.table) (column_names q.table) q.tests q.order q.is_one
      → compile.read schema s ≡ Ok (look_command tree look)
  read_as s is =
      let fits = look_fits tree look in
      let accepted = look_accepted schema tree look it.stored it.found in
      subst₂ (IsRead s) fits.terms fits.names
      (question_meanings.reads schema (table_at tree q.table) at it s (column_names q.table) q.tests q.order q.is_one
      (tested q) (placed q) fits.about is
      (subst (λ terms. accepts_program schema [] (shows terms) [] ≡ true) (sym fits.terms) accepted))

  look_plans : (r : Checked Parsed) → IfRead r (Says q (asked_with look) (length (look_sql look)))
      → IfRead r (Plans schema (look_command tree look) (length (look_sql look)) (asked_with look))
  look_plans (Err e) h = absurd h
  look_plans (Ok p) h = (
    plans schema p (select_of p.statement) (look_command tree look) h.is h.text.2
        (read_as (select_of p.statement) h.asks),
    h.text.0,
    h.text.1,
  )

  pub look_means : Means schema (look_sql look) (look_command tree look) (asked_with look)
  look_means = means schema (look_sql look) (look_command tree look) (asked_with look)
      (compile.first (look_sql look)) refl (look_plans (compile.first (look_sql look)) (look_says look))
