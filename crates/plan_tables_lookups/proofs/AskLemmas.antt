-- What a question leaves, shows, and why it fails.
use Rattle.std.proofs.Common.{◌≡◌, ℕ, List, [], ◌++◌, Result, IsTrue, inl, inr, ap}
use Rattle.std.specs.Prelude.{IfErr, IfOk}
use Rattle.sqlite.specs.Listing.{understood}
use Rattle.sqlite.specs.Order.{Row}
use Rattle.sqlite.specs.Program.{QueryOverflows, overlay}
use Rattle.sqlite.specs.Query.{Query}
use Rattle.sqlite.specs.State.{Begins, CommitsShowing, FailsToQuery, IsLive, IsUnchanged, Shown, State, Survives}
use Rattle.sqlite.specs.Tree.{Trees}
use Rattle.sqlite.specs.declared.error.Error.{Error}
use Rattle.sqlite.proofs.Callers.{IsPlain, never_commits}
use Rattle.sqlite.proofs.StateLemmas.{survives_weaker}
use Rattle.sqlite_trees.specs.Objects.{catalog_tree}
use Rattle.plan_tables_lookups.specs.Looks.{AreAsked, look_sql, question}
use Rattle.plan_tables_lookups.specs.Question.{Answers}
use Rattle.plan_tables_lookups.specs.declared.looks.Look.{Look}
use Rattle.plan_tables_lookups.proofs.AnswerLemmas.{answer_is}
use Rattle.plan_tables_lookups.proofs.LookFits.{look_takes, query_to}
use Rattle.plan_tables_lookups.proofs.LookMeanings.{look_command, look_means}
use Rattle.plan_tables_lookups.proofs.LookTexts.{asked_with}
use Rattle.plan_tables_lookups.proofs.TextLemmas as text
use Rattle.plan_tables_schema.specs.Cells.{column_names}
use Rattle.plan_tables_schema.specs.Rows.{MayFail, StaysOrIsUndone, tables_of}
use Rattle.plan_tables_schema.specs.Schema.{HasTables}
use Rattle.plan_tables_schema.specs.declared.tables.Table.{Table}
use Rattle.plan_tables_schema.proofs.MeaningLemmas.{Means}
use Rattle.plan_tables_schema.proofs.NamedLemmas.{tells}

-- the list of objects tells the tree of a table
pub told : (old : State) (has : HasTables old.now.schema) (t : Table) → IsLive old → IsTrue old.is_open
    → tables_of old.now.trees t ≡ old.now.trees (has.trees t)
told old has t live opened =
    ap old.now.trees (tells old.now.schema has (old.now.trees catalog_tree) (live opened).0.lists.listed t)

module _ (look : Look) (asked : Row) (old new : State) (has : HasTables old.now.schema) where
  abbrev t : Table
  t = (question look).table

  abbrev tree : ℕ
  tree = has.trees t

  abbrev q : Query
  q = query_to tree (question look)

  abbrev sql : List ℕ
  sql = look_sql look

  means : Means old.now.schema sql (look_command tree look) (asked_with look)
  means = look_means old.now.schema (has.at t) tree look (has.stands t)

  pub plain : IsPlain (understood old.now.schema sql)
  plain = means.plain

  pub stays : (rows : List Row) → Shown sql asked old new rows → IsUnchanged old new
  stays = text.stays sql asked old new q (column_names t) (asked_with look) means

  pub answered : IsLive old → (rows : List Row) → Shown sql asked old new rows
      → Answers (question look) asked (tables_of old.now.trees) rows
  answered live rows h =
      answer_is tree look asked old.now.trees (tables_of old.now.trees) rows
      (text.own tree old.now.trees (has.stands t).stored)
      (told old has t live (stays rows h).0.was_open)
      (text.answers sql asked old new q (column_names t) (asked_with look) means rows h)

  -- what begins an answer is the front of one
  pub begun : IsLive old → IsTrue old.is_open → (given : List Row) → Begins sql asked old given
      → (rest : List Row) × Answers (question look) asked (tables_of old.now.trees) (given ++ rest)
  begun live opened given h =
      let more = text.front sql asked old new q (column_names t) (asked_with look) means given h in (
        more.0,
        answer_is tree look asked old.now.trees (tables_of old.now.trees) (given ++ more.0)
            (text.own tree old.now.trees (has.stands t).stored) (told old has t live opened) more.1,
      )

  never_over : (db : Trees) → QueryOverflows q (overlay db []) asked → ⊥
  never_over db (inl h) = absurd h
  never_over db (inr h) = absurd h.4

  pub fails : AreAsked look asked → (e : Error) → FailsToQuery sql asked old new e → MayFail old new e
  fails given =
      let fits = look_takes old.now.schema tree look (has.stands t).stored (has.stands t).found asked given in
      text.fails sql asked old new q (column_names t) (asked_with look) means fits.0 fits.1 never_over

  pub failed : (e : Error) → FailsToQuery sql asked old new e → StaysOrIsUndone old new
  failed = text.failed sql asked old new q (column_names t) (asked_with look) means

  pub leaves : {A : Type 0} (items : A → List Row) (r : Result A Error)
      → IfOk r (λ rows. Shown sql asked old new (items rows))
      → IfErr r (FailsToQuery sql asked old new) → StaysOrIsUndone old new
  leaves = text.leaves sql asked old new q (column_names t) (asked_with look) means

-- it commits nothing
pub quiet : (look : Look) (asked : Row) (old new : State) → Survives old new (CommitsShowing (look_sql look) asked old)
    → Survives old new (λ _. HasTables old.now.schema → ⊥)
quiet look asked old new = survives_weaker old new _ _ (λ _ db c has.
    never_commits (look_sql look) asked old db (plain look asked old old has) c)
