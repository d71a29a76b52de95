-- What a query whose text is known shows, and why it fails, over any schema.
use Rattle.std.proofs.Common.{◌≡◌, inl, inr, ℕ, List, [], append-nil, length, Option, IsSome, refl, sym, ap, subst, ◌∙◌, false, true≢false, nat_le, ◌^◌}
use Rattle.std.specs.List.Sorted.{IsPermutation}
use Rattle.sqlite.specs.Order.{Row}
use Rattle.sqlite.specs.Term.{Term}
use Rattle.sqlite.specs.Tree.{Trees}
use Rattle.sqlite.specs.Schema.{Schema}
use Rattle.sqlite.specs.Effect.{Database, RefusesQuery, RefusesToRead}
use Rattle.sqlite.specs.Listing.{IsSourceOf, reads_listing, understood}
use Rattle.sqlite.specs.Program.{overlay}
use Rattle.sqlite.specs.State as state
use Rattle.sqlite.specs.Clock.{timed}
use Rattle.sqlite.specs.State.{State, CommitsShowing, FailsToQuery, IsNotRun, IsUnchanged, Shown, Survives}
use Rattle.sqlite.specs.declared.error.Error.{Error}
use Rattle.sqlite.specs.declared.error.Error.TheVariants.{SqliteFailure}
use Rattle.sqlite.specs.declared.error.ErrorCode.TheVariants.{OperationInterrupted}
use Rattle.sqlite.specs.declared.types.Value.TheVariants.{Null}
use Rattle.sqlite.proofs.Callers.{IsPlain, command_of, never_commits, reads_as}
use Rattle.sqlite.proofs.StateLemmas.{survives_weaker}
use Rattle.sqlite_typing.specs.Types.{accepts_program}
use Rattle.plan_tables_schema.specs.Rows.{MayFail, StaysOrIsUndone}
use Rattle.plan_tables_schema.proofs.MeaningLemmas.{IsWhole}
use Rattle.plan_tables_schema.proofs.StopLemmas.{is_refused}
use Rattle.plan_tables_schema.proofs.Steps.{plain_query, plain_rows, shown_by}
use Rattle.plan_tables_schema.proofs.QueryMeanings.{ShowsRows}

-- a query changes nothing
pub unchanged_by : (schema : Schema) (sql : List ℕ) (old new : State) (rows : List Row)
    → IsPlain (understood schema sql) → old.now.schema ≡ schema → Shown sql [] old new rows → IsUnchanged old new
unfolding Shown
unchanged_by schema sql old new rows plain has h =
    let none = (subst IsPlain (ap (λ s. understood s sql) (sym has) ∙ h.1.is) plain).0 in
    (subst (state.ShowsRows old new sql h.0 (timed [] h.0.formats h.1.now) rows) none h.2).3

own : (tree : ℕ) (db : Trees) → nat_le (2 ^ 31) tree ≡ false → overlay db [] tree ≡ db tree
own tree db stored = rw stored refl

module _ (schema : Schema) (sql : List ℕ) (tree : ℕ) (terms : List Term) (names : List (List ℕ)) (it : ShowsRows schema sql tree terms names) where
  -- it shows all rows of its tree
  pub shows_all : nat_le (2 ^ 31) tree ≡ false → (old new : State) (rows : List Row) → old.now.schema ≡ schema → Shown sql [] old new rows
      → IsPermutation (shown_by [] terms [] (old.now.trees tree)) rows
  shows_all stored old new rows has h =
      let answers = reads_as sql [] old new schema has _ it.means it.plain it.unlisted rows h in
      plain_rows tree [] terms old.now.trees [] rows (own tree old.now.trees stored) (answers.answer Null)

  pub stays : (old new : State) (rows : List Row) → old.now.schema ≡ schema → Shown sql [] old new rows → IsUnchanged old new
  stays old new rows has h = unchanged_by schema sql old new rows it.plain has h

  stops : (limit : Option ℕ) (db : Database) (e : Error) → db.schema ≡ schema
      → RefusesQuery limit db (record { lets = []; body = plain_query tree [] terms }) [] e → (e ≡ SqliteFailure OperationInterrupted) × IsSome limit
  stops limit db e has (inl h) =
      absurd (true≢false (sym it.typed ∙ subst (λ s. accepts_program s [] (plain_query tree [] terms) [] ≡ false) has h.1))
  stops limit db e has (inr (inl (same, inl h))) = absurd h
  stops limit db e has (inr (inl (same, inr h))) = absurd h.4
  stops limit db e has (inr (inr h)) = h

  pub fails : (old new : State) (e : Error) → old.now.schema ≡ schema → FailsToQuery sql [] old new e → MayFail old new e
  unfolding FailsToQuery IsNotRun
  fails old new e has (inl (inl (inl h, same))) =
      absurd (subst (λ r. IsWhole r (length sql) 0) (ap (λ s. understood s sql) (sym has) ∙ h.1) it.whole)
  fails old new e has (inl (inl (inr h, same))) =
      let known = ap (λ s. understood s sql) (sym has) ∙ h.1 in
      absurd (is_refused h.0 (length sql) 0 _ _ _ (subst (λ r. IsWhole r (length sql) 0) known it.whole) (subst IsPlain known it.plain).1 h.2)
  fails old new e has (inl (inr h)) = inl (h.0, h.1, h.2)
  fails old new e has (inr h) =
      let known = sym h.1.is ∙ ap (λ s. understood s sql) has in
      let bare = subst IsPlain (sym known) it.plain in
      let ran = rw (bare.0, bare.1, append-nil []) at h.2 in
      let db : ran.0 ≡ old.now = subst (λ b. IsSourceOf b old.now ran.0) (ap (λ s. reads_listing s sql) has ∙ it.unlisted) ran.1 in
      inr (stops old.step_limit ran.0 e (ap (λ (d : Database). d.schema) db ∙ has)
      (subst (λ k. RefusesToRead old.step_limit k ran.0 [] e) (ap command_of known ∙ it.means) ran.2))

  -- where it fails, all stays, or it is undone that was not committed
  pub failed : (old new : State) (e : Error) → old.now.schema ≡ schema → FailsToQuery sql [] old new e
      → StaysOrIsUndone old new
  unfolding FailsToQuery IsNotRun
  failed old new e has (inl (inl (h, same))) = inl same
  failed old new e has (inl (inr h)) = inr h.3
  failed old new e has (inr h) =
      let known = sym h.1.is ∙ ap (λ s. understood s sql) has in
      let bare = subst IsPlain (sym known) it.plain in
      let ran = rw (bare.0, bare.1, append-nil []) at h.2 in
      inl ran.3

  -- it commits nothing
  pub quiet : (old new : State) → Survives old new (CommitsShowing sql [] old) → Survives old new (λ _. old.now.schema ≡ schema → ⊥)
  quiet old new = survives_weaker old new _ _ (λ _ db c has. never_commits sql [] old db (subst (λ s. IsPlain (understood s sql)) (sym has) it.plain) c)
