-- What a query whose meaning is known leaves, what it answers, and why it fails.
use Rattle.std.proofs.Common.{◌≡◌, ◌∙◌, ◌^◌, nat_le, ℕ, List, [], ◌++◌, append-nil, length, Result, Ok, Err, IsSome}
use Rattle.std.proofs.Common.{inl, inr, refl, sym, ap, subst, false, true, true≢false}
use Rattle.std.specs.Prelude.{IfErr, IfOk}
use Rattle.sqlite.specs.Clock.{timed}
use Rattle.sqlite.specs.Command.TheVariants.{Select}
use Rattle.sqlite.specs.Effect.{Database, RefusesQuery, RefusesToRead}
use Rattle.sqlite.specs.Listing.{IsSourceOf, understood}
use Rattle.sqlite.specs.Order.{Row}
use Rattle.sqlite.specs.Program.{QueryOverflows, overlay}
use Rattle.sqlite.specs.Query.{IsAnswer, Query}
use Rattle.sqlite.specs.State as state
use Rattle.sqlite.specs.State.{Begins, FailsToQuery, IsNotRun, IsUnchanged, Shown, State}
use Rattle.sqlite.specs.Tree.{Trees}
use Rattle.sqlite.specs.declared.error.Error.{Error}
use Rattle.sqlite.specs.declared.error.Error.TheVariants.{SqliteFailure}
use Rattle.sqlite.specs.declared.error.ErrorCode.TheVariants.{OperationInterrupted}
use Rattle.sqlite.specs.declared.types.Value.TheVariants.{Null}
use Rattle.sqlite.proofs.Callers.{IsPlain, begins_as, command_of, reads_as}
use Rattle.sqlite_typing.specs.Types.{accepts_program}
use Rattle.plan_tables_schema.specs.Rows.{MayFail, StaysOrIsUndone}
use Rattle.plan_tables_schema.proofs.MeaningLemmas.{IsWhole, Means}
use Rattle.plan_tables_schema.proofs.StopLemmas.{is_refused}

-- a tree that is stored is read as it stands
pub own : (tree : ℕ) (db : Trees) → nat_le (2 ^ 31) tree ≡ false → overlay db [] tree ≡ db tree
own tree db stored = rw stored refl

module _ (sql : List ℕ) (asked : Row) (old new : State) (q : Query) (names : List (List ℕ)) (given : ℕ)
    (means : Means old.now.schema sql (Select (record { lets = []; body = q }) names) given) where
  pub stays : (rows : List Row) → Shown sql asked old new rows → IsUnchanged old new
  unfolding Shown
  stays rows h =
      let none = (subst IsPlain h.1.is means.plain).0 in
      (subst (state.ShowsRows old new sql h.0 (timed asked h.0.formats h.1.now) rows) none h.2).3

  pub answers : (rows : List Row) → Shown sql asked old new rows → IsAnswer q (overlay old.now.trees []) asked rows
  answers rows h = (reads_as sql asked old new old.now.schema refl _ means.is means.plain means.own rows h).answer Null

  -- what begins an answer is the front of one
  pub front : (first : List Row) → Begins sql asked old first
      → (rest : List Row) × IsAnswer q (overlay old.now.trees []) asked (first ++ rest)
  front first h =
      let sure = (begins_as sql asked old old old.now.schema refl _ means.is means.plain means.own first h).1 in
      (sure.0, sure.1 Null)

  -- ---- why it fails

  module _ (long : length asked ≡ given) (fits : accepts_program old.now.schema [] q asked ≡ true)
      (never_over : (db : Trees) → QueryOverflows q (overlay db []) asked → ⊥) where
    whole : IsWhole (understood old.now.schema sql) (length sql) (length asked)
    whole = subst (IsWhole (understood old.now.schema sql) (length sql)) (sym long) means.whole

    stops : (db : Database) (e : Error) → db.schema ≡ old.now.schema
        → RefusesQuery old.step_limit db (record { lets = []; body = q }) asked e
        → (e ≡ SqliteFailure OperationInterrupted) × IsSome old.step_limit
    stops db e same (inl h) =
        absurd (true≢false (sym fits ∙ subst (λ s. accepts_program s [] q asked ≡ false) same h.1))
    stops db e same (inr (inl h)) = absurd (never_over db.trees h.1)
    stops db e same (inr (inr h)) = h

    pub fails : (e : Error) → FailsToQuery sql asked old new e → MayFail old new e
    unfolding FailsToQuery IsNotRun
    fails e (inl (inl (inl h, same))) = absurd (subst (λ r. IsWhole r (length sql) (length asked)) h.1 whole)
    fails e (inl (inl (inr h, same))) =
        absurd (is_refused h.0 (length sql) (length asked) _ _ _ (subst (λ r. IsWhole r (length sql) (length asked)) h.1
        whole) (subst IsPlain h.1 means.plain).1 h.2)
    fails e (inl (inr h)) = inl (h.0, h.1, h.2)
    fails e (inr h) =
        let bare = subst IsPlain h.1.is means.plain in
        let it = rw (bare.0, bare.1, append-nil asked) at h.2 in
        let db : it.0 ≡ old.now = subst (λ b. IsSourceOf b old.now it.0) means.own it.1 in
        inr (stops it.0 e (ap (λ (d : Database). d.schema) db)
        (subst (λ k. RefusesToRead old.step_limit k it.0 asked e) (ap command_of (sym h.1.is) ∙ means.is) it.2))

  -- all stays, or it is undone that was not committed
  pub failed : (e : Error) → FailsToQuery sql asked old new e → StaysOrIsUndone old new
  unfolding FailsToQuery IsNotRun
  failed e (inl (inl (h, same))) = inl same
  failed e (inl (inr h)) = inr h.3
  failed e (inr h) =
      let bare = subst IsPlain h.1.is means.plain in
      let ran = rw (bare.0, bare.1, append-nil asked) at h.2 in
      inl ran.3

  -- whatever it answers
  pub leaves : {A : Type 0} (items : A → List Row) (r : Result A Error)
      → IfOk r (λ rows. Shown sql asked old new (items rows))
      → IfErr r (FailsToQuery sql asked old new) → StaysOrIsUndone old new
  leaves items (Ok rows) ok err = inl (stays (items rows) ok)
  leaves items (Err e) ok err = failed e err
