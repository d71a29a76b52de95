-- Why a statement that writes may fail.
use Rattle.std.proofs.Common.{◌≡◌, ◌≢◌, ◌≤◌, ◌⊎◌, ℕ, Bool, true, false, inl, inr, List, [], length}
use Rattle.std.proofs.Common.{Option, Some, None, Result, Err, IsSome, IsTrue, true≢false, refl, sym, ap, subst, ◌∙◌, arith, append-nil}
use Rattle.sqlite.specs.Effect.{is_query}
use Rattle.sqlite.specs.Clock.{timed}
use Rattle.sqlite.specs.Command.{Command}
use Rattle.sqlite.specs.Command.TheVariants.{Begin, Commit, Rollback, Release, RollbackTo}
use Rattle.sqlite.specs.Does.{Does}
use Rattle.sqlite.specs.Listing.{understood}
use Rattle.sqlite.specs.Order.{Row}
use Rattle.sqlite.specs.Schema.{Schema}
use Rattle.sqlite.specs.State.{State, EndsScope, Escapes, ExecutesIn, ExecutesInside, Fails, HasCause, IsMisplaced, IsNotRun}
use Rattle.sqlite.specs.State.{IsUnchanged, RunsCommand, is_pragma, mode_of, shows_rows, text_of}
use Rattle.sqlite.specs.Steps.{FailsToCommit}
use Rattle.sqlite.specs.declared.error.Error.{Error}
use Rattle.sqlite.specs.declared.error.Error.TheVariants.{SqliteFailure}
use Rattle.sqlite.specs.declared.error.ErrorCode.TheVariants.{OperationInterrupted}
use Rattle.sqlite_trees.specs.declared.error.StoreError.{StoreError}
use Rattle.sqlite_trees.specs.declared.error.StoreError.TheVariants.{OutOfMemory, Io, Corrupt, Full, Broken, Unstorable}
use Rattle.sqlite.proofs.Callers.{IsPlain, command_of, statement_of}
use Rattle.sqlite_resolve.specs.declared.compiled.Compiled.{Compiled}
use Rattle.plan_tables_schema.specs.Rows.{MayFail}
use Rattle.plan_tables_schema.proofs.MeaningLemmas.{IsWhole}

pub same_error : {B E : Type 0} {a b : E} → ◌≡◌ {A = Result B E} (Err a) (Err b) → a ≡ b
same_error e = cc

pub some_same : {A : Type 0} {a b : A} → ◌≡◌ {A = Option A} (Some a) (Some b) → a ≡ b
some_same e = cc

pub is_refused : (c : Compiled) (size given : ℕ) (A B C : Type 0) → (c.tail ≡ size) × (length c.names ≡ given)
    → c.formats ≡ []
    → ((¬ (size ≤ c.tail)) × A) ⊎ (((given ≢ length c.names) × B) ⊎ ((c.formats ≢ []) × C)) → ⊥
is_refused c size given A B C whole bare (inl h) = h.0 (let same = whole.0 in omega arith)
is_refused c size given A B C whole bare (inr (inl h)) = h.0 (sym whole.1)
is_refused c size given A B C whole bare (inr (inr h)) = h.0 bare

-- ---- a command that writes

-- it shows no rows, and neither begins nor ends a transaction or a savepoint
pub record IsOrdinary (command : Command) : Type 0 where
  pub quiet : is_query command ≡ false
  pub plain : is_pragma command ≡ false
  pub begins : command ≢ Begin
  pub commits : command ≢ Commit
  pub undoes : command ≢ Rollback
  pub releases : (name : List ℕ) → command ≢ Release name
  pub goes_back : (name : List ℕ) → command ≢ RollbackTo name

-- it failed by the store, or was refused by the database, which was open
abbrev pub IsStopped : State → State → Row → List ℕ → Command → Error → Type 0
IsStopped old new params text command e = Fails old new ⊥ e
    ⊎ (Fails old new (Does old.step_limit (mode_of old) params old.now text None command (Err None)) e
    ⊎ (IsTrue old.is_open × Does old.step_limit (mode_of old) params old.now text None command (Err (Some e))))

module _ (schema : Schema) (sql : List ℕ) (params : Row) (command : Command)
    (whole : IsWhole (understood schema sql) (length sql) (length params)) (plain : IsPlain (understood schema sql))
    (is : command_of (understood schema sql) ≡ command) (ordinary : IsOrdinary command) where
  misplaced : (s : State) (e : Error) → IsMisplaced s command e → ⊥
  misplaced s e (inl (same, inl h)) = ordinary.begins h.0
  misplaced s e (inl (same, inr (inl h, out))) = ordinary.commits h
  misplaced s e (inl (same, inr (inr h, out))) = ordinary.undoes h
  misplaced s e (inr (same, name, inl h, unnamed)) = ordinary.releases name h
  misplaced s e (inr (same, name, inr h, unnamed)) = ordinary.goes_back name h

  escapes : (s : State) → Escapes 0 s command → ⊥
  escapes s (inl (inl h)) = ordinary.commits h
  escapes s (inl (inr h)) = ordinary.undoes h
  escapes s (inr (name, inl h, held)) = ordinary.releases name h
  escapes s (inr (name, inr h, held)) = ordinary.goes_back name h

  settle : {W : Type 0} (old new : State) (e : Error) (c : Compiled) (text : List ℕ) → c.command ≡ command
      → ((IsMisplaced old c.command e ⊎ (W × Does old.step_limit (mode_of old) params old.now text None
      c.command (Err (Some e)))) × IsUnchanged old new)
      ⊎ Fails old new (Does old.step_limit (mode_of old) params old.now text None c.command (Err None)) e
      → IsStopped old new params text command e
  settle old new e c text same (inl (inl h, still)) =
      absurd (misplaced old e (subst (λ k. IsMisplaced old k e) same h))
  settle old new e c text same (inl (inr h, still)) = inr (inr (
    still.0.was_open,
    subst (λ k. Does old.step_limit
        (mode_of old) params old.now text None k (Err (Some e))) same h.1,
  ))
  settle old new e c text same (inr h) = inr (inl (subst (λ k. Fails old new (Does old.step_limit (mode_of old) params
      old.now text None k (Err None)) e) same h))

  pub stopped : (old new : State) (e : Error) → old.now.schema ≡ schema
      → ExecutesInside 0 sql params old new (Err e)
      → IsStopped old new params (statement_of sql (understood schema sql)) command e
  unfolding ExecutesIn IsNotRun EndsScope
  stopped old new e has (inl (inl (inl (inl h, same)), after)) =
      absurd (subst (λ r. IsWhole r (length sql) (length params)) (ap (λ s. understood s sql) (sym has) ∙ h.1) whole)
  stopped old new e has (inl (inl (inl (inr h, same)), after)) =
      let known = ap (λ s. understood s sql) (sym has) ∙ h.1 in
      absurd (is_refused h.0 (length sql) (length params) _ _ _ (subst (λ r. IsWhole r (length sql) (length params))
      known whole) (subst IsPlain known plain).1 h.2)
  stopped old new e has (inl (inl (inr h), after)) = inl h
  stopped old new e has (inl (inr h, after)) =
      let known = sym h.1.is ∙ ap (λ s. understood s sql) has in
      let bare = subst IsPlain (sym known) plain in
      let same : h.0.command ≡ command = ap command_of known ∙ is in
      let quiet : shows_rows false h.0 ≡ false = rw (same, bare.0, ordinary.quiet, ordinary.plain) refl in
      let runs : RunsCommand old new sql h.0 (timed params h.0.formats h.1.now) (Err e) = rw quiet at h.2 in
      subst (λ text. IsStopped old new params text command e) (ap (statement_of sql) known)
      (settle old new e h.0 (text_of sql h.0) same (rw (bare.0, bare.1, append-nil params) at runs))
  stopped old new e has (inr h) =
      let known = sym h.0.1.is ∙ ap (λ s. understood s sql) has in
      absurd (escapes old (subst (Escapes 0 old) (ap command_of known ∙ is) h.0.2))

-- what can be stored is not too big
stored : (old new : State) (too_big : Type 0) → (too_big → ⊥) → (cause : StoreError) → HasCause old new too_big cause
    → HasCause old new ⊥ cause
stored old new too_big never OutOfMemory h = tt
stored old new too_big never Io h = h
stored old new too_big never Corrupt h = h
stored old new too_big never Full h = h
stored old new too_big never Broken h = h
stored old new too_big never Unstorable h = never h

pub in_vain : (old new : State) (params : Row) (text : List ℕ) (command : Command) (e : Error)
    → (Does old.step_limit (mode_of old) params old.now text None command (Err None) → ⊥)
    → (IsTrue old.is_open → Does old.step_limit (mode_of old) params old.now text None command (Err (Some e))
    → (e ≡ SqliteFailure OperationInterrupted) × IsSome old.step_limit)
    → IsStopped old new params text command e → MayFail old new e
in_vain old new params text command e never late (inl h) = inl (h.0, h.1, h.2)
in_vain old new params text command e never late (inr (inl h)) = inl (h.0, h.1, stored old new _ never h.0 h.2)
in_vain old new params text command e never late (inr (inr h)) = inr (late h.0 h.1)

-- ---- statements in turn

-- what caused a failure has caused it later too
pub vain_before : (a b c : State) (e : Error) → MayFail a b e → b.faults ≤ c.faults → MayFail a c e
vain_before a b c e (inl h) more = inl (h.0, h.1, go h.0 h.2)
  where
    go : (cause : StoreError) → HasCause a b ⊥ cause → HasCause a c ⊥ cause
    go OutOfMemory h = tt
    go Io h = omega (arith, more, h)
    go Corrupt h = omega (arith, more, h)
    go Full h = omega (arith, more, h)
    go Broken h = h
    go Unstorable h = h
vain_before a b c e (inr h) more = inr h

-- and what causes it after a statement that shut no connection causes it since that statement began
pub vain_since : (a b c : State) (e : Error) → a.faults ≤ b.faults → (IsTrue a.is_open → IsTrue b.is_open)
    → b.step_limit ≡ a.step_limit → MayFail b c e → MayFail a c e
vain_since a b c e more stays limit (inl h) = inl (h.0, h.1, go h.0 h.2)
  where
    shut : (o : Bool) → a.is_open ≡ o → b.is_open ≡ false → a.is_open ≡ false
    shut true is h = absurd (true≢false (sym (stays is) ∙ h))
    shut false is h = is

    go : (cause : StoreError) → HasCause b c ⊥ cause → HasCause a c ⊥ cause
    go OutOfMemory h = tt
    go Io h = omega (arith, more, h)
    go Corrupt h = omega (arith, more, h)
    go Full h = omega (arith, more, h)
    go Broken h = shut a.is_open refl h
    go Unstorable h = h
vain_since a b c e more stays limit (inr h) = inr (h.0, subst IsSome limit h.1)

pub commit_fails : (old new : State) (e : Error) → IsTrue old.in_transaction → FailsToCommit old new e
    → MayFail old new e
commit_fails old new e mode (inl h) = inl (h.0, h.1, h.2)
commit_fails old new e mode (inr h) = absurd (true≢false (sym mode ∙ h.1))
