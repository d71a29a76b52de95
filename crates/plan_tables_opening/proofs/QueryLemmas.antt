-- What a database of any tables answers that is asked by a text that only reads.
use Rattle.std.proofs.Common.{◌≡◌, ◌⊎◌, ◌+◌, ◌≤◌, ◌≢◌, ℕ, Bool, cond, true, false, true≢false, inl, inr, List, []}
use Rattle.std.proofs.Common.{length, Ok, Err, Option, None, IsSome, refl, sym, ap, subst}
use Rattle.std.specs.Prelude.{⊤}
use Rattle.sqlite_ast.specs.declared.Select.{Select as Written}
use Rattle.sqlite_ast.specs.declared.Statement.{Statement}
use Rattle.sqlite_ast.specs.declared.Statement.TheVariants as written
use Rattle.sqlite_syntax.specs.declared.statement.Parsed.{Parsed}
use Rattle.sqlite_resolve.specs.Lowering.{Checked, and_then}
use Rattle.sqlite_resolve.specs.Compile.{command, compiled, first, meaning, planned, read, returning, small, timed}
use Rattle.sqlite_resolve.specs.Program.{program, query}
use Rattle.sqlite_resolve.specs.declared.compiled.Compiled.{Compiled}
use Rattle.sqlite_resolve.specs.declared.error.CompileError.TheVariants.{NoSuchTable}
use Rattle.sqlite_schema.specs.declared.command.Command.{Command}
use Rattle.sqlite_schema.specs.declared.command.Command.TheVariants.{Select}
use Rattle.sqlite_schema.specs.declared.command.Returning.{Returning}
use Rattle.sqlite_schema.specs.declared.program.Program.{Program}
use Rattle.sqlite_schema.specs.declared.schema.Schema.{Schema}
use Rattle.sqlite_trees.specs.declared.error.StoreError.{StoreError}
use Rattle.sqlite_trees.specs.declared.error.StoreError.TheVariants as store
use Rattle.sqlite_disk.specs.Disk.{MoreFaults}
use Rattle.sqlite.specs.Effect.{Database, RefusesToRead}
use Rattle.sqlite.specs.Listing.{if_select, is_select, listing_schema, reads_listing, understood}
use Rattle.sqlite.specs.Order.{Row}
use Rattle.sqlite.specs.State.{State, CommitsShowing, FailsToQuery, FailsToShow, HasCause, IsNotRun, Survives, store_error}
use Rattle.sqlite.specs.State.{IsRolledBack, IsStatement, IsUnchanged, Shown, ShowsRows}
use Rattle.sqlite.specs.Tree.{Trees}
use Rattle.sqlite.specs.declared.error.Error.{Error}
use Rattle.sqlite.specs.declared.error.Error.TheVariants.{InvalidParameterCount, MultipleStatement, SqliteFailure}
use Rattle.sqlite.specs.declared.error.ErrorCode.TheVariants.{NoClock}
use Rattle.sqlite.proofs.StateLemmas.{survives_weaker}
use Rattle.plan_tables_opening.specs.Faults.{fault_for}
use Rattle.plan_tables_opening.specs.Queries.{IsQuery, IsReadAsQuery, IsReading}
use Rattle.plan_tables_opening.specs.declared.faults.OpenFault.TheVariants.{Device, Unopened}

-- what is found has the property
abbrev Finds : {A : Type 0} → (A → Type 0) → Checked A → Type 0
Finds P (Ok a) = P a
Finds P (Err e) = ⊤

any : {A : Type 0} (r : Checked A) → Finds (λ _. ⊤) r
any (Ok a) = tt
any (Err e) = tt

found : {A : Type 0} (P : A → Type 0) (r : Checked A) (a : A) → Finds P r → r ≡ Ok a → P a
found P r a h is = subst (Finds P) is h

then : {A B : Type 0} (Q : A → Type 0) (P : B → Type 0) (r : Checked A) (f : A → Checked B) → Finds Q r
    → ((a : A) → Q a → Finds P (f a)) → Finds P (and_then r f)
then Q P (Ok a) f h k = k a h
then Q P (Err e) f h k = tt

-- a command that reads
abbrev IsSelect : Command → Type 0
IsSelect c = (p : Program) × (names : List (List ℕ)) × (c ≡ Select p names)

-- a command that reads, and shows nothing beside
abbrev IsRead : Command × Option Returning → Type 0
IsRead found = (found.1 ≡ None) × IsSelect found.0

abbrev IsReadPlan : List (List ℕ) × (Command × Option Returning) → Type 0
IsReadPlan plan = IsRead plan.1

abbrev IsReadText : Compiled → Type 0
IsReadText c = (c.returning ≡ None) × IsSelect c.command

abbrev IsQueryText : Parsed → Type 0
IsQueryText p = IsQuery p.statement

reads : (schema : Schema) (s : Written) → Finds IsSelect (read schema s)
unfolding read
reads schema s = then (λ _. ⊤) IsSelect (query schema s) _ (any _) (λ q _.
    then (λ _. ⊤) IsSelect (program schema q.1 q.0.0) _ (any _) (λ p _. (p, q.0.1, refl)))

selects : (schema : Schema) (formats : List (List ℕ)) (base : ℕ) (s : Statement) → IsQuery s
    → Finds IsRead (and_then (returning schema base s) (λ shown. and_then (command schema formats base s)
    (λ c. Ok (c, shown))))
unfolding returning command
selects schema formats base (written.Select s) q =
    then IsSelect IsRead (read schema s) _ (reads schema s) (λ c h. (refl, h))
selects schema formats base _ q = absurd q

plans : (schema : Schema) (p : Parsed) → IsQuery p.statement → Finds IsReadPlan (planned schema p)
unfolding planned meaning
plans schema p q =
    let formats = timed schema p.formats p.statement in
    then IsRead IsReadPlan _ _ (selects schema p.formats (small p.names + small formats) p.statement q) (λ f h. h)

picked : (c : Compiled) (b : Bool) → IsReadText c → Finds IsReadText (cond b (Ok c) (Err NoSuchTable))
picked c true h = h
picked c false h = tt

listed : (r : Checked Compiled) → Finds IsReadText r → Finds IsReadText (if_select r)
listed (Ok c) h = picked c (is_select c.command) h
listed (Err e) h = tt

module _ (sql : List ℕ) (reading : IsReading sql) where
  reads_only : Finds IsQueryText (first sql)
  reads_only = go (first sql) reading
    where
      go : (r : Checked Parsed) → IsReadAsQuery r → Finds IsQueryText r
      go (Ok p) h = h
      go (Err e) h = tt

  compiles : (schema : Schema) → Finds IsReadText (compiled schema sql)
  unfolding compiled
  compiles schema = then IsQueryText IsReadText (first sql) _ reads_only
      (λ p q. then IsReadPlan IsReadText (planned schema p) _
      (plans schema p q) (λ plan h. h))

  -- whatever the tables are, the text reads, and does nothing else
  pub understands : (schema : Schema) → Finds IsReadText (understood schema sql)
  unfolding understood
  understands schema = go (reads_listing schema sql)
    where
      go : (b : Bool) → Finds IsReadText (cond b (if_select (compiled listing_schema sql)) (compiled schema sql))
      go true = listed (compiled listing_schema sql) (compiles listing_schema)
      go false = compiles schema

  -- it shows rows, and nothing beside
  pub shows_alone : (s : State) (c : Compiled) → IsStatement s sql [] c → c.returning ≡ None
  shows_alone s c it = (found IsReadText _ c (understands s.now.schema) it.is).0

  no_commit : (s : State) (db : Trees) → CommitsShowing sql [] s db → ⊥
  unfolding CommitsShowing
  no_commit s db h =
      let is = found IsReadText _ h.0 (understands s.now.schema) h.1.is in
      absurd (true≢false (sym (subst IsSome is.0 h.2)))

  pub commits_none : (old new : State) → Survives old new (CommitsShowing sql [] old) → Survives old new (λ _. ⊥)
  commits_none old new = survives_weaker old new _ _ (λ clean db h. no_commit old db h)

  module _ (old new : State) where
    -- what it shows changes nothing
    pub shown_same : (rows : List Row) → Shown sql [] old new rows → IsUnchanged old new
    unfolding Shown
    shown_same rows h =
        let is = found IsReadText _ h.0 (understands old.now.schema) h.1.is in
        (subst (ShowsRows old new sql h.0 _ rows) is.0 h.2).3

    module _ (e : Error) where
      -- what the reading itself is refused for is neither memory nor the device
      refuses : (c : Command) (db : Database) (params : Row) → IsSelect c → RefusesToRead old.step_limit c db params e
          → fault_for e Unopened ≡ Unopened
      refuses c db params is h = go (subst (λ c. RefusesToRead old.step_limit c db params e) is.2 h)
        where
          go : RefusesToRead old.step_limit (Select is.0 is.1) db params e → fault_for e Unopened ≡ Unopened
          go (inl k) = ap (λ x. fault_for x Unopened) k.0
          go (inr (inl k)) = ap (λ x. fault_for x Unopened) k.0
          go (inr (inr k)) = ap (λ x. fault_for x Unopened) k.0

      caused : (cause : StoreError) → e ≡ store_error cause → HasCause old new ⊥ cause → fault_for e Unopened ≡ Device
          → MoreFaults old.faults new.faults ⊎ (old.is_open ≡ false)
      caused store.OutOfMemory is h k = absurd cc
      caused store.Io is h k = inl h
      caused store.Corrupt is h k = inl h
      caused store.Full is h k = inl h
      caused store.Broken is h k = inr h
      caused store.Unstorable is h k = absurd h

      elsewhere : fault_for e Unopened ≡ Unopened → fault_for e Unopened ≡ Device → ⊥
      elsewhere h k = cc

      -- it fails for the device only where that failed meanwhile, or the connection was shut before
      pub failed_by_device : FailsToQuery sql [] old new e → fault_for e Unopened ≡ Device
          → MoreFaults old.faults new.faults ⊎ (old.is_open ≡ false)
      unfolding FailsToQuery IsNotRun
      failed_by_device (inl (inl (inl h, same))) k = absurd (elsewhere (ap (λ x. fault_for x Unopened) h.2) k)
      failed_by_device (inl (inl (inr h, same))) k = absurd (elsewhere (go h.2) k)
        where
          go : ((¬ (length sql ≤ h.0.tail)) × (e ≡ MultipleStatement)) ⊎ (((0 ≢ length h.0.names)
              × (e ≡ InvalidParameterCount 0 (length h.0.names))) ⊎ ((h.0.formats ≢ []) × (e ≡ SqliteFailure NoClock)))
              → fault_for e Unopened ≡ Unopened
          go (inl n) = ap (λ x. fault_for x Unopened) n.1
          go (inr (inl n)) = ap (λ x. fault_for x Unopened) n.1
          go (inr (inr n)) = ap (λ x. fault_for x Unopened) n.1
      failed_by_device (inl (inr h)) k = caused h.0 h.1 h.2 k
      failed_by_device (inr h) k =
          let is = found IsReadText _ h.0 (understands old.now.schema) h.1.is in
          let shown = subst (FailsToShow old new sql h.0 _ e) is.0 h.2 in
          absurd (elsewhere (refuses h.0.command shown.0 _ is.1 shown.2) k)

      -- where it fails, all stays, or it is undone that was not committed
      pub failed_same : FailsToQuery sql [] old new e → IsUnchanged old new ⊎ IsRolledBack old new
      unfolding FailsToQuery IsNotRun
      failed_same (inl (inl (h, same))) = inl same
      failed_same (inl (inr h)) = inr h.3
      failed_same (inr h) =
          let is = found IsReadText _ h.0 (understands old.now.schema) h.1.is in
          inl ((subst (FailsToShow old new sql h.0 _ e) is.0 h.2).3)

      pub other_cause : (cause : StoreError) → e ≡ store_error cause → HasCause old new ⊥ cause
          → fault_for e Unopened ≡ Unopened → ⊥
      other_cause store.OutOfMemory is h k = cc
      other_cause store.Io is h k = cc
      other_cause store.Corrupt is h k = cc
      other_cause store.Full is h k = cc
      other_cause store.Broken is h k = cc
      other_cause store.Unstorable is h k = h

      -- where it refuses, all stays
      pub refused_same : FailsToQuery sql [] old new e → fault_for e Unopened ≡ Unopened → IsUnchanged old new
      unfolding FailsToQuery IsNotRun
      refused_same (inl (inl (h, same))) k = same
      refused_same (inl (inr h)) k = absurd (other_cause h.0 h.1 h.2 k)
      refused_same (inr h) k =
          let is = found IsReadText _ h.0 (understands old.now.schema) h.1.is in
          (subst (FailsToShow old new sql h.0 _ e) is.0 h.2).3
