-- Why a change is not made.
use Rattle.std.proofs.Common.{◌≡◌, ◌⊎◌, ◌∙◌, ℕ, Bool, List, [], false, inl, inr, ap, subst, sym, true≢false, arith, IsSome, IsTrue, None, Some, Result, Ok, Err}
use Rattle.std.proofs.Math.Logic.{∥∥₁_elim, ∥∥₁_map}
use Rattle.sqlite.specs.Order.{Row as Values}
use Rattle.std.specs.Prelude.{IfErr, IsErrAnd}
use Rattle.sqlite.specs.Effect.{Database}
use Rattle.sqlite.specs.State.{HasCause, HasCleanDisk, IsNoStatement, IsNotRun, IsRolledBack, IsUnchanged, State, Survives, store_error}
use Rattle.sqlite.specs.Tree.{Trees}
use Rattle.sqlite.specs.declared.error.Error.{Error}
use Rattle.sqlite_disk.specs.Disk.{MoreFaults}
use Rattle.sqlite_trees.specs.declared.error.StoreError.{StoreError}
use Rattle.sqlite_trees.specs.declared.error.StoreError.TheVariants.{OutOfMemory, Io, Corrupt, Full, Broken, Unstorable}
use Rattle.external_dependencies.specs.declared.pairs.Pair.{Pair}
use Rattle.planner_machine.specs.Content.{Content}
use Rattle.plan_store.specs.declared.stores.StoreFault.{StoreFault}
use Rattle.plan_store.specs.declared.stores.StoreFault.TheVariants.{Device, Memory}
use Rattle.plan_tables_opening.specs.Opened.{IsStored}
use Rattle.plan_tables_schema.specs.Rows.{MayFail, Tables, tables_of}
use Rattle.plan_tables_schema.specs.Schema.{HasOnlyKeyIndexes}
use Rattle.plan_tables_writing.specs.Accepted.{AcceptsChange}
use Rattle.plan_tables_writing.specs.declared.redefining.DefinitionMoves.{DefinitionMoves}
use Rattle.external_dependencies.specs.Pair.{pair_cmp}
use Rattle.external_dependencies.specs.Rising.{IsRising}
use Rattle.planner_machine.specs.Sound.{IsSound}
use Rattle.app_definitions.specs.declared.definitions.Definitions.{Definitions}
use Rattle.app_definitions.specs.declared.options.Options.{Options}
use Rattle.plan_store.specs.Changes.{Fits, after, redefined}
use Rattle.plan_store.specs.Redefining.{half_redefined}
use Rattle.plan_store.specs.Room.{with_definitions, with_pairs_of}
use Rattle.plan_store.specs.declared.changes.Change.{Change}
use Rattle.plan_store.specs.declared.changes.DefinitionChange.TheVariants.{AsBefore}
use Rattle.plan_tables.specs.Causes.{CountsOn, CanAccept, fault_in, HasFailed}
use Rattle.plan_tables.specs.Kept.{StaysPut}
use Rattle.plan_tables.specs.Accepted.{HasRoomFor, KeepsSchema}
use Rattle.plan_tables_constraints.specs.Accepted.{AreAccepted, FindsRoom, FittingIsAccepted}
use Rattle.plan_tables_writing.specs.Writing.{IsRepresentableChange}
use Rattle.plan_tables.proofs.BegunLemmas.{same_options}

-- ---- it is asked whether a connection is open

-- what SQL refuses is neither
refused : (s : State) (sql : List ℕ) (params : Values) (e : Error) → IsNoStatement s sql params e → fault_in e ≡ None
refused s sql params e (inl (fault, is, at)) = ap fault_in at
refused s sql params e (inr (c, is, inl (long, at))) = ap fault_in at
refused s sql params e (inr (c, is, inr (inl (given, at)))) = ap fault_in at
refused s sql params e (inr (c, is, inr (inr (formats, at)))) = ap fault_in at

module _ (old new : State) where
  neither : (cause : StoreError) → fault_in (store_error cause) ≡ None → HasCause old new ⊥ cause → ⊥
  neither OutOfMemory is has = cc is
  neither Io is has = cc is
  neither Corrupt is has = cc is
  neither Full is has = cc is
  neither Broken is has = cc is
  neither Unstorable is has = has

  pub device : (cause : StoreError) → fault_in (store_error cause) ≡ Some Device → HasCause old new ⊥ cause
      → MoreFaults old.faults new.faults ⊎ (old.is_open ≡ false)
  device OutOfMemory is has = absurd (let none : ⊥ = cc is in none)
  device Io is has = inl has
  device Corrupt is has = inl has
  device Full is has = inl has
  device Broken is has = inr has
  device Unstorable is has = absurd has

  pub asked_open : (sql : List ℕ) (e : Error) → IsNotRun old new sql [] e → fault_in e ≡ None → IsUnchanged old new
  unfolding IsNotRun
  asked_open sql e (inl (none, same)) is = same
  asked_open sql e (inr (cause, at, has, back, more)) is =
      absurd (neither cause (subst (λ x. fault_in x ≡ None) at is) has)

  pub asked_memory : (sql : List ℕ) (e : Error) → IsNotRun old new sql [] e → fault_in e ≡ Some Memory
      → IsRolledBack old new
  unfolding IsNotRun
  asked_memory sql e (inl (none, same)) is =
      absurd (let no : None ≡ Some Memory = sym (refused old sql [] e none) ∙ is in let h : ⊥ = cc no in h)
  asked_memory sql e (inr (cause, at, has, back, more)) is = back

  pub asked_puts : (sql : List ℕ) (e : Error) → IsNotRun old new sql [] e → StaysPut old new
  unfolding IsNotRun
  asked_puts sql e (inl (none, same)) opens = (same.0.was_open, inl same.0.now_is, same.0.committed_is)
  asked_puts sql e (inr (cause, at, has, back, more)) opens =
      let undone = back.undone opens in (back.was_open opens, inr undone.0, undone.1)

  pub asked_shut : (sql : List ℕ) (e : Error) → IsNotRun old new sql [] e → fault_in e ≡ Some Device
      → MoreFaults old.faults new.faults ⊎ (old.is_open ≡ false)
  unfolding IsNotRun
  asked_shut sql e (inl (none, same)) is =
      absurd (let no : None ≡ Some Device = sym (refused old sql [] e none) ∙ is in let h : ⊥ = cc no in h)
  asked_shut sql e (inr (cause, at, has, back, more)) is =
      device cause (subst (λ x. fault_in x ≡ Some Device) at is) has

-- ---- what is kept

-- a doubt that is not there asks nothing
pub certain : {A B O C : Type 0} (doubt : Bool) → doubt ≡ false → ∥ (A → B → (IsTrue doubt → O) → C) ∥₁
    → ∥ (A → B → C) ∥₁
certain doubt sure h = ∥∥₁_map h (λ f a b. f a b (λ is. absurd (true≢false (sym is ∙ sure))))

-- ---- why a change is not made

-- of a call that fails for the common causes alone, the device is told only where it failed, or a limit on steps is set
pub failed_so : (old mid new : State) (e : Error) (P Q : Trees → Type 0) → IsTrue old.is_open → HasCleanDisk mid
    → Survives old mid P → Survives mid new Q → MayFail old mid e
    → (fault_in e ≡ Some Memory → ⊥) ⊎ MoreFaults mid.faults new.faults ⊎ (mid.is_open ≡ false) → HasFailed old new
failed_so old mid new e P Q opens calm one two (inr h) why = inr h.1
failed_so old mid new e P Q opens calm one two (inl (cause, is, has)) why = go cause is has
  where
    later : MoreFaults old.faults mid.faults → MoreFaults old.faults new.faults
    later more = omega (arith, two.counts, more)

    asked : (fault_in e ≡ Some Memory → ⊥) ⊎ MoreFaults mid.faults new.faults ⊎ (mid.is_open ≡ false)
        → fault_in e ≡ Some Memory → MoreFaults old.faults new.faults
    asked (inl other) is = absurd (other is)
    asked (inr (inl more)) is = omega (arith, one.counts, more)
    asked (inr (inr shut)) is = elim (one.closes calm opens) [
      | inl still ↦ absurd (true≢false (sym still ∙ shut))
      | inr more ↦ later more
    ]

    go : (cause : StoreError) → e ≡ store_error cause → HasCause old mid ⊥ cause → HasFailed old new
    go OutOfMemory is has = inl (asked why (ap fault_in is))
    go Io is has = inl (later has)
    go Corrupt is has = inl (later has)
    go Full is has = inl (later has)
    go Broken is has = absurd (true≢false (sym opens ∙ has))
    go Unstorable is has = absurd has

-- of the definitions the tables look at the options alone
takes_alike : (c : Content) (a b : Definitions) (moves : DefinitionMoves) (change : Change) (all : Tables)
    → a.options ≡ b.options
    → AcceptsChange (with_definitions a c) moves change all → AcceptsChange (with_definitions b c) moves change all
takes_alike c a b moves change all same =
    subst (λ (o : Options). AcceptsChange (with_definitions (record a { options = o }) c) moves change all) same

-- so it is of what is left of the change, once the definitions are changed and the pairs are out of the lists
pub taken_rest : (c : Content) (change : Change) (moves : DefinitionMoves) (left : Change)
    → left ≡ record change { definitions = AsBefore } → (d : Content) (pairs : List Pair)
    → d ≡ with_definitions (half_redefined change.definitions c.definitions) (with_pairs_of [] c) → pairs ≡ c.pairs
    → (all : Tables)
    → AcceptsChange (with_definitions (redefined change.definitions c.definitions) c) moves change all
    → AcceptsChange (with_pairs_of pairs d) moves left all
taken_rest c change moves left is_rest d pairs is out all accepts =
    subst (λ (k : Change). AcceptsChange (with_pairs_of pairs d) moves k all) (sym is_rest)
    (subst (λ (k : Content). AcceptsChange k moves (record change { definitions = AsBefore }) all)
    (sym (λ i. with_pairs_of (out i) (is i)))
    (takes_alike c (redefined change.definitions c.definitions) (half_redefined change.definitions c.definitions)
    moves (record change { definitions = AsBefore }) all (sym (same_options change.definitions c.definitions)) accepts))

-- ---- a store that asks before it changes

pub can_still : (old mid : State) (c d : Content) (change : Change) → mid.now ≡ old.now → d ≡ c → CanAccept old c change
    → CanAccept mid d change
can_still old mid c d change now is can =
    subst (λ (k : Content). CanAccept mid k change) (sym is)
    (subst (λ (db : Database). HasOnlyKeyIndexes db.schema × AreAccepted c change (tables_of db.trees)) (sym now) can)

-- why it failed since it was asked is why it failed since before
pub caused_since : {T : Type 0} (r : Result T StoreFault) (old mid new : State) → CountsOn old mid
    → IfErr r (λ fault. fault ≡ Device → ∥ HasFailed mid new ∥₁)
    → IfErr r (λ fault. fault ≡ Device → ∥ HasFailed old new ⊎ (old.is_open ≡ false) ∥₁)
caused_since (Ok v) old mid new on h = tt
caused_since (Err fault) old mid new on h = λ is. ∥∥₁_map (h is) since
  where
    since : HasFailed mid new → HasFailed old new ⊎ (old.is_open ≡ false)
    since (inl more) = inl (inl (omega (arith, on.counts, more)))
    since (inr limit) = inl (inr (subst IsSome on.limit limit))

-- a connection that was found shut, or whose device failed as it was asked
pub shut_so : (old new : State) → MoreFaults old.faults new.faults ⊎ (old.is_open ≡ false)
    → ∥ HasFailed old new ⊎ (old.is_open ≡ false) ∥₁
shut_so old new (inl more) = ∣ (inl (inl more)) ∣₁
shut_so old new (inr shut) = ∣ (inr shut) ∣₁

pub counts_on : (old new : State) {P : Trees → Type 0} → Survives old new P → CountsOn old new
counts_on old new survives = record { counts = survives.counts; limit = survives.limit }

pub counts_then : (old mid new : State) → CountsOn old mid → CountsOn mid new → CountsOn old new
counts_then old mid new one two = record { counts = omega (arith, one.counts, two.counts); limit = two.limit ∙ one.limit }

-- what holds merely of an error is merely so
pub merely_err : {T : Type 0} (X : Type 0) (r : Result T StoreFault) → ∥ (IfErr r (λ fault. fault ≡ Device → ∥ X ∥₁)) ∥₁
    → IfErr r (λ fault. fault ≡ Device → ∥ X ∥₁)
merely_err X (Ok v) h = tt
merely_err X (Err fault) h = λ is. ∥∥₁_elim h squash₁ (λ k. k is)

-- where the device is never told
pub never_told : {T : Type 0} (P : Type 0) (r : Result T StoreFault) (e : StoreFault) → IsErrAnd r (λ told. told ≡ e)
    → (e ≡ Device → ⊥) → IfErr r (λ fault. fault ≡ Device → P)
never_told P (Ok v) e is h = tt
never_told P (Err told) e is h = λ device. absurd (h (sym is ∙ device))

-- what is told is why the schema stays, where memory is short
pub told_kept : {T : Type 0} (r : Result T StoreFault) (e : StoreFault) (old new : State) → IsErrAnd r (λ told. told ≡ e)
    → (e ≡ Memory → HasCleanDisk new → IsTrue new.is_open → ∥ new.now.schema ≡ old.now.schema ∥₁)
    → KeepsSchema old new r
told_kept (Ok v) e old new is h = absurd is
told_kept (Err told) e old new is h = λ memory. h (sym is ∙ memory)

-- a count that stays, since it stayed before
pub steady_since : {T : Type 0} (r : Result T StoreFault) (a b d : ℕ) → IfErr r (λ fault. fault ≡ Memory → a ≡ b)
    → b ≡ d → IfErr r (λ fault. fault ≡ Memory → a ≡ d)
steady_since (Ok v) a b d h is = tt
steady_since (Err e) a b d h is = λ memory. h memory ∙ is

-- ---- tables with room

pub room_still : (old mid : State) (change : Change) → mid.now ≡ old.now → HasRoomFor old change → HasRoomFor mid change
room_still old mid change now room = subst (λ (db : Database). HasOnlyKeyIndexes db.schema
    × FindsRoom change (tables_of db.trees)) (sym now) room

-- tables of a content that have room for a change take it
pub room_takes : FittingIsAccepted → (s : State) (c : Content) (change : Change) → IsStored s c → Fits change c
    → IsSound (after change c) → IsRepresentableChange change → IsRising pair_cmp change.pairs.added → HasRoomFor s change
    → CanAccept s c change
room_takes taken s c change stored fits sound told rising room = (
  room.0,
  taken (tables_of s.now.trees) c change stored.content fits sound told rising room.1,
)
