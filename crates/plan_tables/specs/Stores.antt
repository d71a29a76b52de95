-- What the steps of a store over tables do.
use Rattle.std.specs.Prelude.{◌≡◌, ◌⊎◌, ◌≤◌, false, IsTrue, IfErr, OnErr, OnOk, Result}
use Rattle.sqlite.specs.Held.{state}
use Rattle.sqlite.specs.State.{HasCleanDisk, State}
use Rattle.sqlite.specs.Store.{Ghosts}
use Rattle.planner_machine.specs.Content.{Content}
use Rattle.plan_store.specs.Changes.{after}
use Rattle.plan_store.specs.Contents.{content_of}
use Rattle.plan_store.specs.Faults.{MoreFailures}
use Rattle.plan_store.specs.declared.changes.Change.{Change}
use Rattle.plan_store.specs.declared.stores.PlanStore.{Ghosts as Behaviour}
use Rattle.plan_store.specs.declared.stores.StoreFault.{StoreFault}
use Rattle.plan_store.specs.declared.stores.StoreFault.TheVariants.{Device, Memory}
use Rattle.plan_tables_schema.specs.Rows.{tables_of}
use Rattle.plan_tables_windows.specs.Fetching.{told_rest}
use Rattle.plan_tables.specs.Accepted.{HasRoomFor, KeepsSchema}
use Rattle.plan_tables.specs.Applied.{ReadsBy}
use Rattle.plan_tables.specs.Causes.{CanAccept, CountsOn, HasFailed}
use Rattle.plan_tables.specs.Kept.{CanRead, kept_in}
use Rattle.plan_tables.specs.Session.{IsWhole}
use Rattle.plan_tables.specs.Sought.{IsFoundFor}
use Rattle.plan_tables.specs.Stored.{MayLeave}
use Rattle.plan_tables.specs.declared.seeking.Sought.{Sought}
use Rattle.plan_tables.specs.declared.table_store.TableStore.{TableStore}

-- what the connection of a store sees
abbrev pub state_of : {S : Type 0} {g : Ghosts S} → TableStore S g → State
state_of {g = g} store = state g store.session.conn

-- what the store keeps, in its tables and its lists
abbrev pub kept_by : {S : Type 0} {g : Ghosts S} → TableStore S g → Content
kept_by store = kept_in (state_of store) (content_of store.lists)

-- A store that fetches what is sought. It is read, and an Ok has what was sought over an open connection that sees
-- what it saw; an Ok and a want of memory keep the schema.
pub record MakesReady {S : Type 0} {g : Ghosts S} (behaviour : Behaviour (TableStore S g)) (old new : TableStore S g)
    (sought : Sought) (result : Result (Unit {0}) StoreFault) : Type 0 where
  pub reads : ReadsBy behaviour old new result
      (λ _. IsFoundFor sought (told_rest (tables_of (state_of new).now.trees)) (content_of new.lists))
  pub whole : OnOk result (IsWhole new.session)
  pub same : HasCleanDisk (state_of new) → OnOk result (∥ (state_of new).now ≡ (state_of old).now ∥₁)
  pub schema : KeepsSchema (state_of old) (state_of new) result
  pub counted : CountsOn (state_of old) (state_of new)

-- A store that makes a change, all of it or nothing. After an Ok it keeps the changed content, and a crash leaves
-- nothing else; after an error it keeps what it kept. The device is blamed only where it failed, or where the tables
-- don't accept the change.
pub record Commits {S : Type 0} {g : Ghosts S} (old new : TableStore S g) (change : Change)
    (result : Result (Unit {0}) StoreFault) : Type 0 where
  pub done : HasCleanDisk (state_of new) → OnOk result (kept_by new ≡ after change (kept_by old))
  pub same : CanRead (state_of new) → OnErr result (kept_by new ≡ kept_by old)
  pub settled : HasCleanDisk (state_of new) → OnOk result ((c : Content) → MayLeave (state_of new) c → c ≡ kept_by new)
  pub crash : HasCleanDisk (state_of new) → (c : Content) → MayLeave (state_of new) c
      → MayLeave (state_of old) c ⊎ (c ≡ after change (kept_by old))
  pub clean : HasCleanDisk (state_of new) → HasCleanDisk (state_of old)
  pub was_open : HasCleanDisk (state_of new) → IsTrue (state_of old).is_open
  pub opens : HasCleanDisk (state_of new) → OnOk result (IsTrue (state_of new).is_open)
  pub memory : HasCleanDisk (state_of new) → IfErr result (λ fault. fault ≡ Memory → new.session.in_doubt ≡ false
      → IsTrue (state_of new).is_open)
  pub blames : IfErr result (λ fault. fault ≡ Device → MoreFailures old.session.failures new.session.failures)
  pub counts : old.session.failures ≤ new.session.failures
  pub steady : IfErr result (λ fault. fault ≡ Memory → new.session.failures ≡ old.session.failures)
  pub whole : OnOk result (IsWhole new.session)
  pub caused : HasCleanDisk (state_of new) → CanAccept (state_of old) (kept_by old) change
      → IfErr result (λ fault. fault ≡ Device → ∥ HasFailed (state_of old) (state_of new) ∥₁)
  pub taken : HasCleanDisk (state_of new) → HasRoomFor (state_of old) change
      → IfErr result (λ fault. fault ≡ Device → ∥ HasFailed (state_of old) (state_of new) ∥₁)
  pub schema : KeepsSchema (state_of old) (state_of new) result
