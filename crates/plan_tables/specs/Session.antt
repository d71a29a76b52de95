-- What happens to a session: a connection, how often it failed, and whether it is known to be open.
use Rattle.std.specs.Prelude.{◌≡◌, ◌⊎◌, ℕ, ◌+◌, ◌-◌, ◌^◌, ◌<◌, ◌≤◌, min, Bool, false, true, IsTrue, Err, IfErr, None, Ok, OnOk}
use Rattle.std.specs.Prelude.{Option, Result, Some, ⊤}
use Rattle.sqlite.specs.Held.{Held, state}
use Rattle.sqlite.specs.State.{HasCleanDisk, Survives}
use Rattle.sqlite.specs.Store.{Ghosts}
use Rattle.sqlite_disk.specs.Disk.{MoreFaults}
use Rattle.planner_machine.specs.Content.{Content}
use Rattle.plan_store.specs.Faults.{MoreFailures}
use Rattle.plan_store.specs.declared.stores.StoreFault.{StoreFault}
use Rattle.plan_store.specs.declared.stores.StoreFault.TheVariants.{Device, Memory}
use Rattle.plan_tables_schema.specs.Schema.{HasTables}
use Rattle.plan_tables_lookups.specs.declared.faults.Stopped.{Stopped}
use Rattle.plan_tables_lookups.specs.declared.faults.Stopped.TheVariants.{Fault, Sink}
use Rattle.plan_tables.specs.Causes.{HasFailed}
use Rattle.plan_tables.specs.Kept.{IsKept, StaysPut}
use Rattle.plan_tables.specs.declared.keeping.Unmade.{Unmade}
use Rattle.plan_tables.specs.declared.keeping.Unmade.TheVariants as unmade
use Rattle.plan_tables.specs.declared.session.Session.{Session}

-- why something is not done, if it is not
abbrev pub why_in : {T : Type 0} → Result T Unmade → Option Unmade
why_in (Ok _) = None
why_in (Err why) = Some why

-- the same of a listing: what the sink refuses is no reason
abbrev pub why_at : {T : Type 0} → Result T (Stopped Unmade) → Option Unmade
why_at (Ok _) = None
why_at (Err Sink) = None
why_at (Err (Fault why)) = Some why

-- it leaves the connection open
abbrev pub LeavesOpen : Option Unmade → Type 0
LeavesOpen None = ⊤
LeavesOpen (Some unmade.Memory) = ⊤
LeavesOpen (Some unmade.Doubt) = ⊥
LeavesOpen (Some unmade.Device) = ⊥

-- Over a kept content nothing is changed in the tables; the connection is open after an Ok and after a want of memory,
-- and the device is blamed only where it failed. A crash finds what it found before.
pub record Asks {S : Type 0} (g : Ghosts S) (old new : Held S) (lists : Content) (why : Option Unmade) : Type 0 where
  pub stays : HasCleanDisk (state g new) → IsKept (state g old) lists → StaysPut (state g old) (state g new)
  pub opens : HasCleanDisk (state g new) → IsKept (state g old) lists → LeavesOpen why → IsTrue (state g new).is_open
  pub failed : HasCleanDisk (state g new) → IsKept (state g old) lists → why ≡ Some unmade.Device
      → HasFailed (state g old) (state g new)
  pub mode : old.in_transaction ≡ false → new.in_transaction ≡ false
  pub survives : Survives (state g old) (state g new) (λ _. HasTables (state g old).now.schema → ⊥)

-- the fault of a store
abbrev pub fault_of : Unmade → StoreFault
fault_of unmade.Memory = Memory
fault_of unmade.Doubt = Memory
fault_of unmade.Device = Device

-- a failure of the device is counted, up to the greatest number
abbrev pub failures_after : Option Unmade → ℕ → ℕ
failures_after None n = n
failures_after (Some unmade.Memory) n = n
failures_after (Some unmade.Doubt) n = n
failures_after (Some unmade.Device) n = min (n + 1) (2 ^ 64 - 1)

-- a doubt is kept
abbrev pub doubt_after : Option Unmade → Bool → Bool
doubt_after None b = b
doubt_after (Some unmade.Memory) b = b
doubt_after (Some unmade.Doubt) b = true
doubt_after (Some unmade.Device) b = b

-- a session before and after it was blamed for what is not done
pub record Blames {S : Type 0} {g : Ghosts S} (old new : Session S g) (why : Unmade) (told : StoreFault) : Type 0 where
  pub conn : new.conn ≡ old.conn
  pub failures : new.failures ≡ failures_after (Some why) old.failures
  pub in_doubt : new.in_doubt ≡ doubt_after (Some why) old.in_doubt
  pub fault : told ≡ fault_of why

-- nothing failed, and the connection is known to be open
abbrev pub IsWhole : {S : Type 0} {g : Ghosts S} → Session S g → Type 0
IsWhole session = (session.failures ≡ 0) × (session.in_doubt ≡ false)

-- the connection is open if it was in doubt, and it sees what it saw, which is committed as it was
pub record IsFine {S : Type 0} {g : Ghosts S} (old new : Session S g) : Type 0 where
  pub opens : IsTrue old.in_doubt → IsTrue (state g old.conn).is_open
  pub stays_open : IsTrue (state g old.conn).is_open → IsTrue (state g new.conn).is_open
  pub now : (state g new.conn).now ≡ (state g old.conn).now
  pub committed : (state g new.conn).committed ≡ (state g old.conn).committed

-- A session before and after it was checked. An Ok says that nothing failed and that the connection is known to be
-- open; for lack of memory that stays unknown; the device is blamed if it failed before, if it fails now, and if the
-- connection is shut.
pub record Checks {S : Type 0} (g : Ghosts S) (old new : Session S g) (result : Result (Unit {0}) StoreFault) : Type 0 where
  pub whole : OnOk result ((old.failures ≡ 0) × (new.failures ≡ 0) × (new.in_doubt ≡ false))
  pub fine : HasCleanDisk (state g new.conn) → OnOk result (IsFine old new)
  pub doubt : IfErr result (λ fault. fault ≡ Memory → (old.failures ≡ 0) × (new.failures ≡ 0) × (new.in_doubt ≡ true))
  pub blames : IfErr result (λ fault. fault ≡ Device → MoreFailures old.failures new.failures ⊎ (0 < old.failures))
  pub broken : 0 < old.failures → (result ≡ Err Device) × (new ≡ old)
  pub counts : old.failures ≤ new.failures
  pub shut : HasCleanDisk (state g new.conn) → old.failures ≡ 0 → IfErr result (λ fault. fault ≡ Device
      → MoreFaults (state g old.conn).faults (state g new.conn).faults ⊎ ((state g old.conn).is_open ≡ false))
  pub stays : HasCleanDisk (state g new.conn) → StaysPut (state g old.conn) (state g new.conn)
  pub survives : Survives (state g old.conn) (state g new.conn) (λ _. ⊥)

-- if nothing failed, what was read is what was written and the connection is open where it is in doubt, then the database
-- keeps the lists
abbrev pub Keeps : {S : Type 0} (g : Ghosts S) → Session S g → Content → Type 0
Keeps g session lists = ∥ (session.failures ≡ 0 → HasCleanDisk (state g session.conn)
    → (IsTrue session.in_doubt → IsTrue (state g session.conn).is_open) → IsKept (state g session.conn) lists) ∥₁
