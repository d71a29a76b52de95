-- Why something is not done whose look-up failed.
use Rattle.std.specs.Prelude.{◌≡◌, ◌⊎◌, false, Some}
use Rattle.sqlite.specs.Held.{Held, state}
use Rattle.sqlite.specs.State.{HasCleanDisk, IsUnchanged, Survives}
use Rattle.sqlite.specs.Store.{Ghosts}
use Rattle.sqlite.specs.declared.error.Error.{Error}
use Rattle.sqlite_disk.specs.Disk.{MoreFaults}
use Rattle.plan_store.specs.declared.stores.StoreFault.TheVariants.{Memory}
use Rattle.plan_tables_lookups.specs.declared.faults.TableFault.{TableFault}
use Rattle.plan_tables_lookups.specs.declared.faults.TableFault.TheVariants as lookup
use Rattle.plan_tables.specs.Causes.{fault_in}
use Rattle.plan_tables.specs.Kept.{StaysPut}
use Rattle.plan_tables.specs.declared.keeping.Unmade.{Unmade}
use Rattle.plan_tables.specs.declared.keeping.Unmade.TheVariants as unmade

-- The tables could not be asked. Only after want of memory is it asked whether the connection is open, which may stay
-- in doubt; all else is a failure of the device.
pub record IsCauseOf {S : Type 0} (g : Ghosts S) (old new : Held S) (error : Error) (why : Unmade) : Type 0 where
  pub exact : (why ≡ unmade.Device) ⊎ (fault_in error ≡ Some Memory)
  pub asked : HasCleanDisk (state g new) → why ≡ unmade.Memory → IsUnchanged (state g old) (state g new)
  pub shut : HasCleanDisk (state g new) → why ≡ unmade.Device
      → (fault_in error ≡ Some Memory → ⊥) ⊎ MoreFaults (state g old).faults (state g new).faults
      ⊎ ((state g old).is_open ≡ false)
  pub stays : HasCleanDisk (state g new) → StaysPut (state g old) (state g new)
  pub mode : old.in_transaction ≡ false → new.in_transaction ≡ false
  pub survives : Survives (state g old) (state g new) (λ _. ⊥)

-- want of memory, or a row that tells no fact, which the device is blamed for; nothing was asked of the connection
abbrev pub IsWhyOf : {S : Type 0} → Ghosts S → (old new : Held S) → TableFault → Unmade → Type 0
IsWhyOf g old new lookup.Memory why = (why ≡ unmade.Memory) × (new ≡ old)
IsWhyOf g old new lookup.Malformed why = (why ≡ unmade.Device) × (new ≡ old)
IsWhyOf g old new (lookup.Store error) why = IsCauseOf g old new error why
