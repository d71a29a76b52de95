-- What opening a database returns, by what is there: the tables of a plan, room for them, or neither.
use Rattle.std.specs.Prelude.{◌≡◌, ◌⊎◌}
use Rattle.sqlite.specs.State.{HasCleanDisk, State}
use Rattle.planner_machine.specs.Content.{Content, nothing_known}
use Rattle.planner_machine.specs.Sound.{IsSound}
use Rattle.plan_tables_schema.specs.Schema.{HasOnlyKeyIndexes}
use Rattle.plan_tables_loading.specs.Reading.{HasPlan}
use Rattle.plan_tables_opening.specs.First.{IsBeside}
use Rattle.plan_tables_opening.specs.Foreign.{IsForeign}
use Rattle.plan_tables_opening.specs.Held.{HasVersion, HoldsPlan}
use Rattle.plan_tables_opening.specs.Kept.{IsUntouched}
use Rattle.plan_tables_opening.specs.Opened.{HasRoom, IsCaused, IsStored, IsToldBy, IsUnmade}
use Rattle.plan_tables_opening.specs.declared.faults.OpenFault.{OpenFault}
use Rattle.plan_tables_opening.specs.declared.faults.OpenFault.TheVariants.{Memory, Rows, Unopened}
use Rattle.plan_tables_opening.specs.declared.schemas.Found.{Found}
use Rattle.plan_tables_opening.specs.declared.schemas.Found.TheVariants.{Plan, Room, Others}

-- it has not the tables of a plan, and something is in their way
abbrev pub HasOthers : State → Type 0
HasOthers s = (HasPlan s → ⊥) × (HasRoom s → ⊥)

-- this is in the database
abbrev pub IsFound : State → Found → Type 0
IsFound s Plan = HasPlan s
IsFound s Room = HasRoom s
IsFound s Others = HasOthers s

-- the database keeps a sound content, which it had before; if it had room for the tables of a plan, nothing is known,
-- and they are added to the others, which keep their rows, with the indexes of their keys and no other
pub record IsOpened (old new : State) (c : Content) : Type 0 where
  pub sound : IsSound c
  pub stored : HasCleanDisk new → IsStored new c
  pub told : HasCleanDisk new → IsToldBy old.now c
  pub empty : HasRoom old → c ≡ nothing_known
  pub beside : HasCleanDisk new → HasRoom old → IsBeside old.now new.now
  pub own : HasCleanDisk new → HasRoom old → HasOnlyKeyIndexes new.now.schema

-- why a database that has the tables of a plan is not opened: for its rows only where its version is known and they
-- have no sound content, and for its version only where that is not known
pub record IsUnread (old new : State) (fault : OpenFault) : Type 0 where
  pub caused : IsCaused old new fault
  pub rows : fault ≡ Rows → HasVersion old × (HoldsPlan old → ⊥)
  pub version : fault ≡ Unopened → HasVersion old → ⊥

-- why a database is not opened: memory is refused before it is read, or by what is there
abbrev pub IsUnopened : State → State → OpenFault → Type 0
IsUnopened old new fault = ((fault ≡ Memory) × IsUntouched old new)
    ⊎ (HasPlan old × IsUnread old new fault)
    ⊎ (HasRoom old × IsUnmade old new fault)
    ⊎ (HasOthers old × IsForeign old new fault)
