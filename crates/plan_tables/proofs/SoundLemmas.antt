-- What a store keeps that can be read is sound.
use Rattle.std.proofs.Common.{subst, sym}
use Rattle.std.proofs.Math.Logic.{∥∥₁_map}
use Rattle.sqlite.specs.State.{State}
use Rattle.sqlite.specs.Store.{Ghosts}
use Rattle.planner_machine.specs.Content.{Content}
use Rattle.planner_machine.specs.Sound.{AreNumbered, IsSound}
use Rattle.app_definition_soundness.proofs.SoundAgain.{sound_again}
use Rattle.plan_tables.specs.Kept.{CanRead, KeepsSound, LooksOn}
use Rattle.plan_tables.specs.Stores.{kept_by, state_of}
use Rattle.plan_tables.specs.declared.table_store.TableStore.{TableStore}

-- so it stays where the store looks on
pub sound_on : (old new : State) (was now : Content) → LooksOn old new was now → KeepsSound old was → KeepsSound new now
sound_on old new was now looks sound = ∥∥₁_map sound (λ h can.
    subst IsSound (sym (looks.same can)) (h (looks.clean can.0, looks.opens can.0 can.1)))

pub kept_sound : {S : Type 0} {g : Ghosts S} (store : TableStore S g) → CanRead (state_of store) → IsSound (kept_by store)
kept_sound store can = sound_again (kept_by store) (∥∥₁_map store.sound (λ held. held can))

pub kept_numbered : {S : Type 0} {g : Ghosts S} (store : TableStore S g) → CanRead (state_of store)
    → AreNumbered (kept_by store).sets
kept_numbered store can = (kept_sound store can).serials
