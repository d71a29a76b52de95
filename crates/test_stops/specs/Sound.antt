-- A store that a trial runs streams over.
use Rattle.sqlite.specs.Held.{state}
use Rattle.sqlite.specs.State.{HasCleanDisk}
use Rattle.sqlite.specs.Store.{Ghosts}
use Rattle.planner_machine.specs.Sound.{IsSound}
use Rattle.plan_store.specs.Contents.{content_of}
use Rattle.plan_tables.specs.Kept.{kept_in}
use Rattle.plan_tables.specs.declared.table_store.TableStore.{TableStore}

-- what the store keeps is sound, where its disk gave back what was written
abbrev pub KeepsSound : {S : Type 0} {g : Ghosts S} → TableStore S g → Type 0
KeepsSound {S} {g} store =
    HasCleanDisk (state g store.session.conn) → IsSound (kept_in (state g store.session.conn) (content_of store.lists))
