-- Why a database is not opened whose connection was dropped.
use Rattle.sqlite.specs.Held.{Held, state}
use Rattle.sqlite.specs.State.{HasCleanDisk}
use Rattle.sqlite.specs.Store.{Ghosts}
use Rattle.plan_tables_opening.specs.Opened.{HasRoom, IsUnmade}
use Rattle.plan_tables_opening.specs.declared.faults.OpenFault.{OpenFault}

-- if nothing was in the way of the tables, the connection as it was dropped says why it did not get them
abbrev pub IsUnmadeBy : {S : Type 0} → Ghosts S → Held S → OpenFault → Type 0
IsUnmadeBy {S} g conn fault = (left : Held S) × (HasCleanDisk (state g left) → HasRoom (state g conn)
    → IsUnmade (state g conn) (state g left) fault)
