-- What a look-up fetches, and what it leaves.
use Rattle.std.specs.Prelude.{◌≡◌, ◌≢◌, false, Result, IfErr, IfOk, OnOk}
use Rattle.sqlite.specs.Held.{Held, state}
use Rattle.sqlite.specs.State.{HasCleanDisk, IsUnchanged, State, Survives}
use Rattle.sqlite.specs.Store.{Ghosts}
use Rattle.planner_machine.specs.Content.{Content}
use Rattle.planner_machine.specs.Sound.{IsSound}
use Rattle.plan_tables_schema.specs.Rows.{MayFail, StaysOrIsUndone, tables_of}
use Rattle.plan_tables_schema.specs.Schema.{HasTables}
use Rattle.plan_tables_content.specs.Content.{IsContentOf}
use Rattle.plan_tables_lookups.specs.declared.faults.TableFault.{TableFault}
use Rattle.plan_tables_lookups.specs.declared.faults.TableFault.TheVariants.{Memory, Malformed, Store}

-- why a fact was not fetched: memory was refused as a row was decoded, or a row is malformed, and nothing is changed;
-- or the query failed, for one of the four general errors
abbrev pub FailsFor : State → State → TableFault → Type 0
FailsFor old new Memory = IsUnchanged old new
FailsFor old new Malformed = IsUnchanged old new
FailsFor old new (Store e) = MayFail old new e

-- Over the tables of a plan that have a sound content, an Ok is what this has, and no row is malformed. Whatever they
-- have, an Ok changes nothing, it fails for lack of memory, for a malformed row or for one of the four general errors,
-- and at most what was not committed is undone; a crash finds what it found before.
pub record FindsFact {S T : Type 0} (g : Ghosts S) (old new : Held S) (result : Result T TableFault)
    (IsFound : Content → T → Type 0) : Type 0 where
  pub found : HasCleanDisk (state g new) → HasTables (state g old).now.schema → (c : Content)
      → IsContentOf (tables_of (state g old).now.trees) c → IsSound c → IfOk result (IsFound c)
  pub told : HasCleanDisk (state g new) → HasTables (state g old).now.schema → (c : Content)
      → IsContentOf (tables_of (state g old).now.trees) c → IsSound c → IfErr result (λ fault. fault ≢ Malformed)
  pub same : HasCleanDisk (state g new) → HasTables (state g old).now.schema
      → OnOk result (IsUnchanged (state g old) (state g new))
  pub fails : HasCleanDisk (state g new) → HasTables (state g old).now.schema
      → IfErr result (FailsFor (state g old) (state g new))
  pub leaves : HasCleanDisk (state g new) → HasTables (state g old).now.schema
      → StaysOrIsUndone (state g old) (state g new)
  pub mode : old.in_transaction ≡ false → new.in_transaction ≡ false
  pub survives : Survives (state g old) (state g new) (λ _. HasTables (state g old).now.schema → ⊥)
