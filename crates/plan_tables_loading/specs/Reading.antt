-- Reading a database.
use Rattle.std.specs.Prelude.{Bool, IsTrue}
use Rattle.sqlite.specs.State.{HasCleanDisk, IsUnchanged, State, Survives}
use Rattle.plan_tables_schema.specs.Rows.{StaysOrIsUndone}
use Rattle.plan_tables_schema.specs.Schema.{HasTables}

-- the database has the tables of the plan
unfoldable pub HasPlan : State → Type 0
HasPlan s = HasTables s.now.schema

-- a database of the plan is read: if the call succeeds, the database is as it was; if not, at most what was not
-- committed is undone; and a crash finds what it found before
pub record Looks (old new : State) (answers : Bool) : Type 0 where
  pub same : HasCleanDisk new → HasPlan old → IsTrue answers → IsUnchanged old new
  pub leaves : HasCleanDisk new → HasPlan old → StaysOrIsUndone old new
  pub survives : Survives old new (λ _. HasPlan old → ⊥)
