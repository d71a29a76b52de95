-- What statements on a transaction do to the tables of a plan.
use Rattle.std.specs.Prelude.{◌≡◌, false, Result, IfErr, OnErr, OnOk, IsTrue, ⊤}
use Rattle.sqlite.specs.Effect.{Database}
use Rattle.sqlite.specs.Held.{Held, state}
use Rattle.sqlite.specs.State.{HasCleanDisk, KeepsCommit, State, Survives}
use Rattle.sqlite.specs.Store.{Ghosts}
use Rattle.sqlite.specs.Tree.{Trees}
use Rattle.sqlite.specs.declared.error.Error.{Error}
use Rattle.sqlite.specs.declared.transaction.Transaction.{Transaction}
use Rattle.plan_tables_schema.specs.Rows.{IsPlan, MayFail, Stands, Tables, tables_of}
use Rattle.plan_tables_schema.specs.Accepted.{IsSoundPlan}

-- the state of its connection
abbrev pub seen : {S : Type 0} → Ghosts S → Transaction S → State
seen g tx = state g tx.conn.now

-- if the tables of a plan fit, an Ok leaves these in their place; nothing is committed
pub record WritesWhere {S T : Type 0} (Fit : Tables → Type 0) (g : Ghosts S) (old new : Transaction S)
    (result : Result T Error) (after : Tables → Tables) : Type 0 where
  pub same_reference : new.conn.ghost_name ≡ old.conn.ghost_name
  pub ok : HasCleanDisk (seen g new) → IsPlan (seen g old) → IsTrue (seen g old).in_transaction
      → Fit (tables_of (seen g old).now.trees)
      → OnOk result (Stands (seen g old) (seen g new) (after (tables_of (seen g old).now.trees)))
  pub kept : HasCleanDisk (seen g new) → KeepsCommit (seen g old) (seen g new)
  pub survives : Survives (seen g old) (seen g new) (λ _. ⊥)

-- the same of whatever tables
abbrev pub Writes : {S T : Type 0} → Ghosts S → (old new : Transaction S) → Result T Error
    → (Tables → Tables) → Type 0
Writes g old new result after = WritesWhere (λ _. ⊤) g old new result after

-- if the tables of a plan accept it, it fails for nothing that is in them, and an Ok leaves a plan with these
pub record AcceptsWhere {S T : Type 0} (Take : Tables → Type 0) (g : Ghosts S) (old new : Transaction S)
    (result : Result T Error) (after : Tables → Tables) : Type 0 where
  pub fails : HasCleanDisk (seen g new) → IsSoundPlan (seen g old) → Take (tables_of (seen g old).now.trees)
      → IfErr result (MayFail (seen g old) (seen g new))
  pub sound : HasCleanDisk (seen g new) → IsSoundPlan (seen g old) → Take (tables_of (seen g old).now.trees)
      → OnOk result (IsSoundPlan (seen g new) × (IsTrue (seen g old).is_open → IsTrue (seen g new).is_open)
      × (tables_of (seen g new).now.trees ≡ after (tables_of (seen g old).now.trees)))

-- From such a state, whatever the transaction began with, an Ok makes one of those; it fails only so, and nothing is
-- committed.
pub record Turns {S T : Type 0} (g : Ghosts S) (old new : Transaction S) (result : Result T Error)
    (Before After : Database → State → Type 0) (Fails : Database → State → State → Error → Type 0) : Type 0 where
  pub same_reference : new.conn.ghost_name ≡ old.conn.ghost_name
  pub ok : HasCleanDisk (seen g new) → (base : Database) → Before base (seen g old)
      → OnOk result (After base (seen g new))
  pub fails : HasCleanDisk (seen g new) → (base : Database) → Before base (seen g old)
      → IfErr result (Fails base (seen g old) (seen g new))
  pub stays_open : HasCleanDisk (seen g new) → (base : Database) → Before base (seen g old)
      → OnOk result (IsTrue (seen g new).is_open)
  pub kept : HasCleanDisk (seen g new) → KeepsCommit (seen g old) (seen g new)
  pub survives : Survives (seen g old) (seen g new) (λ _. ⊥)

-- the same if it fails for nothing that is in the tables
abbrev pub Makes : {S T : Type 0} → Ghosts S → (old new : Transaction S) → Result T Error
    → (Before After : Database → State → Type 0) → Type 0
Makes g old new result Before After = Turns g old new result Before After (λ _. MayFail)

-- In a transaction of its own: from a state that fits, an Ok makes such a one, and commits it; it fails only so, and
-- then all is as it was. A crash leaves the database as it was, or as the commit makes it.
pub record Commits {S T : Type 0} (g : Ghosts S) (old new : Held S) (result : Result T Error) (Fits : State → Type 0)
    (Leaves : State → State → Type 0) (Fails : State → State → Error → Type 0) (Left : State → Trees → Type 0)
    : Type 0 where
  pub done : HasCleanDisk (state g new) → Fits (state g old) → OnOk result (Leaves (state g old) (state g new))
  pub committed : HasCleanDisk (state g new) → OnOk result ((state g new).committed ≡ (state g new).now)
  pub kept : HasCleanDisk (state g new) → Fits (state g old) → IsTrue (state g new).is_open
      → OnErr result (((state g new).now ≡ (state g old).now) × ((state g new).committed ≡ (state g old).committed))
  pub fails : HasCleanDisk (state g new) → Fits (state g old) → IfErr result (Fails (state g old) (state g new))
  pub ended : new.in_transaction ≡ false
  pub stays_open : HasCleanDisk (state g new) → OnOk result (IsTrue (state g new).is_open)
  pub crash : Survives (state g old) (state g new) (λ db. Fits (state g old) → Left (state g old) db)
