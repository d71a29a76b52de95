-- What rows encode.
use Rattle.std.specs.Prelude.{◌≡◌, false, List, [], Contains, Option, Some, None, Result, Ok, Err, IfErr, IfOk, OnOk}
use Rattle.std.specs.Prelude.{Vec}
use Rattle.std.specs.declared.alloc.Global.{Global}
use Rattle.sqlite.specs.Held.{Held, state}
use Rattle.sqlite.specs.Order.{Row}
use Rattle.sqlite.specs.State.{HasCleanDisk, IsUnchanged, Survives}
use Rattle.sqlite.specs.Store.{Ghosts}
use Rattle.sqlite.specs.declared.error.Error.{Error}
use Rattle.plan_tables_schema.specs.Rows.{StaysOrIsUndone, Tables, tables_of}
use Rattle.plan_tables_schema.specs.Schema.{HasTables}
use Rattle.plan_tables_queries.specs.Finding.{FailsFor}
use Rattle.plan_tables_lookups.specs.declared.faults.TableFault.{TableFault}
use Rattle.plan_tables_lookups.specs.declared.faults.TableFault.TheVariants.{Memory, Malformed, Store}

-- what the row that was found encodes, or why nothing is decoded: no fact has its values, or memory was refused
abbrev pub told_by : {X E : Type 0} → Result (Option X) E → Result X TableFault
told_by (Ok (Some x)) = Ok x
told_by (Ok None) = Err Malformed
told_by (Err e) = Err Memory

-- one of the rows has the values of the fact; or there is no row
abbrev pub TellsFirst : {X : Type 0} → (X → Row) → List Row → Option X → Type 0
TellsFirst values_of rows None = rows ≡ []
TellsFirst values_of rows (Some x) = Contains rows (values_of x)

-- the row has the values of nothing that has its form; or memory was refused
abbrev pub TellsNone : {X : Type 0} → (X → Type 0) → (X → Row) → Row → TableFault → Type 0
TellsNone Is values_of row Memory = Unit {0}
TellsNone {X} Is values_of row Malformed = (x : X) → Is x → values_of x ≡ row → ⊥
TellsNone Is values_of row (Store e) = ⊥

-- one of the rows has the values of nothing that has its form
abbrev pub HasMalformed : {X : Type 0} → (X → Type 0) → (X → Row) → List Row → Type 0
HasMalformed {X} Is values_of rows = (row : Row) × Contains rows row × ((x : X) → Is x → values_of x ≡ row → ⊥)

-- that is so; or memory was refused
abbrev pub TellsNot : {X : Type 0} → (X → Type 0) → (X → Row) → List Row → TableFault → Type 0
TellsNot Is values_of rows Memory = Unit {0}
TellsNot Is values_of rows Malformed = HasMalformed Is values_of rows
TellsNot Is values_of rows (Store e) = ⊥

-- the first of the rows that were found encodes it, or doesn't; or none could be found, for the same cause
abbrev pub TellsFound : {X : Type 0} → (X → Type 0) → (X → Row) → Result (Vec Row Global) Error
    → Result (Option X) TableFault → Type 0
TellsFound Is values_of (Ok rows) (Ok found) = TellsFirst values_of rows.items found
TellsFound Is values_of (Ok rows) (Err fault) = TellsNot Is values_of rows.items fault
TellsFound Is values_of (Err error) result = result ≡ Err (Store error)

-- Over the tables of a plan an Ok is what their rows encode, and if a row is malformed it is one of theirs. Whatever
-- they have, an Ok changes nothing, it fails for lack of memory, for a malformed row or for one of the four general
-- errors, and at most what was not committed is undone; a crash finds what it found before.
pub record TellsTables {S T : Type 0} (g : Ghosts S) (old new : Held S) (result : Result T TableFault)
    (IsTold : Tables → T → Type 0) (IsMalformed : Tables → Type 0) : Type 0 where
  pub told : HasCleanDisk (state g new) → HasTables (state g old).now.schema
      → IfOk result (IsTold (tables_of (state g old).now.trees))
  pub untold : HasCleanDisk (state g new) → HasTables (state g old).now.schema
      → IfErr result (λ fault. fault ≡ Malformed → IsMalformed (tables_of (state g old).now.trees))
  pub same : HasCleanDisk (state g new) → HasTables (state g old).now.schema
      → OnOk result (IsUnchanged (state g old) (state g new))
  pub fails : HasCleanDisk (state g new) → HasTables (state g old).now.schema
      → IfErr result (FailsFor (state g old) (state g new))
  pub leaves : HasCleanDisk (state g new) → HasTables (state g old).now.schema
      → StaysOrIsUndone (state g old) (state g new)
  pub mode : old.in_transaction ≡ false → new.in_transaction ≡ false
  pub survives : Survives (state g old) (state g new) (λ _. HasTables (state g old).now.schema → ⊥)
