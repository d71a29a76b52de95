-- What a query finds, and what it leaves.
use Rattle.std.specs.Prelude.{◌≡◌, ℕ, false, pos, List, Result, IfErr, IfOk, OnOk}
use Rattle.std.specs.List.Sorted.{IsPermutation}
use Rattle.sqlite.specs.Held.{Held, state}
use Rattle.sqlite.specs.Order.{Row}
use Rattle.sqlite.specs.State.{HasCleanDisk, IsUnchanged, Survives}
use Rattle.sqlite.specs.Store.{Ghosts}
use Rattle.sqlite.specs.declared.error.Error.{Error}
use Rattle.sqlite.specs.declared.types.Value.{Value}
use Rattle.sqlite.specs.declared.types.Value.TheVariants.{Int}
use Rattle.plan_tables_lookups.specs.Looks.{question}
use Rattle.plan_tables_lookups.specs.Question.{asked_for}
use Rattle.plan_tables_lookups.specs.declared.looks.Look.{Look}
use Rattle.plan_tables_schema.specs.Rows.{MayFail, StaysOrIsUndone, Tables, tables_of}
use Rattle.plan_tables_schema.specs.Schema.{HasTables}

-- Over the tables of a plan an Ok is found there, and nothing is changed; it fails only for one of the four general
-- errors, and then all is as it was, or what was not committed is undone. A crash finds what it found before.
pub record Finds {S T : Type 0} (g : Ghosts S) (old new : Held S) (result : Result T Error)
    (IsFound : Tables → T → Type 0) : Type 0 where
  pub found : HasCleanDisk (state g new) → HasTables (state g old).now.schema
      → IfOk result (IsFound (tables_of (state g old).now.trees))
  pub same : HasCleanDisk (state g new) → HasTables (state g old).now.schema
      → OnOk result (IsUnchanged (state g old) (state g new))
  pub fails : HasCleanDisk (state g new) → HasTables (state g old).now.schema
      → IfErr result (MayFail (state g old) (state g new))
  pub leaves : HasCleanDisk (state g new) → HasTables (state g old).now.schema
      → StaysOrIsUndone (state g old) (state g new)
  pub mode : old.in_transaction ≡ false → new.in_transaction ≡ false
  pub survives : Survives (state g old) (state g new) (λ _. HasTables (state g old).now.schema → ⊥)

abbrev pub natural : ℕ → Value
natural n = Int (pos n)

-- exactly the rows that the query matches with these values, in some order
abbrev pub AreAll : Look → Row → Tables → List Row → Type 0
AreAll look asked all rows = IsPermutation (asked_for (question look) asked all) rows
