-- What lists lack of history and of the deletions is fetched from the tables and loaded into them.
use Rattle.std.specs.Prelude.{◌≡◌, ◌≢◌, false, IsTrue, Result, IfErr, OnOk}
use Rattle.sqlite.specs.Held.{Held, state}
use Rattle.sqlite.specs.State.{HasCleanDisk, IsUnchanged, State, Survives}
use Rattle.sqlite.specs.Store.{Ghosts}
use Rattle.planner_machine.specs.Content.{Content}
use Rattle.planner_machine.specs.Sound.{IsSound}
use Rattle.plan_store.specs.Parts.{IsPartOf, Rest, with_rest}
use Rattle.plan_tables_windows.specs.Unknown.{HasMore}
use Rattle.plan_tables_schema.specs.Rows.{StaysOrIsUndone, Tables, tables_of}
use Rattle.plan_tables_schema.specs.Schema.{HasTables}
use Rattle.plan_tables_content.specs.Content.{IsContentOf}
use Rattle.plan_tables_content.specs.DecodedSets.{told_deletions, told_history, told_jobs}
use Rattle.plan_tables_queries.specs.Finding.{FailsFor}
use Rattle.plan_tables_lookups.specs.declared.faults.TableFault.{TableFault}
use Rattle.plan_tables_lookups.specs.declared.faults.TableFault.TheVariants.{Malformed}

-- what the tables encode apart from the lists
abbrev pub told_rest : Tables → Rest
told_rest all = record { history = told_history all; deletions = told_deletions all; jobs = told_jobs all }

-- those that a connection sees
abbrev pub rest_in : State → Rest
rest_in s = told_rest (tables_of s.now.trees)

-- the content of the lists, with the rest as the tables encode it
abbrev pub told_with : Tables → Content → Content
told_with all lists = with_rest (told_rest all) lists

-- the connection is over tables that have the content of the lists with the rest as they encode it, which is sound,
-- and of the rest the lists have a part
pub record AreOfTables (s : State) (lists : Content) : Type 0 where
  pub schema : HasTables s.now.schema
  pub content : IsContentOf (tables_of s.now.trees) (told_with (tables_of s.now.trees) lists)
  pub sound : IsSound (told_with (tables_of s.now.trees) lists)
  pub part : IsPartOf (rest_in s) lists

-- lists have what they had, and perhaps more of the rest; all else of them is as it was
pub record Grows (was now : Content) : Type 0 where
  pub more : (rest : Rest) → HasMore rest was now
  pub jobs : now.jobs ≡ was.jobs

-- A call that loads more into lists. They keep what they had, and all else of them stays. Over the tables of the lists
-- an Ok has what was sought, the lists still have a part of the rest, and no row was malformed. Over the tables of a
-- plan an Ok sees what was seen. If the connection was open, an Ok changes nothing, it fails for lack of memory, for a
-- malformed row or for one of the four general errors, and at most what was not committed is undone. A crash finds
-- what it found before.
pub record Fetches {S T : Type 0} (g : Ghosts S) (old new : Held S) (was now : Content) (result : Result T TableFault)
    (IsReady : Rest → Content → Type 0) : Type 0 where
  pub ready : HasCleanDisk (state g new) → ∥ AreOfTables (state g old) was ∥₁
      → OnOk result (IsReady (rest_in (state g old)) now)
  pub grows : Grows was now
  pub part : HasCleanDisk (state g new) → ∥ AreOfTables (state g old) was ∥₁ → IsPartOf (rest_in (state g old)) now
  pub told : HasCleanDisk (state g new) → ∥ AreOfTables (state g old) was ∥₁
      → IfErr result (λ fault. fault ≢ Malformed)
  pub seen : HasCleanDisk (state g new) → HasTables (state g old).now.schema
      → OnOk result ((state g new).now ≡ (state g old).now)
  pub same : HasCleanDisk (state g new) → HasTables (state g old).now.schema → IsTrue (state g old).is_open
      → OnOk result (IsUnchanged (state g old) (state g new))
  pub fails : HasCleanDisk (state g new) → HasTables (state g old).now.schema → IsTrue (state g old).is_open
      → IfErr result (FailsFor (state g old) (state g new))
  pub leaves : HasCleanDisk (state g new) → HasTables (state g old).now.schema → IsTrue (state g old).is_open
      → StaysOrIsUndone (state g old) (state g new)
  pub mode : old.in_transaction ≡ false → new.in_transaction ≡ false
  pub survives : Survives (state g old) (state g new) (λ _. HasTables (state g old).now.schema → ⊥)
