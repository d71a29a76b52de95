-- What is fetched from the tables for a window or a change, and what a call does that fetches it.
use Rattle.std.specs.Prelude.{Result, OnOk}
use Rattle.sqlite.specs.Held.{Held, state}
use Rattle.sqlite.specs.State.{HasCleanDisk}
use Rattle.sqlite.specs.Store.{Ghosts}
use Rattle.planner_machine.specs.Content.{Content}
use Rattle.plan_store.specs.Parts.{IsPartOf, Rest}
use Rattle.plan_tables_windows.specs.Changes.{KnowsNamed}
use Rattle.plan_tables_windows.specs.Windows.{IsReadyFor}
use Rattle.plan_tables_schema.specs.Rows.{tables_of}
use Rattle.plan_tables_windows.specs.Fetching.{Grows, told_rest}
use Rattle.plan_tables.specs.Kept.{IsKept}
use Rattle.plan_tables.specs.Session.{Asks, why_in}
use Rattle.plan_tables.specs.declared.keeping.Unmade.{Unmade}
use Rattle.plan_tables.specs.declared.seeking.Sought.{Sought}
use Rattle.plan_tables.specs.declared.seeking.Sought.TheVariants as sought

-- the lists have what a window for the need reads of history and of the deletions, or know what the change names there
abbrev pub IsFoundFor : Sought → Rest → Content → Type 0
IsFoundFor (sought.Window need) rest c = IsReadyFor rest need.now c
IsFoundFor (sought.Change change) rest c = KnowsNamed rest change.now c

-- Over a kept content an Ok has what is sought. The lists keep what they had, and may have more of the rest.
pub record Seeks {S : Type 0} (g : Ghosts S) (old new : Held S) (was now : Content)
    (result : Result (Unit {0}) Unmade) (IsFound : Rest → Content → Type 0) : Type 0 where
  pub found : HasCleanDisk (state g new) → ∥ IsKept (state g old) was ∥₁
      → OnOk result (IsFound (told_rest (tables_of (state g old).now.trees)) now)
  pub grows : Grows was now
  pub part : HasCleanDisk (state g new) → IsKept (state g old) was
      → IsPartOf (told_rest (tables_of (state g old).now.trees)) now
  pub asks : Asks g old new was (why_in result)
