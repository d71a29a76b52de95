-- What was fetched is loaded into lists.
use Rattle.std.specs.Prelude.{◌≡◌, ◌+◌, ℕ, Bool, true, false, not, nat_lt, List, Contains, Option, Result, None, Some}
use Rattle.std.specs.Prelude.{IfErr, OnErr, OnOk}
use Rattle.occurrences.specs.declared.place.Deletion.{Deletion}
use Rattle.planner_machine.specs.Content.{Content}
use Rattle.planner_machine.specs.declared.content.Bounds.{Bounds}
use Rattle.plan_store.specs.HistoryReads.{HasLast}
use Rattle.plan_store.specs.Parts.{IsPartOf, Knows, KnowsDeletion, Rest}
use Rattle.plan_store.specs.Views.{bars_from}
use Rattle.plan_store.specs.declared.queries.LastQuery.{LastQuery}
use Rattle.plan_tables_lookups.specs.declared.faults.TableFault.{TableFault}
use Rattle.plan_tables_lookups.specs.declared.faults.TableFault.TheVariants.{Memory}
use Rattle.plan_tables_windows.specs.Fetching.{Grows}

-- the lists are these afterwards, or memory was refused, and they are as they were
pub record Loads (after was now : Content) (result : Result (Unit {0}) TableFault) : Type 0 where
  pub ok : OnOk result (now ≡ after)
  pub err : OnErr result (now ≡ was)
  pub memory : IfErr result (λ fault. fault ≡ Memory)

-- the deletions are there
abbrev pub Stand : Rest → List Deletion → Type 0
Stand rest deletions = (deletion : Deletion) → Contains deletions deletion
    → rest.deletions deletion.row.serial ≡ Some deletion

-- they still have what they had; if the rest, of which the lists had a part, has the deletions, they still have a part
-- of it, and once all are loaded they have each; else memory was refused
pub record LoadsEach (deletions : List Deletion) (was now : Content) (result : Result (Unit {0}) TableFault) : Type 0
  where
    pub grows : Grows was now
    pub part : (rest : Rest) → Stand rest deletions → IsPartOf rest was → IsPartOf rest now
    pub ready : (rest : Rest) → Stand rest deletions → IsPartOf rest was
        → OnOk result ((deletion : Deletion) → Contains deletions deletion
        → now.sets.deletions deletion.row.serial ≡ Some deletion)
    pub memory : IfErr result (λ fault. fault ≡ Memory)

-- they have each deletion by the operator that arrives at the moment or after it
abbrev pub HasGoneFrom : ℕ → Rest → Content → Type 0
HasGoneFrom moment rest c = (serial : ℕ) (deletion : Deletion) → rest.deletions serial ≡ Some deletion
    → bars_from moment deletion ≡ true → c.sets.deletions serial ≡ Some deletion

-- there is a plan, and it ends at the moment or before it
abbrev pub ends_by : Option Bounds → ℕ → Bool
ends_by None moment = false
ends_by (Some b) moment = not (nat_lt moment b.plan_end)

-- the last row that is read is there
abbrev pub IsAnswered : LastQuery → Rest → Content → Type 0
IsAnswered ask rest c = HasLast rest.history c.sets.history ask.app (ask.moment + 1)

-- they know what is in history and among the deletions under these serials
pub record KnowsAll (completed deleted : List ℕ) (rest : Rest) (c : Content) : Type 0 where
  pub history : (serial : ℕ) → Contains completed serial → Knows rest c serial
  pub deletions : (serial : ℕ) → Contains deleted serial → KnowsDeletion rest c serial
