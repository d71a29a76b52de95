-- What a store over tables keeps: history, the deletions and the kept jobs in their tables alone, all else in lists in
-- memory too, with what was loaded of the rest.
use Rattle.std.specs.Prelude.{◌≡◌, ◌⊎◌, IsTrue, List, Option}
use Rattle.sqlite.specs.State.{HasCleanDisk, State}
use Rattle.external_dependencies.specs.declared.live.Arrival.{Arrival}
use Rattle.planner_machine.specs.Content.{Content}
use Rattle.planner_machine.specs.Sound.{IsSound}
use Rattle.plan_store.specs.Changes.{Fits}
use Rattle.plan_store.specs.Parts.{IsPartOf, Rest, with_rest}
use Rattle.plan_store.specs.declared.changes.Change.{Change}
use Rattle.plan_tables_schema.specs.Rows.{tables_of}
use Rattle.plan_tables_windows.specs.Fetching.{told_rest, told_with}
use Rattle.plan_tables_opening.specs.Opened.{IsStored}
use Rattle.plan_tables_writing.specs.Redefining.{AreMovesOf}
use Rattle.plan_tables.specs.Gone.{NotesAll}
use Rattle.plan_tables.specs.Stored.{MayLeave}
use Rattle.plan_tables_writing.specs.declared.redefining.DefinitionMoves.{DefinitionMoves}

-- the content of the lists, with history, the deletions and the jobs that the tables have
abbrev pub kept_in : State → Content → Content
kept_in s lists = told_with (tables_of s.now.trees) lists

-- the database keeps it, it is sound, and the lists have a part of what the tables have
pub record IsKept (s : State) (lists : Content) : Type 0 where
  pub stored : IsStored s (kept_in s lists)
  pub sound : IsSound (kept_in s lists)
  pub part : IsPartOf (told_rest (tables_of s.now.trees)) lists

-- what was read of the database is what was written, and it can still be read
abbrev pub CanRead : State → Type 0
CanRead s = HasCleanDisk s × IsTrue s.is_open

-- the arrivals of its deletions are noted
abbrev pub NotesIn : State → Option (List Arrival) → Type 0
NotesIn s gone = ∥ (CanRead s → NotesAll (told_rest (tables_of s.now.trees)).deletions gone) ∥₁

-- what it keeps with the lists is sound
abbrev pub KeepsSound : State → Content → Type 0
KeepsSound s lists = ∥ (CanRead s → IsSound (kept_in s lists)) ∥₁

-- an open connection was open before, sees what it saw then or what was committed, and has committed nothing
abbrev pub StaysPut : State → State → Type 0
StaysPut old new = IsTrue new.is_open → IsTrue old.is_open
    × ((new.now ≡ old.now) ⊎ (new.now ≡ old.committed)) × (new.committed ≡ old.committed)

-- the database keeps the content of the lists with this rest, and the change with these moves fits it
pub record IsMet (s : State) (lists : Content) (change : Change) (moves : DefinitionMoves) (rest : Rest) : Type 0 where
  pub stored : IsStored s (with_rest rest lists)
  pub fits : Fits change (with_rest rest lists)
  pub told : AreMovesOf change.definitions moves

-- a connection that was checked: it is clean and open only if it was, and with the lists as they are now it keeps what
-- it kept with those before; and a crash leaves no other content than before
pub record LooksOn (old new : State) (was now : Content) : Type 0 where
  pub clean : HasCleanDisk new → HasCleanDisk old
  pub opens : HasCleanDisk new → IsTrue new.is_open → IsTrue old.is_open
  pub same : CanRead new → kept_in new now ≡ kept_in old was
  pub crash : (c : Content) → HasCleanDisk new × MayLeave new c → HasCleanDisk old × MayLeave old c
