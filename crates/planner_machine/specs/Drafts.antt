-- Drafts: occurrences still to be made. Those that the calendars name, those that a planning statement makes, and
-- lists of them.
use Rattle.std.specs.Prelude.{◌≡◌, ◌≢◌, ◌↔◌, ℕ, ◌+◌, ◌<◌, ◌≤◌, List, Contains, Some}
use Rattle.std.specs.List.{AllPairs}
use Rattle.work_calendars.specs.Minute.{minutes_per_day}
use Rattle.work_calendars.specs.Moment.{moment_of}
use Rattle.run_cycles.specs.declared.named.Named.{Named}
use Rattle.run_cycles.specs.Occurrence.{IsOccurrence}
use Rattle.app_occurrences.specs.Active.{IsActive, cycles_of}
use Rattle.app_occurrences.specs.NamedOccurrences.{work_of}
use Rattle.app_definition_records.specs.declared.applications.Application.{Application}
use Rattle.app_definitions.specs.declared.definitions.Definitions.{Definitions}
use Rattle.occurrences.specs.Key.{KeyBefore}
use Rattle.occurrences.specs.declared.key.Key.{Key}
use Rattle.occurrences.specs.declared.place.Deletion.{Deletion}
use Rattle.occurrences.specs.declared.place.Reason.TheVariants.{Operator}
use Rattle.occurrences.specs.declared.row.Origin.TheVariants.{Added, Generated}
use Rattle.occurrences.specs.declared.row.Row.{Row}
use Rattle.planner_machine.specs.declared.content.Draft.{Draft}
use Rattle.planner_machine.specs.Content.{Sets}

-- the application is active, and its run cycles name the occurrence
abbrev pub IsNamed : Definitions → List ℕ → Named → Type 0
IsNamed all app x = (a : Application) × IsActive all app a
    × IsOccurrence (cycles_of all app) all.periods (work_of all a) x

-- the draft of a named occurrence of an application
abbrev pub draft_of : List ℕ → Named → Draft
draft_of app x = record {
  key = record { ia = moment_of x.day x.time; app = app };
  deadline = x.deadline;
  origin = Generated x.run_cycle;
}

-- the calendars name the draft: it is that of a named occurrence of an active application
abbrev pub NamesDraft : Definitions → Draft → Type 0
NamesDraft all draft = (app : List ℕ) × (x : Named) × IsNamed all app x × (draft ≡ draft_of app x)

-- the calendars name the draft, and it arrives at or after the one moment and before the other
abbrev pub NamesWithin : Definitions → ℕ → ℕ → Draft → Type 0
NamesWithin all first end draft = NamesDraft all draft × (first ≤ draft.key.ia) × (draft.key.ia < end)

-- a key that a planning statement makes: it is named, no row of the long-term plan has it, and the deletions don't
-- have it as one that an operator deleted
pub record IsMade (Names : Draft → Type 0) (s : Sets) (draft : Draft) : Type 0 where
  pub named : Names draft
  pub not_planned : (serial : ℕ) (row : Row) → s.ltp serial ≡ Some row → row.key ≢ draft.key
  pub not_deleted : (serial : ℕ) (deletion : Deletion) → s.deletions serial ≡ Some deletion
      → deletion.reason ≡ Operator → deletion.row.key ≢ draft.key

-- the draft of an occurrence that is added by hand: it is due a day after it arrives
abbrev pub added : Key → Draft
added key = record { key = key; deadline = key.ia + minutes_per_day; origin = Added }

-- the list has exactly these drafts, by rising key: by input arrival, then by application
pub record AreDrafts (Is : Draft → Type 0) (drafts : List Draft) : Type 0 where
  pub rising : AllPairs (λ a b. KeyBefore a.key b.key) drafts
  pub exactly : (draft : Draft) → Contains drafts draft ↔ Is draft
