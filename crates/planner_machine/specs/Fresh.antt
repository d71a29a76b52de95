-- Fresh content: the long-term plan from the plan end on is what the calendars name now.
use Rattle.std.specs.Prelude.{◌≡◌, ◌≢◌, ◌⊎◌, ◌↔◌, ℕ, ◌+◌, List, [], ◌∷◌, All, Some, None, Ok, Err}
use Rattle.app_definitions.specs.declared.definitions.Definitions.{Definitions}
use Rattle.occurrences.specs.declared.key.Key.{Key}
use Rattle.occurrences.specs.declared.place.Place.{Place}
use Rattle.occurrences.specs.declared.place.Place.TheVariants.{LongTerm, Current, History, Deleted}
use Rattle.occurrences.specs.declared.place.Reason.TheVariants.{Operator}
use Rattle.occurrences.specs.declared.reply.Reply.{Reply}
use Rattle.occurrences.specs.declared.row.Origin.{Origin}
use Rattle.occurrences.specs.declared.row.Origin.TheVariants.{Added}
use Rattle.occurrences.specs.declared.row.Row.{Row}
use Rattle.external_dependencies.specs.declared.rows.PlacedRow.{PlacedRow}
use Rattle.planner_machine.specs.declared.content.Bounds.{Bounds}
use Rattle.planner_machine.specs.declared.content.Draft.{Draft}
use Rattle.planner_machine.specs.Content.{Content, Sets, IsOnlyAt, midnight}
use Rattle.planner_machine.specs.Decision.{Decides}
use Rattle.planner_machine.specs.Drafts.{NamesWithin}
use Rattle.planner_machine.specs.Fate.{IsGenerated}
use Rattle.planner_machine.specs.Moves.{numbered_row}
use Rattle.planner_machine.specs.Sound.{IsSound}
use Rattle.planner_machine.specs.Statement.{Answer, Change, DefineJob, Job, Statement, decision_of, meaning_of}
use Rattle.planner_machine.specs.Stream.{IsStatement, Runs}

-- the draft that a row is of
abbrev pub draft_of_row : Row → Draft
draft_of_row row = record { key = row.key; deadline = row.deadline; origin = row.origin }

-- the key of such a row is left out: an added one of the long-term plan, or one that an operator deleted
abbrev pub LeavesOut : Origin → Place → Type 0
LeavesOut origin LongTerm = origin ≡ Added
LeavesOut origin (Current status) = ⊥
LeavesOut origin History = ⊥
LeavesOut origin (Deleted reason) = reason ≡ Operator

pub record IsLeftOut (s : Sets) (key : Key) : Type 0 where
  pub serial : ℕ
  pub placed : PlacedRow
  pub stands : IsOnlyAt s serial placed
  pub keyed : placed.row.key ≡ key
  pub out : LeavesOut placed.row.origin placed.place

-- an occurrence of the long-term plan is of the draft
abbrev pub StandsSo : Sets → Draft → Type 0
StandsSo s draft = (serial : ℕ) × IsOnlyAt s serial (record { row = numbered_row serial draft; place = LongTerm })

-- the calendars name the draft, from the plan end to the end of the last day
abbrev pub NamesInPlan : Definitions → Bounds → Draft → Type 0
NamesInPlan all b = NamesWithin all b.plan_end (midnight (b.last_day + 1))

-- there is a plan; each generated row of the long-term plan is, with its run cycle and its deadline, named now; and
-- each draft that is named now is there, except those whose keys are left out
pub record AreFresh (all : Definitions) (s : Sets) : Type 0 where
  pub bounds : Bounds
  pub planned : s.bounds ≡ Some bounds
  pub named : (serial : ℕ) (row : Row) → IsOnlyAt s serial (record { row = row; place = LongTerm })
      → IsGenerated row.origin → NamesInPlan all bounds (draft_of_row row)
  pub stands : (draft : Draft) → NamesInPlan all bounds draft → StandsSo s draft ⊎ IsLeftOut s draft.key

abbrev pub IsFresh : Content → Type 0
IsFresh c = AreFresh c.definitions c.sets

-- in sound content that is: the drafts of the generated rows are exactly those that are named, less those left out
abbrev pub FreshIsExact : Type 0
FreshIsExact =
    (c : Content) → IsSound c → (fresh : IsFresh c) → (draft : Draft)
    → (StandsSo c.sets draft × IsGenerated draft.origin)
    ↔ (NamesInPlan c.definitions fresh.bounds draft × (IsLeftOut c.sets draft.key → ⊥))

-- where the statement is accepted, it leaves fresh content
abbrev pub LeavesFresh : Change → Type 0
LeavesFresh change = (c : Content) (reply : Reply) (c' : Content) → IsSound c → IsSound c'
    → Decides (decision_of change) c (Ok reply) c' → IsFresh c'

-- the statement changes definitions, if it is accepted
abbrev pub RedefinesBy : Change → Type 0
RedefinesBy change = (meaning_of change).redefines

abbrev pub Redefines : Statement → Type 0
Redefines (DefineJob number text kind given) = Unit {0}
Redefines (Job number text change) = RedefinesBy change
Redefines statement = ⊥

abbrev pub IsRefused : Answer → Type 0
IsRefused (Ok reply) = ⊥
IsRefused (Err refusal) = Unit {0}

-- a kept job gives the reply to the statement
abbrev pub IsRepeated : Statement → Content → Type 0
IsRepeated (DefineJob number text kind given) c = c.jobs number ≢ None
IsRepeated (Job number text change) c = c.jobs number ≢ None
IsRepeated statement c = ⊥

-- no definition is added or removed: each statement that would do it is refused, or a kept job gives its reply
abbrev pub KeepsDefinitions : (stream : List Statement) (answers : List Answer) (c c' : Content)
    → Runs stream c answers c' → Type 0
KeepsDefinitions (s ∷ stream) (a ∷ answers) c c' run =
    (Redefines s → IsRefused a ⊎ IsRepeated s c) × KeepsDefinitions stream answers run.0 c' run.2
KeepsDefinitions [] [] c c' run = Unit {0}
KeepsDefinitions [] (a ∷ answers) c c' run = ⊥
KeepsDefinitions (s ∷ stream) [] c c' run = ⊥

-- from fresh content such a stream leaves fresh content
abbrev pub StaysFresh : Type 0
StaysFresh =
    (stream : List Statement) (answers : List Answer) (c c' : Content) → IsSound c → All IsStatement stream
    → (run : Runs stream c answers c') → KeepsDefinitions stream answers c c' run → IsFresh c → IsFresh c'
