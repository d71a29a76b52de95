-- Sound content.
use Rattle.std.specs.Prelude.{◌≡◌, ◌≢◌, ◌⊎◌, ℕ, ◌+◌, ◌<◌, ◌≤◌, Contains, List, [], Option, Some, None, Result, Ok, Err}
use Rattle.std.specs.Prelude.{IfSome}
use Rattle.std.specs.FinMap as map
use Rattle.work_calendars.specs.Day.{IsDay, last_kept_day}
use Rattle.work_calendars.specs.Moment.{IsMoment}
use Rattle.work_calendars.specs.Name.{IsName, IsShort}
use Rattle.work_calendars.specs.Within.{IsWithinHours}
use Rattle.app_definition_records.specs.Applications.{FitsApplication, IsApplicationOf}
use Rattle.app_definition_records.specs.ByName.{FitsKind, IsDefinedBy, records_of}
use Rattle.app_definition_records.specs.Calendars.{FitsCalendar, IsCalendarOf}
use Rattle.app_definition_records.specs.CycleRecords.{FitsRunCycle, AreRunCyclesOf}
use Rattle.app_definition_records.specs.Periods.{FitsPeriod, IsPeriodOf}
use Rattle.app_definition_records.specs.Predecessors.{FitsPredecessors, ArePredecessorsOf}
use Rattle.app_definition_records.specs.Records.{AllGood, Record, Records}
use Rattle.app_definitions.specs.declared.definitions.Definitions.{Definitions}
use Rattle.occurrences.specs.Place.{IsLive}
use Rattle.occurrences.specs.Refusal.{refusal_number}
use Rattle.occurrences.specs.declared.place.Deletion.{Deletion}
use Rattle.occurrences.specs.declared.place.Place.{Place}
use Rattle.occurrences.specs.declared.place.Place.TheVariants.{LongTerm, Current, History, Deleted}
use Rattle.occurrences.specs.declared.place.Reason.TheVariants.{Operator}
use Rattle.occurrences.specs.declared.refusal.Refusal.{Refusal}
use Rattle.occurrences.specs.declared.refusal.Refusal.TheVariants.{CalendarUndefined, PeriodUndefined, Loop}
use Rattle.occurrences.specs.declared.refusal.Refusal.TheVariants.{PredecessorUncompleted}
use Rattle.occurrences.specs.declared.reply.Reply.{Reply}
use Rattle.occurrences.specs.declared.reply.Reply.TheVariants.{Changed, Defined, Made, Moved, Numbered, Rows, Undefined}
use Rattle.occurrences.specs.declared.row.Origin.{Origin}
use Rattle.occurrences.specs.declared.row.Origin.TheVariants.{Generated, Added}
use Rattle.occurrences.specs.declared.row.Row.{Row}
use Rattle.occurrences.specs.declared.serial.TheConstants.{GREATEST_SERIAL}
use Rattle.external_dependencies.specs.Loop.{OnLoop, OnRing}
use Rattle.external_dependencies.specs.Nearest.{IsCandidate, arrival_of}
use Rattle.external_dependencies.specs.declared.links.Link.{Link}
use Rattle.external_dependencies.specs.declared.pairs.Pair.{Pair}
use Rattle.external_dependencies.specs.declared.rows.PlacedRow.{PlacedRow}
use Rattle.planner_machine.specs.declared.content.Bounds.{Bounds}
use Rattle.planner_machine.specs.declared.job.Job.{Job}
use Rattle.planner_machine.specs.declared.limits.TheConstants.{GREATEST_JOB, MOST_PLANNED_ROWS}
use Rattle.planner_machine.specs.Content.{Content, Sets, IsOnlyAt, empty_seat, midnight, seat}
use Rattle.planner_machine.specs.Fate.{IsGenerated}
use Rattle.planner_machine.specs.Pairs.{ArePairs, IsClosedAt, IsClosedPair, IsCompleteAt}
use Rattle.planner_machine.specs.Plans.{planned}
use Rattle.app_definition_records.specs.FieldCounts.{HasApplicationFields, HasCalendarFields, HasCycleFields}
use Rattle.app_definition_records.specs.FieldCounts.{HasPeriodFields, HasPredecessorFields}

-- 1. Ranges and forms

-- each name is defined as some good records about it would define it, or not at all
abbrev pub AreDefinable : {D : Type 0} → (ℕ → Type 0) → (Records → Record → Type 0)
    → (D → Records → Type 0) → (List ℕ → Option D) → Type 0
AreDefinable HasFields FitsName IsMadeOf definition_of =
    (name : List ℕ) → (rows : Records) × AllGood (FitsKind HasFields FitsName) rows
    × IsDefinedBy IsMadeOf (definition_of name) (records_of name rows)

-- the definitions are such as data blocks give
pub record AreDefinitions (all : Definitions) : Type 0 where
  pub applications : AreDefinable HasApplicationFields FitsApplication IsApplicationOf (map.get all.applications)
  pub calendars : AreDefinable HasCalendarFields FitsCalendar IsCalendarOf (map.get all.calendars)
  pub periods : AreDefinable HasPeriodFields FitsPeriod IsPeriodOf (map.get all.periods)
  pub predecessors : AreDefinable HasPredecessorFields FitsPredecessors ArePredecessorsOf (map.get all.predecessors)
  pub run_cycles : AreDefinable HasCycleFields FitsRunCycle AreRunCyclesOf (map.get all.run_cycles)
  pub default_calendar : IsName all.options.default_calendar

abbrev pub IsOrigin : Origin → Type 0
IsOrigin (Generated run_cycle) = IsShort run_cycle
IsOrigin Added = Unit {0}

pub record IsRow (row : Row) : Type 0 where
  pub app : IsName row.key.app
  pub ia : IsMoment row.key.ia
  pub deadline : IsMoment row.deadline
  pub origin : IsOrigin row.origin

-- the names of a link, and its limit where it has one
abbrev pub IsLink : Link → Type 0
IsLink link = IsName link.app × IsName link.predecessor × IfSome link.within IsWithinHours

pub record HasRanges (c : Content) : Type 0 where
  pub definitions : AreDefinitions c.definitions
  pub rows : (serial : ℕ) (p : PlacedRow) → IsOnlyAt c.sets serial p → IsRow p.row
  pub days : (b : Bounds) → c.sets.bounds ≡ Some b → IsDay b.first_day × IsDay b.last_day × IsMoment b.plan_end
  pub links : (link : Link) → Contains c.in_force link → IsLink link

-- 2. Bounds

-- nothing is planned
pub record IsUnplanned (c : Content) : Type 0 where
  pub rows : (serial : ℕ) → seat c.sets serial ≡ empty_seat
  pub pairs : c.pairs ≡ []
  pub in_force : c.in_force ≡ []
  pub issued : c.sets.issued ≡ 0

-- the plan begins no later than it ends, and ends by the last planning day; the current plan ends from the midnight
-- that begins the first day to the one that ends the last
pub record AreBounds (b : Bounds) : Type 0 where
  pub days : b.first_day ≤ b.last_day
  pub last : b.last_day ≤ last_kept_day
  pub begun : midnight b.first_day ≤ b.plan_end
  pub ended : b.plan_end ≤ midnight (b.last_day + 1)

-- before creation, and after it
pub record HasBounds (c : Content) : Type 0 where
  pub before : c.sets.bounds ≡ None → IsUnplanned c
  pub after : (b : Bounds) → c.sets.bounds ≡ Some b → AreBounds b

-- 3. Serials

-- each serial from 1 to the number issued is in exactly one set, under a row that has it, and no other serial is in
-- any
pub record AreNumbered (s : Sets) : Type 0 where
  pub placed : (serial : ℕ) → 1 ≤ serial → serial ≤ s.issued → (p : PlacedRow) × IsOnlyAt s serial p
  pub unissued : (serial : ℕ) → (serial ≡ 0) ⊎ (s.issued < serial) → seat s serial ≡ empty_seat
  pub numbered : (serial : ℕ) (p : PlacedRow) → IsOnlyAt s serial p → p.row.serial ≡ serial

-- 4. Keys

-- no two live occurrences have one key
abbrev pub HaveOwnKeys : Sets → Type 0
HaveOwnKeys s = (m n : ℕ) (p q : PlacedRow) → IsOnlyAt s m p → IsOnlyAt s n q → IsLive p.place → IsLive q.place
    → p.row.key ≡ q.row.key → m ≡ n

-- 5. Arrivals

-- rows of the long-term plan arrive from the plan end to the end of the last day; rows of the current plan and of
-- history from the first day to before the plan end
abbrev pub ArrivesIn : Bounds → ℕ → Place → Type 0
ArrivesIn b ia LongTerm = (b.plan_end ≤ ia) × (ia < midnight (b.last_day + 1))
ArrivesIn b ia (Current _) = (midnight b.first_day ≤ ia) × (ia < b.plan_end)
ArrivesIn b ia History = (midnight b.first_day ≤ ia) × (ia < b.plan_end)
ArrivesIn b ia (Deleted _) = Unit {0}

pub record HaveArrivals (s : Sets) : Type 0 where
  pub in_bounds : (b : Bounds) → s.bounds ≡ Some b → (serial : ℕ) (p : PlacedRow) → IsOnlyAt s serial p
      → ArrivesIn b p.row.key.ia p.place
  -- no generated row of the long-term plan has a key that the deletions have as one that an operator deleted
  pub not_deleted : (serial : ℕ) (row : Row) → s.ltp serial ≡ Some row → IsGenerated row.origin
      → (other : ℕ) (deletion : Deletion) → s.deletions other ≡ Some deletion → deletion.reason ≡ Operator
      → deletion.row.key ≢ row.key

-- 6. Sizes

pub record HaveSizes (s : Sets) : Type 0 where
  pub planned : planned s ≤ MOST_PLANNED_ROWS
  pub issued : s.issued ≤ GREATEST_SERIAL

-- 8. Pairs

pub record HasPairs (c : Content) : Type 0 where
  -- those of open occurrences are those with their nearest predecessors, and all others are of occurrences that are
  -- live and no longer open
  pub settled : ArePairs c.pairs c.in_force c.sets c.pairs
  -- the predecessors of what is live and no longer open are complete
  pub complete : (pair : Pair) → Contains c.pairs pair → IsClosedAt c.sets pair.successor
      → IsCompleteAt c.sets pair.predecessor
  -- and there is at most one for each application
  pub one_each : (successor m n : ℕ) (p q : PlacedRow) → IsClosedAt c.sets successor
      → Contains c.pairs (record { successor = successor; predecessor = m })
      → Contains c.pairs (record { successor = successor; predecessor = n })
      → IsOnlyAt c.sets m p → IsOnlyAt c.sets n q → p.row.key.app ≡ q.row.key.app → m ≡ n
  -- which arrives at or before the successor, or before it where it is of the same application; the limit doesn't
  -- matter
  pub in_time : (pair : Pair) (p q : PlacedRow) → Contains c.pairs pair → IsClosedAt c.sets pair.successor
      → IsOnlyAt c.sets pair.successor p → IsOnlyAt c.sets pair.predecessor q
      → IsCandidate p.row.key q.row.key.app None (arrival_of q.row)
  -- pairs among what is no longer open have no loop
  pub no_loop : (serial : ℕ) → OnRing (IsClosedPair c.sets c.pairs) serial → ⊥

-- 9. Kept jobs

-- a number that a reply shows
abbrev pub IsShown : ℕ → Type 0
IsShown n = n ≤ 999999999

-- a reply that some changing statement gives
abbrev pub IsKeptReply : Result Reply Refusal → Type 0
IsKeptReply (Ok (Defined names)) = IsShown names
IsKeptReply (Ok Undefined) = Unit {0}
IsKeptReply (Ok (Made made withdrawn)) = IsShown made × IsShown withdrawn
IsKeptReply (Ok (Numbered serial)) = IsShown serial
IsKeptReply (Ok (Changed serial status)) = IsShown serial
IsKeptReply (Ok (Moved moved carried completed deleted)) = IsShown moved × IsShown carried × IsShown completed
    × IsShown deleted
IsKeptReply (Ok (Rows rows)) = ⊥
IsKeptReply (Err (CalendarUndefined app)) = IsName app
IsKeptReply (Err (PeriodUndefined app)) = IsName app
IsKeptReply (Err (Loop app)) = IsName app
IsKeptReply (Err (PredecessorUncompleted serial)) = IsShown serial
IsKeptReply (Err refusal) = 13 ≤ refusal_number refusal

pub record IsJob (number : ℕ) (job : Job) : Type 0 where
  pub numbered : job.number ≡ number
  pub least : 1 ≤ number
  pub greatest : number ≤ GREATEST_JOB
  pub reply : IsKeptReply job.reply

-- all nine
pub record IsSound (c : Content) : Type 0 where
  pub ranges : HasRanges c
  pub bounds : HasBounds c
  pub serials : AreNumbered c.sets
  pub keys : HaveOwnKeys c.sets
  pub arrivals : HaveArrivals c.sets
  pub sizes : HaveSizes c.sets
  -- the lists in force have no loop over two or more applications
  pub lists : (app : List ℕ) → OnLoop c.in_force app → ⊥
  pub pairs : HasPairs c
  pub jobs : (number : ℕ) (job : Job) → c.jobs number ≡ Some job → IsJob number job
