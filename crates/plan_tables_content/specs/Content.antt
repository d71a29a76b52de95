-- The content that the rows of the tables stand for.
use Rattle.std.specs.Prelude.{◌≡◌, ◌≢◌, ◌↔◌, ℕ, ◌<◌, ◌^◌, List, [], ◌∷◌, map, length, true, false, Option, Some, None}
use Rattle.std.specs.Prelude.{Contains, ⊤, Result, Ok, Err}
use Rattle.std.specs.Cmp.Lexicographic.{slice_cmp}
use Rattle.std.specs.Ordering.{nat_cmp}
use Rattle.std.specs.FinMap as maps
use Rattle.sqlite.specs.Order.{Row as Values}
use Rattle.sqlite.specs.declared.types.Value.TheVariants.{Text, Blob}
use Rattle.work_calendars.specs.Calendar.{CalendarEntries}
use Rattle.occurrences.specs.declared.place.CurrentRow.{CurrentRow}
use Rattle.occurrences.specs.declared.place.Deletion.{Deletion}
use Rattle.occurrences.specs.declared.refusal.Refusal.{Refusal}
use Rattle.occurrences.specs.declared.refusal.Refusal.TheVariants as refusal
use Rattle.occurrences.specs.declared.reply.Reply.{Reply}
use Rattle.occurrences.specs.declared.reply.Reply.TheVariants as reply
use Rattle.occurrences.specs.declared.row.Row.{Row}
use Rattle.plan_periods.specs.declared.periods.Period.{Period}
use Rattle.plan_periods.specs.declared.periods.Period.TheVariants as period
use Rattle.run_cycles.specs.declared.cycles.RunCycle.{RunCycle}
use Rattle.app_definition_records.specs.Rising.{AreRising}
use Rattle.app_definition_records.specs.declared.applications.Application.{Application}
use Rattle.app_definitions.specs.declared.options.Options.{Options}
use Rattle.app_definition_records.specs.declared.predecessors.Predecessor.{Predecessor}
use Rattle.external_dependencies.specs.Link.{link_cmp}
use Rattle.external_dependencies.specs.Pair.{pair_cmp}
use Rattle.external_dependencies.specs.Rising.{IsRising}
use Rattle.planner_machine.specs.Content.{Content}
use Rattle.planner_machine.specs.declared.content.Bounds.{Bounds}
use Rattle.planner_machine.specs.declared.job.Job.{Job}
use Rattle.plan_listings.specs.Reply.{refusal_text, reply_text}
use Rattle.plan_tables_schema.specs.Rows.{Tables, shown}
use Rattle.plan_tables_schema.specs.declared.tables.TheConstants.{SCHEMA_VERSION}
use Rattle.plan_tables_schema.specs.declared.tables.Table.{Table}
use Rattle.plan_tables_schema.specs.declared.tables.Table.TheVariants as table
use Rattle.plan_tables_content.specs.Facts.{application_values, current_values, deletion_values, flag, link_values}
use Rattle.plan_tables_content.specs.Facts.{natural, pair_values, row_values}
use Rattle.plan_tables_content.specs.Facts.{IsCalendarRow, IsCycleRow, IsOffsetRow, IsPeriodRow, IsPredecessorRow}

-- ---- the facts of each table

abbrev pub ByName : Type 0 → Type 0
ByName D = maps.FinMap (slice_cmp nat_cmp) D

-- a row of the definition of some name
abbrev pub IsOfSome : {D : Type 0} → (List ℕ → D → Values → Type 0) → ByName D → Values → Type 0
IsOfSome {D} IsRow definitions values =
    (name : List ℕ) × (d : D) × (maps.get definitions name ≡ Some d) × IsRow name d values

abbrev pub IsApplicationRow : List ℕ → Application → Values → Type 0
IsApplicationRow name a values = values ≡ application_values name a

-- one of a set, which has it under its number
abbrev pub IsOfSet : {X : Type 0} → (X → Values) → (ℕ → Option X) → Values → Type 0
IsOfSet {X} values_of set values = (number : ℕ) × (x : X) × (set number ≡ Some x) × (values ≡ values_of x)

-- one of a list
abbrev pub IsOfList : {X : Type 0} → (X → Values) → List X → Values → Type 0
IsOfList {X} values_of xs values = (x : X) × Contains xs x × (values ≡ values_of x)

-- the reply line of a job
abbrev pub answer_text : Result Reply Refusal → List ℕ
answer_text (Ok reply) = reply_text reply
answer_text (Err refusal) = refusal_text refusal

abbrev pub job_values : Job → Values
job_values job = natural job.number ∷ Blob job.text ∷ Text (answer_text job.reply) ∷ []

-- whether there is a plan, its first and its last day, and the plan end
abbrev pub bounds_values : Option Bounds → Values → Values
bounds_values None rest = flag false ∷ natural 0 ∷ natural 0 ∷ natural 0 ∷ rest
bounds_values (Some b) rest = flag true ∷ natural b.first_day ∷ natural b.last_day ∷ natural b.plan_end ∷ rest

abbrev pub meta_values : Option Bounds → ℕ → Options → Values
meta_values bounds issued options = natural 1 ∷ natural SCHEMA_VERSION
    ∷ bounds_values bounds (natural issued ∷ Text options.default_calendar ∷ natural options.max_extension_hours ∷ [])

-- a fact of the content that belongs to the table
abbrev pub IsFact : Table → Content → Values → Type 0
IsFact table.Meta c values = values ≡ meta_values c.sets.bounds c.sets.issued c.definitions.options
IsFact table.CalendarEntry c values = IsOfSome IsCalendarRow c.definitions.calendars values
IsFact table.Period c values = IsOfSome IsPeriodRow c.definitions.periods values
IsFact table.Application c values = IsOfSome IsApplicationRow c.definitions.applications values
IsFact table.RunCycle c values = IsOfSome IsCycleRow c.definitions.run_cycles values
IsFact table.Offset c values = IsOfSome IsOffsetRow c.definitions.run_cycles values
IsFact table.Predecessor c values = IsOfSome IsPredecessorRow c.definitions.predecessors values
IsFact table.LinkInForce c values = IsOfList link_values c.in_force values
IsFact table.LongTerm c values = IsOfSet row_values c.sets.ltp values
IsFact table.Current c values = IsOfSet current_values c.sets.cp values
IsFact table.History c values = IsOfSet row_values c.sets.history values
IsFact table.Deletion c values = IsOfSet deletion_values c.sets.deletions values
IsFact table.Dependency c values = IsOfList pair_values c.pairs values
IsFact table.Job c values = IsOfSet job_values c.jobs values

-- ---- what tables can encode

-- each definition is so
abbrev pub AreEach : {D : Type 0} → (D → Type 0) → ByName D → Type 0
AreEach {D} Is definitions = (name : List ℕ) (d : D) → maps.get definitions name ≡ Some d → Is d

-- a calendar has seven weekdays, and lists something
pub record IsTold (entries : CalendarEntries) : Type 0 where
  pub week : length entries.weekdays ≡ 7
  pub some : (values : Values) × IsCalendarRow [] entries values

abbrev pub HasEntry : Period → Type 0
HasEntry (period.All origin interval) = ⊤
HasEntry (period.Work origin interval) = ⊤
HasEntry (period.Listed origins) = origins ≢ []

-- names, in byte order, one at least
pub record IsNamed {X : Type 0} (name_of : X → List ℕ) (xs : List X) : Type 0 where
  pub rising : AreRising name_of xs
  pub some : xs ≢ []

-- what is under a number has that number
abbrev pub IsUnderOwn : {X : Type 0} → (X → ℕ) → (ℕ → Option X) → Type 0
IsUnderOwn {X} number_of set = (number : ℕ) (x : X) → set number ≡ Some x → number_of x ≡ number

-- the numbers of an answer are below 2 ^ 64
abbrev pub IsSmall : Result Reply Refusal → Type 0
IsSmall (Ok (reply.Defined names)) = names < 2 ^ 64
IsSmall (Ok reply.Undefined) = ⊤
IsSmall (Ok (reply.Made made withdrawn)) = (made < 2 ^ 64) × (withdrawn < 2 ^ 64)
IsSmall (Ok (reply.Numbered serial)) = serial < 2 ^ 64
IsSmall (Ok (reply.Changed serial status)) = serial < 2 ^ 64
IsSmall (Ok (reply.Moved moved carried completed deleted)) =
    (moved < 2 ^ 64) × (carried < 2 ^ 64) × (completed < 2 ^ 64) × (deleted < 2 ^ 64)
IsSmall (Ok (reply.Rows rows)) = rows < 2 ^ 64
IsSmall (Err (refusal.FaultyData record_number)) = record_number < 2 ^ 64
IsSmall (Err (refusal.PredecessorUncompleted serial)) = serial < 2 ^ 64
IsSmall (Err _) = ⊤

-- a content that tables can distinguish from all others
pub record IsRepresentable (c : Content) : Type 0 where
  pub calendars : AreEach IsTold c.definitions.calendars
  pub periods : AreEach HasEntry c.definitions.periods
  pub run_cycles : AreEach (IsNamed (λ (cycle : RunCycle). cycle.name)) c.definitions.run_cycles
  pub predecessors : AreEach (IsNamed (λ (p : Predecessor). p.name)) c.definitions.predecessors
  pub ltp : IsUnderOwn (λ (row : Row). row.serial) c.sets.ltp
  pub cp : IsUnderOwn (λ (current : CurrentRow). current.row.serial) c.sets.cp
  pub history : IsUnderOwn (λ (row : Row). row.serial) c.sets.history
  pub deletions : IsUnderOwn (λ (deletion : Deletion). deletion.row.serial) c.sets.deletions
  pub in_force : IsRising link_cmp c.in_force
  pub pairs : IsRising pair_cmp c.pairs
  pub jobs : IsUnderOwn (λ (job : Job). job.number) c.jobs
  pub answers : (number : ℕ) (job : Job) → c.jobs number ≡ Some job → IsSmall job.reply

-- the content of the tables: one row for each fact, and no others
pub record IsContentOf (all : Tables) (c : Content) : Type 0 where
  pub representable : IsRepresentable c
  pub facts : (t : Table) (values : Values) → Contains (map (shown t) (all t)) values ↔ IsFact t c values

-- tables have one content at most
abbrev pub HaveOneContent : Type 0
HaveOneContent = (all : Tables) (c d : Content) → IsContentOf all c → IsContentOf all d → c ≡ d
