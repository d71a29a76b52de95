-- A change that leaves sound content can be told by tables.
use Rattle.std.proofs.Common.{◌≡◌, ◌⊎◌, ◌∙◌, ℕ, ◌<◌, ◌^◌, List, [], length, inl, inr, refl, ap, arith, Option, None, Some, IsSome}
use Rattle.std.proofs.lemmas.Bool.{false≢true}
use Rattle.std.specs.Prelude.{IfSome, if◌then◌else◌, slice_get}
use Rattle.std.specs.FinMap as map
use Rattle.std.specs.Option.{option_or}
use Rattle.std.specs.List.{slice_index_or}
use Rattle.std.proofs.lemmas.Cmp.{nat_eq_equiv}
use Rattle.std.proofs.lemmas.Option.{slice_get-get_or}
use Rattle.sqlite.specs.Order.{Row as Values}
use Rattle.work_calendars.specs.Calendar.{CalendarEntries}
use Rattle.work_calendars.specs.declared.statuses.DayStatus.{DayStatus}
use Rattle.plan_periods.specs.Period.{IsSoundPeriod}
use Rattle.plan_periods.specs.declared.periods.Period.{Period}
use Rattle.plan_periods.specs.declared.periods.Period.TheVariants.{All as AllDays, Work, Listed}
use Rattle.app_definition_records.proofs.ByNameLemmas.{get-overlaid}
use Rattle.app_definition_records.specs.ByName.{overlaid}
use Rattle.app_definition_records.specs.Calendars.{FitsCalendar, IsCalendarOf}
use Rattle.app_definition_records.specs.CycleRecords.{AreRunCyclesOf, FitsRunCycle}
use Rattle.app_definition_records.specs.Periods.{FitsPeriod, IsPeriodOf}
use Rattle.app_definition_records.specs.Predecessors.{ArePredecessorsOf, FitsPredecessors}
use Rattle.app_definition_records.specs.FieldCounts.{HasCalendarFields, HasCycleFields, HasPeriodFields}
use Rattle.app_definition_records.specs.FieldCounts.{HasPredecessorFields}
use Rattle.app_definitions.specs.Definitions.{merged}
use Rattle.app_definitions.specs.declared.definitions.Definitions.{Definitions}
use Rattle.app_definitions.specs.declared.kinds.Block.{Block}
use Rattle.app_definitions.specs.declared.kinds.Block.TheVariants as block
use Rattle.planner_machine.specs.Content.{Content}
use Rattle.planner_machine.specs.Sound.{AreDefinitions, IsSound}
use Rattle.planner_machine.specs.declared.job.Job.{Job}
use Rattle.plan_store.specs.Changes.{after, jobs_after, redefined}
use Rattle.plan_store.specs.declared.changes.Change.{Change}
use Rattle.plan_store.specs.declared.changes.DefinitionChange.{DefinitionChange}
use Rattle.plan_store.specs.declared.changes.DefinitionChange.TheVariants.{AsBefore, Merged, Removed}
use Rattle.app_definition_soundness.specs.Values.{ListsDate, ListsWeekday}
use Rattle.app_definition_soundness.proofs.CalendarRecords.{calendar_value}
use Rattle.app_definition_soundness.proofs.CycleRecords.{cycles_value}
use Rattle.app_definition_soundness.proofs.DefinedLemmas.{calendar_week, cycles_rise, made_of, period_sound}
use Rattle.app_definition_soundness.proofs.GivenLemmas.{definable_from}
use Rattle.app_definition_soundness.proofs.SimpleLemmas.{predecessors_value}
use Rattle.plan_tables_definitions.specs.Representable.{IsRepresentableBlock}
use Rattle.plan_tables_content.specs.Content.{ByName, HasEntry}
use Rattle.plan_tables_content.specs.Facts.{IsCalendarRow}
use Rattle.plan_tables_content.specs.Facts.IsCalendarRow.{Date, Weekday}
use Rattle.plan_tables.specs.Representable.{IsToldChange}

-- what a block gives stands in the definitions after it
given_after : {D : Type 0} (old more : ByName D) (name : List ℕ) (d : D) → map.get more name ≡ Some d
    → map.get (overlaid old more) name ≡ Some d
given_after {D} old more name d at = get-overlaid old more name ∙ ap (λ (o : Option D). option_or o (map.get old name)) at

-- ---- each kind

calendar_row : (c : CalendarEntries) → length c.weekdays ≡ 7 → ListsWeekday c ⊎ ListsDate c
    → (values : Values) × IsCalendarRow [] c values
calendar_row c week (inl (weekday, below, some)) = listed (slice_index_or c.weekdays weekday None) refl some
  where
    at : slice_get c.weekdays weekday ≡ Some (slice_index_or c.weekdays weekday None)
    at = slice_get-get_or c.weekdays weekday None (omega (arith, week, below))

    listed : (o : Option DayStatus) → slice_index_or c.weekdays weekday None ≡ o → IsSome o
        → (values : Values) × IsCalendarRow [] c values
    listed None is some = absurd (false≢true some)
    listed (Some status) is some = (_, Weekday weekday status (at ∙ ap Some is) refl)
calendar_row c week (inr (day, some)) = dated (map.get c.dates day) refl some
  where
    dated : (o : Option DayStatus) → map.get c.dates day ≡ o → IsSome o
        → (values : Values) × IsCalendarRow [] c values
    dated None is some = absurd (false≢true some)
    dated (Some status) is some = (_, Date day status is refl)

has_entry : (p : Period) → IsSoundPeriod p → HasEntry p
has_entry (AllDays origin interval) sound = tt
has_entry (Work origin interval) sound = tt
has_entry (Listed origins) sound = λ none. let some = sound.0 in absurd (omega (arith, some, ap length none))

-- ---- blocks

pub told_block : (all : Definitions) (b : Block) → AreDefinitions (merged all b) → IsRepresentableBlock b
told_block all (block.Applications more) are = tt
told_block all (block.Calendars more) are = λ name c at.
    let is = definable_from HasCalendarFields FitsCalendar IsCalendarOf (overlaid all.calendars more) are.calendars name c
    (given_after all.calendars more name c at) in
    let week = calendar_week name c is in
    record { week = week; some = calendar_row c week (calendar_value c name is).some }
told_block all (block.Periods more) are = λ name p at.
    let is = definable_from HasPeriodFields FitsPeriod IsPeriodOf (overlaid all.periods more) are.periods name p
    (given_after all.periods more name p at) in
    has_entry p (period_sound name p is)
told_block all (block.Predecessors more) are = λ name listed at.
    let is = definable_from HasPredecessorFields FitsPredecessors ArePredecessorsOf (overlaid all.predecessors more)
    are.predecessors name listed (given_after all.predecessors more name listed at) in
    record {
      rising = (made_of HasPredecessorFields FitsPredecessors ArePredecessorsOf name listed is).made.rising;
      some = (predecessors_value name listed is).some;
    }
told_block all (block.RunCycles more) are = λ name cycles at.
    let is = definable_from HasCycleFields FitsRunCycle AreRunCyclesOf (overlaid all.run_cycles more) are.run_cycles name
    cycles (given_after all.run_cycles more name cycles at) in
    record { rising = cycles_rise name cycles is; some = (cycles_value name cycles is).some }
told_block all (block.Options given) are = tt

pub told_change : (all : Definitions) (change : DefinitionChange) → AreDefinitions (redefined change all)
    → IsToldChange change
told_change all AsBefore are = tt
told_change all (Merged b) are = told_block all b are
told_change all (Removed kind name) are = tt

-- ---- jobs

kept_job : (jobs : ℕ → Option Job) (job : Job) → jobs_after (Some job) jobs job.number ≡ Some job
kept_job jobs job = ap (λ b. if b then Some job else jobs job.number) (nat_eq_equiv.refl job.number)

told_number : (o : Option Job) (change : Change) (c : Content) → change.job ≡ o → IsSound (after change c)
    → IfSome o (λ job. job.number < 2 ^ 63)
told_number None change c is sound = tt
told_number (Some job) change c is sound =
    let found : (after change c).jobs job.number ≡ Some job = ap (λ o. jobs_after o c.jobs job.number) is
    ∙ kept_job c.jobs job in
    let greatest = (sound.jobs job.number job found).greatest in
    omega (arith, greatest)

-- a change that leaves sound content brings definitions that tables can tell, and a job with such a number
pub told_by_tables : (change : Change) (c : Content) → IsSound (after change c)
    → IsToldChange change.definitions × IfSome change.job (λ (job : Job). job.number < 2 ^ 63)
told_by_tables change c sound = (
  told_change c.definitions change.definitions sound.ranges.definitions,
  told_number change.job change c refl sound,
)
