-- Definitions that keep the rule of definitions are such as rows are read for.
use Rattle.std.proofs.Common.{arith, subst, None, Some}
use Rattle.std.specs.Prelude.{IfSome}
use Rattle.std.proofs.lemmas.List.Elements.{All-contains}
use Rattle.std.proofs.lemmas.Option.{get_or_from_slice_get, slice_get_within}
use Rattle.app_definition_records.specs.Applications.{FitsApplication, IsApplicationOf}
use Rattle.app_definition_records.specs.Calendars.{FitsCalendar, IsCalendarOf}
use Rattle.app_definition_records.specs.CycleRecords.{AreRunCyclesOf, FitsRunCycle}
use Rattle.app_definition_records.specs.Periods.{FitsPeriod, IsPeriodOf}
use Rattle.app_definition_records.specs.Predecessors.{ArePredecessorsOf, FitsPredecessors}
use Rattle.app_definition_records.specs.FieldCounts.{HasApplicationFields, HasCalendarFields, HasCycleFields}
use Rattle.app_definition_records.specs.FieldCounts.{HasPeriodFields, HasPredecessorFields}
use Rattle.app_definition_records.specs.declared.predecessors.Predecessor.{Predecessor}
use Rattle.app_definitions.specs.declared.definitions.Definitions.{Definitions}
use Rattle.work_calendars.specs.Name.{IsName}
use Rattle.work_calendars.specs.Within.{IsWithinHours}
use Rattle.plan_periods.specs.declared.periods.Period.{Period}
use Rattle.plan_periods.specs.declared.periods.Period.TheVariants.{All as AllDays, Work, Listed}
use Rattle.run_cycles.specs.declared.cycles.CycleType.{CycleType}
use Rattle.run_cycles.specs.declared.cycles.CycleType.TheVariants.{Normal, Negative}
use Rattle.run_cycles.specs.declared.cycles.Deadline.{Deadline}
use Rattle.run_cycles.specs.declared.cycles.RunCycle.{RunCycle}
use Rattle.planner_machine.specs.Sound.{AreDefinitions}
use Rattle.plan_tables_content.specs.Facts.{deadline_of}
use Rattle.plan_tables_definitions.specs.Defined.{AreSoundDefinitions}
use Rattle.plan_tables_definitions.specs.DraftedCycles.{IsDeadline}
use Rattle.plan_tables_definitions.specs.DraftedPeriods.{IsOfDays}
use Rattle.plan_tables_definitions.specs.WholeCycles.{IsSoundCycle}
use Rattle.app_definition_soundness.specs.Values.{HasDaysInRange, HasDeadline, IsCycleValue, IsDeadlineValue, IsEntryValue}
use Rattle.app_definition_soundness.proofs.CalendarRecords.{calendar_value}
use Rattle.app_definition_soundness.proofs.CycleRecords.{cycles_value}
use Rattle.app_definition_soundness.proofs.DefinedLemmas.{calendar_days, calendar_week, cycles_rise, made_of, period_sound}
use Rattle.app_definition_soundness.proofs.GivenLemmas.{definable_from}
use Rattle.app_definition_soundness.proofs.PeriodRecords.{period_value, short_named}
use Rattle.app_definition_soundness.proofs.SimpleLemmas.{application_value, predecessors_value}

days_of : (p : Period) → HasDaysInRange p → IsOfDays p
days_of (AllDays origin interval) days = days
days_of (Work origin interval) days = days
days_of (Listed entries) days = λ place e at.
    subst IsEntryValue (get_or_from_slice_get entries place e e at) (days place e (slice_get_within entries place e at))

deadline_is : (d : Deadline) → IsDeadlineValue d → IsDeadline d
deadline_is d is = (omega (arith, is.days), is.clock)

some_deadline : (kind : CycleType) → HasDeadline kind → IfSome (deadline_of kind) IsDeadline
some_deadline (Normal deadline) is = deadline_is deadline is
some_deadline (Negative (Some deadline)) is = deadline_is deadline is
some_deadline (Negative None) is = tt

cycle_sound : (cycle : RunCycle) → IsCycleValue cycle → IsSoundCycle cycle
cycle_sound cycle is = record {
  name = is.name;
  told = record {
    deadline = some_deadline cycle.kind is.kind;
    period = is.period;
    in_effect = is.in_effect;
    out_effect = is.out_effect;
    ia = is.ia;
  };
  offsets = is.offsets;
}

-- the rule of definitions asks no less than what is asked of definitions that are read from rows
pub sound_definitions : (all : Definitions) → AreDefinitions all → AreSoundDefinitions all
sound_definitions all are = record {
  applications = λ name a at.
      let value = application_value name a (definable_from HasApplicationFields FitsApplication IsApplicationOf
      all.applications are.applications name a at) in
      (value.named, value.calendar);
  calendars = λ name c at.
      let is = definable_from HasCalendarFields FitsCalendar IsCalendarOf all.calendars are.calendars name c at in
      let value = calendar_value c name is in
      (value.named, record { week = calendar_week name c is; days = calendar_days name c is });
  periods = λ name p at.
      let is = definable_from HasPeriodFields FitsPeriod IsPeriodOf all.periods are.periods name p at in
      let value = period_value name p is in
      (short_named name value.named, record { sound = period_sound name p is; days = days_of p value.days });
  run_cycles = λ app cycles at.
      let is = definable_from HasCycleFields FitsRunCycle AreRunCyclesOf all.run_cycles are.run_cycles app cycles at in
      let value = cycles_value app cycles is in (
        value.named,
        record {
          rising = cycles_rise app cycles is;
          each = λ c has. cycle_sound c (All-contains IsCycleValue cycles c value.cycles has);
        },
      );
  predecessors = λ app listed at.
      let is = definable_from HasPredecessorFields FitsPredecessors ArePredecessorsOf all.predecessors are.predecessors
      app listed at in
      let value = predecessors_value app listed is in (
        value.named,
        record {
          rising = (made_of HasPredecessorFields FitsPredecessors ArePredecessorsOf app listed is).made.rising;
          each = λ p has. record {
            name = All-contains (λ (q : Predecessor). IsName q.name) listed p value.names has;
            within = All-contains (λ (q : Predecessor). IfSome q.within IsWithinHours) listed p value.limits has;
          };
        },
      );
}
