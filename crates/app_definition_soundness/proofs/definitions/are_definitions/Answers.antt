use Rattle.std.proofs.Common.{◌∙◌, sym}
use Rattle.std.proofs.lemmas.Bool.{false≢true}
use Rattle.app_definition_records.specs.Applications.{FitsApplication, IsApplicationOf}
use Rattle.app_definition_records.specs.Calendars.{FitsCalendar, IsCalendarOf}
use Rattle.app_definition_records.specs.CycleRecords.{AreRunCyclesOf, FitsRunCycle}
use Rattle.app_definition_records.specs.Periods.{FitsPeriod, IsPeriodOf}
use Rattle.app_definition_records.specs.Predecessors.{ArePredecessorsOf, FitsPredecessors}
use Rattle.app_definition_records.specs.FieldCounts.{HasApplicationFields, HasCalendarFields, HasCycleFields}
use Rattle.app_definition_records.specs.FieldCounts.{HasPeriodFields, HasPredecessorFields}
use Rattle.app_definition_soundness.proofs.GivenLemmas.{definable_from, definable_to}
use Rattle.app_definition_soundness.proofs.definitions.are_definitions.Goals as goal

pub returns-then-not-applications : goal.returns-then-not-applications
returns-then-not-applications c = (
  (λ yes. absurd (false≢true yes)),
  λ are. absurd (false≢true (sym c.if-not-applications.true ∙ c.in_ok-applications.ensures.1
      (definable_from HasApplicationFields FitsApplication IsApplicationOf c.args.definitions.now.applications
      are.applications))),
)

pub returns-then-not-calendars : goal.returns-then-not-calendars
returns-then-not-calendars c = (
  (λ yes. absurd (false≢true yes)),
  λ are. absurd (false≢true (sym c.if-not-calendars.true ∙ c.in_ok-calendars.ensures.1
      (definable_from HasCalendarFields FitsCalendar IsCalendarOf c.args.definitions.now.calendars are.calendars))),
)

pub returns-then-not-periods : goal.returns-then-not-periods
returns-then-not-periods c = (
  (λ yes. absurd (false≢true yes)),
  λ are. absurd (false≢true (sym c.if-not-periods.true ∙ c.in_ok-periods.ensures.1
      (definable_from HasPeriodFields FitsPeriod IsPeriodOf c.args.definitions.now.periods are.periods))),
)

pub returns-then-not-predecessors : goal.returns-then-not-predecessors
returns-then-not-predecessors c = (
  (λ yes. absurd (false≢true yes)),
  λ are. absurd (false≢true (sym c.if-not-predecessors.true ∙ c.in_ok-predecessors.ensures.1
      (definable_from HasPredecessorFields FitsPredecessors ArePredecessorsOf c.args.definitions.now.predecessors
      are.predecessors))),
)

pub returns-then-not-run_cycles : goal.returns-then-not-run_cycles
returns-then-not-run_cycles c = (
  (λ yes. absurd (false≢true yes)),
  λ are. absurd (false≢true (sym c.if-not-run_cycles.true ∙ c.in_ok-run_cycles.ensures.1
      (definable_from HasCycleFields FitsRunCycle AreRunCyclesOf c.args.definitions.now.run_cycles are.run_cycles))),
)

pub returns : goal.returns
returns c =
    let all = c.args.definitions.now in (
      (λ yes. record {
        applications = definable_to HasApplicationFields FitsApplication IsApplicationOf all.applications
            (c.in_ok-applications.ensures.0 c.if-not-applications.false);
        calendars = definable_to HasCalendarFields FitsCalendar IsCalendarOf all.calendars
            (c.in_ok-calendars.ensures.0 c.if-not-calendars.false);
        periods = definable_to HasPeriodFields FitsPeriod IsPeriodOf all.periods
            (c.in_ok-periods.ensures.0 c.if-not-periods.false);
        predecessors = definable_to HasPredecessorFields FitsPredecessors ArePredecessorsOf all.predecessors
            (c.in_ok-predecessors.ensures.0 c.if-not-predecessors.false);
        run_cycles = definable_to HasCycleFields FitsRunCycle AreRunCyclesOf all.run_cycles
            (c.in_ok-run_cycles.ensures.0 c.if-not-run_cycles.false);
        default_calendar = c.is_name.ensures.0 yes;
      }),
      λ are. c.is_name.ensures.1 are.default_calendar,
    )
