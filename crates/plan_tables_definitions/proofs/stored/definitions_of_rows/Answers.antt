use Rattle.std.proofs.Common.{refl, subst, sym}
use Rattle.std.specs.Prelude.{IfSome, IsSome}
use Rattle.plan_tables_content.specs.Content.{AreEach, HasEntry, IsApplicationRow, IsTold}
use Rattle.plan_tables_content.specs.Facts.{IsCalendarRow, IsCycleRow, IsOffsetRow, IsPeriodRow, IsPredecessorRow}
use Rattle.plan_tables_definitions.specs.Storing.{AreRowsOf, HaveRows}
use Rattle.plan_tables_definitions.specs.Representable.{AreCycles, ArePredecessors}
use Rattle.plan_tables_definitions.specs.declared.stored.Days.{Days}
use Rattle.plan_tables_definitions.specs.declared.stored.Listed.{Listed}
use Rattle.plan_tables_definitions.proofs.stored.definitions_of_rows.Goals as goal

pub returns-in_default-clause-found : goal.returns-in_default-clause-found
returns-in_default-clause-found c all sound have = subst IsSome c.in_default.is
    (c.in_ok-days.ensures.found all.calendars all.periods sound.calendars sound.periods have.calendars have.periods)

pub returns-in_default-2-clause-found : goal.returns-in_default-2-clause-found
returns-in_default-2-clause-found c all sound have = subst IsSome c.in_default-2.is
    (c.in_ok-run_cycles.ensures.found all.run_cycles sound.run_cycles have.run_cycles have.offsets)

pub returns-in_default-3-clause-found : goal.returns-in_default-3-clause-found
returns-in_default-3-clause-found c all sound have = subst IsSome c.in_default-3.is
    (c.in_ok-listed.ensures.found all.applications all.predecessors sound.applications sound.predecessors
    have.applications have.predecessors)

pub returns-clause-made : goal.returns-clause-made
returns-clause-made c =
    let stored = c.args.stored.now in
    let days = c.in_ok-days.ensures in
    let cycles = c.in_ok-run_cycles.ensures in
    let listed = c.in_ok-listed.ensures in
    subst (HaveRows stored c.args.options) (sym c.joined.ensures) (record {
      calendars = subst (λ o. IfSome o (λ (days : Days). AreRowsOf IsCalendarRow stored.calendars.items days.calendars))
          c.in-Some.is days.calendars;
      periods = subst (λ o. IfSome o (λ (days : Days). AreRowsOf IsPeriodRow stored.periods.items days.periods))
          c.in-Some.is days.periods;
      applications = subst (λ o. IfSome o
          (λ (listed : Listed). AreRowsOf IsApplicationRow stored.applications.items listed.applications))
          c.in-Some-3.is listed.applications;
      run_cycles = subst (λ o. IfSome o (AreRowsOf IsCycleRow stored.run_cycles.items)) c.in-Some-2.is cycles.cycles;
      offsets = subst (λ o. IfSome o (AreRowsOf IsOffsetRow stored.offsets.items)) c.in-Some-2.is cycles.offsets;
      predecessors = subst (λ o. IfSome o
          (λ (listed : Listed). AreRowsOf IsPredecessorRow stored.predecessors.items listed.predecessors))
          c.in-Some-3.is listed.predecessors;
      options = refl;
      representable = record {
        calendars = subst (λ o. IfSome o (λ (days : Days). AreEach IsTold days.calendars)) c.in-Some.is days.told;
        periods = subst (λ o. IfSome o (λ (days : Days). AreEach HasEntry days.periods)) c.in-Some.is days.entries;
        run_cycles = subst (λ o. IfSome o (AreEach AreCycles)) c.in-Some-2.is cycles.told;
        predecessors = subst (λ o. IfSome o (λ (listed : Listed). AreEach ArePredecessors listed.predecessors))
            c.in-Some-3.is listed.told;
      };
    })
