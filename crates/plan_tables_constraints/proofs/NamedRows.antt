-- The rows of each kind of definitions begin with the name, and are shown as they are.
use Rattle.std.proofs.Common.{◌≡◌, ℕ, List, refl, sym, subst}
use Rattle.sqlite.specs.Order.{Row as Values}
use Rattle.work_calendars.specs.Calendar.{CalendarEntries}
use Rattle.plan_periods.specs.declared.periods.Period.{Period}
use Rattle.plan_periods.specs.declared.periods.Period.TheVariants as period
use Rattle.run_cycles.specs.declared.cycles.RunCycle.{RunCycle}
use Rattle.app_definition_records.specs.declared.applications.Application.{Application}
use Rattle.app_definition_records.specs.declared.predecessors.Predecessor.{Predecessor}
use Rattle.plan_tables_schema.specs.declared.tables.Table.{Table}
use Rattle.plan_tables_schema.specs.declared.tables.Table.TheVariants as table
use Rattle.plan_tables_content.specs.Content.{IsApplicationRow}
use Rattle.plan_tables_content.specs.Facts.{IsCalendarRow, IsCycleRow, IsOffsetRow, IsPeriodRow, IsPredecessorRow}
use Rattle.plan_tables_constraints.proofs.NameTables.{HasName, IsShown}

-- the values are those, which are shown as they are
shown_as : (t : Table) (v w : Values) → v ≡ w → IsShown t w → IsShown t v
shown_as t v w is shows = subst (IsShown t) (sym is) shows

pub application_named : (name : List ℕ) (d : Application) (v : Values) → IsApplicationRow name d v → HasName name v
application_named name d v is = (_, is)

pub application_shown : (name : List ℕ) (d : Application) (v : Values) → IsApplicationRow name d v
    → IsShown table.Application v
application_shown name d v is = shown_as table.Application v _ is (λ rows. refl)

pub calendar_named : (name : List ℕ) (d : CalendarEntries) (v : Values) → IsCalendarRow name d v → HasName name v
calendar_named name d v (IsCalendarRow.Weekday weekday status at is) = (_, is)
calendar_named name d v (IsCalendarRow.Date day status at is) = (_, is)

pub calendar_shown : (name : List ℕ) (d : CalendarEntries) (v : Values) → IsCalendarRow name d v
    → IsShown table.CalendarEntry v
calendar_shown name d v (IsCalendarRow.Weekday weekday status at is) =
    shown_as table.CalendarEntry v _ is (λ rows. refl)
calendar_shown name d v (IsCalendarRow.Date day status at is) = shown_as table.CalendarEntry v _ is (λ rows. refl)

pub period_named : (name : List ℕ) (d : Period) (v : Values) → IsPeriodRow name d v → HasName name v
period_named name (period.All origin interval) v is = (_, is)
period_named name (period.Work origin interval) v is = (_, is)
period_named name (period.Listed origins) v (place, entry, at, is) = (_, is)

pub period_shown : (name : List ℕ) (d : Period) (v : Values) → IsPeriodRow name d v → IsShown table.Period v
period_shown name (period.All origin interval) v is = shown_as table.Period v _ is (λ rows. refl)
period_shown name (period.Work origin interval) v is = shown_as table.Period v _ is (λ rows. refl)
period_shown name (period.Listed origins) v (place, entry, at, is) = shown_as table.Period v _ is (λ rows. refl)

pub cycle_named : (name : List ℕ) (d : List RunCycle) (v : Values) → IsCycleRow name d v → HasName name v
cycle_named name d v (cycle, has, is) = (_, is)

pub cycle_shown : (name : List ℕ) (d : List RunCycle) (v : Values) → IsCycleRow name d v → IsShown table.RunCycle v
cycle_shown name d v (cycle, has, is) = shown_as table.RunCycle v _ is (λ rows. refl)

pub offset_named : (name : List ℕ) (d : List RunCycle) (v : Values) → IsOffsetRow name d v → HasName name v
offset_named name d v (cycle, has, place, k, at, is) = (_, is)

pub offset_shown : (name : List ℕ) (d : List RunCycle) (v : Values) → IsOffsetRow name d v → IsShown table.Offset v
offset_shown name d v (cycle, has, place, k, at, is) = shown_as table.Offset v _ is (λ rows. refl)

pub predecessor_named : (name : List ℕ) (d : List Predecessor) (v : Values) → IsPredecessorRow name d v → HasName name v
predecessor_named name d v (other, has, is) = (_, is)

pub predecessor_shown : (name : List ℕ) (d : List Predecessor) (v : Values) → IsPredecessorRow name d v
    → IsShown table.Predecessor v
predecessor_shown name d v (other, has, is) = shown_as table.Predecessor v _ is (λ rows. refl)
