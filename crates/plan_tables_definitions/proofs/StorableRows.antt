-- The rows of definitions can be stored as they are.
use Rattle.std.proofs.Common.{◌≡◌, ℕ, ℤ, Bool, true, false, cond, List, [], ◌∷◌, Option, Some, None, refl, sym, subst}
use Rattle.std.specs.Prelude.{codes}
use Rattle.sqlite.specs.Order.{Row as Values}
use Rattle.sqlite.specs.Kind.TheVariants.{Integer}
use Rattle.sqlite.specs.declared.types.Value.{Value}
use Rattle.sqlite.specs.declared.types.Value.TheVariants.{Null, Int, Text}
use Rattle.sqlite.specs.Ops.{unary}
use Rattle.sqlite.specs.Cast.{cast}
use Rattle.work_calendars.specs.Calendar.{CalendarEntries}
use Rattle.work_calendars.specs.declared.statuses.DayStatus.{DayStatus}
use Rattle.work_calendars.specs.declared.statuses.DayStatus.TheVariants.{Work, Free}
use Rattle.plan_periods.specs.declared.periods.Period.{Period}
use Rattle.plan_periods.specs.declared.periods.Period.TheVariants as period
use Rattle.run_cycles.specs.declared.cycles.CycleType.{CycleType}
use Rattle.run_cycles.specs.declared.cycles.CycleType.TheVariants.{Normal, Negative}
use Rattle.run_cycles.specs.declared.cycles.RunCycle.{RunCycle}
use Rattle.app_definition_records.specs.declared.applications.Application.{Application}
use Rattle.app_definition_records.specs.declared.predecessors.Predecessor.{Predecessor}
use Rattle.plan_tables_schema.specs.declared.tables.Table.TheVariants as table
use Rattle.plan_tables_content.specs.Content.{ByName, IsApplicationRow, IsOfSome}
use Rattle.plan_tables_content.specs.Facts.{IsCalendarRow, IsCycleRow, IsOffsetRow, IsPeriodRow, IsPredecessorRow}
use Rattle.plan_tables_content.specs.Facts.IsCalendarRow.{Weekday, Date}
use Rattle.plan_tables_content.specs.Facts.{application_values, cycle_values, entry_values, is_work, natural, offset_values}
use Rattle.plan_tables_content.specs.Facts.{predecessor_values}
use Rattle.plan_tables_definitions.specs.Storing.{IsStorable}

either : (b : Bool) (x : Value) → cond b x x ≡ x
either true x = refl
either false x = refl

pub cast-Int : (n : ℤ) → cast Integer (Int n) ≡ Int n
unfolding unary
cast-Int n = either _ (Int n)

pub cast-Null : cast Integer Null ≡ Null
unfolding unary
cast-Null = either _ Null

application_storable : (name : List ℕ) (active : Bool) (calendar : Option (List ℕ))
    → IsStorable table.Application (application_values name (record { active = active; calendar = calendar }))
application_storable name true None = record { kinds = simp (cast-Int, cast-Null); bound = refl }
application_storable name true (Some c) = record { kinds = simp (cast-Int, cast-Null); bound = refl }
application_storable name false None = record { kinds = simp (cast-Int, cast-Null); bound = refl }
application_storable name false (Some c) = record { kinds = simp (cast-Int, cast-Null); bound = refl }

entry_storable : (name : List ℕ) (kind day : ℕ) (status : DayStatus)
    → IsStorable table.CalendarEntry (Text name ∷ natural kind ∷ natural day ∷ is_work status ∷ [])
entry_storable name kind day Work = record { kinds = simp (cast-Int, cast-Null); bound = refl }
entry_storable name kind day Free = record { kinds = simp (cast-Int, cast-Null); bound = refl }

period_storable : (name : List ℕ) (place : ℕ) (letter : List ℕ) (origin : ℕ) (second : Option ℕ)
    → IsStorable table.Period (entry_values name place letter origin second)
period_storable name place letter origin None = record { kinds = simp (cast-Int, cast-Null); bound = refl }
period_storable name place letter origin (Some n) = record { kinds = simp (cast-Int, cast-Null); bound = refl }

cycle_storable : (app name period : List ℕ) (kind : CycleType) (cycle : RunCycle) (out : Option ℕ)
    → IsStorable table.RunCycle (cycle_values app (record cycle { kind = kind; out_effect = out }))
cycle_storable app name period (Normal deadline) cycle None = record {
  kinds = simp (cast-Int, cast-Null);
  bound =
      refl;
}
cycle_storable app name period (Normal deadline) cycle (Some day) =
    record { kinds = simp (cast-Int, cast-Null); bound = refl }
cycle_storable app name period (Negative None) cycle None = record { kinds = simp (cast-Int, cast-Null); bound = refl }
cycle_storable app name period (Negative None) cycle (Some day) =
    record { kinds = simp (cast-Int, cast-Null); bound = refl }
cycle_storable app name period (Negative (Some deadline)) cycle None =
    record { kinds = simp (cast-Int, cast-Null); bound = refl }
cycle_storable app name period (Negative (Some deadline)) cycle (Some day) =
    record { kinds = simp (cast-Int, cast-Null); bound = refl }

offset_storable : (app name : List ℕ) (place : ℕ) (k : ℤ) → IsStorable table.Offset (offset_values app name place k)
offset_storable app name place k = record { kinds = simp (cast-Int, cast-Null); bound = refl }

link_storable : (app name : List ℕ) (within : Option ℕ)
    → IsStorable table.Predecessor (predecessor_values app (record { name = name; within = within }))
link_storable app name None = record { kinds = simp cast-Null; bound = refl }
link_storable app name (Some hours) = record { kinds = simp (cast-Int, cast-Null); bound = refl }

-- ---- of all definitions

pub applications_storable : (all : ByName Application) (v : Values) → IsOfSome IsApplicationRow all v
    → IsStorable table.Application v
applications_storable all v (name, a, got, is) =
    subst (IsStorable table.Application) (sym is) (application_storable name a.active a.calendar)

pub calendars_storable : (all : ByName CalendarEntries) (v : Values) → IsOfSome IsCalendarRow all v
    → IsStorable table.CalendarEntry v
calendars_storable all v (name, c, got, Weekday weekday status at is) =
    subst (IsStorable table.CalendarEntry) (sym is) (entry_storable name 0 weekday status)
calendars_storable all v (name, c, got, Date day status at is) =
    subst (IsStorable table.CalendarEntry) (sym is) (entry_storable name 1 day status)

one_period_storable : (name : List ℕ) (p : Period) (v : Values) → IsPeriodRow name p v → IsStorable table.Period v
one_period_storable name (period.All origin interval) v is =
    subst (IsStorable table.Period) (sym is) (period_storable name 0 (codes "A") origin (Some interval))
one_period_storable name (period.Work origin interval) v is =
    subst (IsStorable table.Period) (sym is) (period_storable name 0 (codes "W") origin (Some interval))
one_period_storable name (period.Listed origins) v (place, entry, at, is) =
    subst (IsStorable table.Period) (sym is) (period_storable name place (codes "N") entry.0 entry.1)

pub periods_storable : (all : ByName Period) (v : Values) → IsOfSome IsPeriodRow all v → IsStorable table.Period v
periods_storable all v (name, p, got, is) = one_period_storable name p v is

pub cycles_storable : (all : ByName (List RunCycle)) (v : Values) → IsOfSome IsCycleRow all v
    → IsStorable table.RunCycle v
cycles_storable all v (app, cycles, got, (cycle, has, is)) =
    subst (IsStorable table.RunCycle) (sym is)
    (cycle_storable app cycle.name cycle.period cycle.kind cycle cycle.out_effect)

pub offsets_storable : (all : ByName (List RunCycle)) (v : Values) → IsOfSome IsOffsetRow all v
    → IsStorable table.Offset v
offsets_storable all v (app, cycles, got, (cycle, has, place, k, at, is)) =
    subst (IsStorable table.Offset) (sym is) (offset_storable app cycle.name place k)

pub predecessors_storable : (all : ByName (List Predecessor)) (v : Values) → IsOfSome IsPredecessorRow all v
    → IsStorable table.Predecessor v
predecessors_storable all v (app, listed, got, (p, has, is)) =
    subst (IsStorable table.Predecessor) (sym is) (link_storable app p.name p.within)
