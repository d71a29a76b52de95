-- The rows of sound definitions have cells that their columns may have.
use Rattle.std.proofs.Common.{◌≡◌, ℕ, List, Option, Some, None, sym, subst, arith}
use Rattle.std.specs.Prelude.{IfSome, codes, length, option_map, pos, ◌≤◌}
use Rattle.std.specs.FinMap as map
use Rattle.std.specs.List.{Contains}
use Rattle.std.proofs.lemmas.List.Elements.{All-contains}
use Rattle.sqlite.specs.Order.{Row as Values}
use Rattle.sqlite.specs.Kind.TheVariants.{Text as Texts}
use Rattle.sqlite_value.specs.declared.value.Value.TheVariants.{Text}
use Rattle.work_calendars.specs.Calendar.{CalendarEntries}
use Rattle.work_calendars.specs.Name.{IsName, IsShort}
use Rattle.plan_periods.specs.declared.periods.Period.{Period}
use Rattle.plan_periods.specs.declared.periods.Period.TheVariants as period
use Rattle.run_cycles.specs.declared.cycles.CycleType.{CycleType}
use Rattle.run_cycles.specs.declared.cycles.CycleType.TheVariants.{Normal, Negative}
use Rattle.run_cycles.specs.declared.cycles.Deadline.{Deadline}
use Rattle.run_cycles.specs.declared.cycles.RunCycle.{RunCycle}
use Rattle.run_cycles.specs.declared.rules.Rule.{Rule}
use Rattle.run_cycles.specs.declared.rules.Rule.TheVariants as rule
use Rattle.app_definition_records.specs.Applications.{FitsApplication, IsApplicationOf}
use Rattle.app_definition_records.specs.Calendars.{FitsCalendar, IsCalendarOf}
use Rattle.app_definition_records.specs.CycleRecords.{AreRunCyclesOf, FitsRunCycle, rule_text}
use Rattle.app_definition_records.specs.FieldCounts.{HasApplicationFields, HasCalendarFields, HasCycleFields}
use Rattle.app_definition_records.specs.FieldCounts.{HasPeriodFields, HasPredecessorFields}
use Rattle.app_definition_records.specs.Periods.{FitsPeriod, IsPeriodOf}
use Rattle.app_definition_records.specs.Predecessors.{ArePredecessorsOf, FitsPredecessors}
use Rattle.app_definition_records.specs.declared.applications.Application.{Application}
use Rattle.app_definition_records.specs.declared.predecessors.Predecessor.{Predecessor}
use Rattle.plan_tables_schema.specs.Form.{may_have, needs}
use Rattle.plan_tables_schema.specs.Forms.{form}
use Rattle.plan_tables_schema.specs.declared.tables.Table.{Table}
use Rattle.plan_tables_schema.specs.declared.tables.Table.TheVariants as table
use Rattle.plan_tables_content.specs.Content.{ByName, IsApplicationRow, IsOfSome}
use Rattle.plan_tables_content.specs.Facts.{IsCalendarRow, IsCycleRow, IsOffsetRow, IsPeriodRow, IsPredecessorRow}
use Rattle.plan_tables_content.specs.Facts.{deadline_of, entry_values, or_null, type_letter}
use Rattle.planner_machine.specs.Sound.{AreDefinable}
use Rattle.app_definition_soundness.specs.Values.{AreCycleValues, IsCycleValue}
use Rattle.app_definition_soundness.proofs.CalendarRecords.{calendar_value}
use Rattle.app_definition_soundness.proofs.CycleRecords.{cycles_value}
use Rattle.app_definition_soundness.proofs.GivenLemmas.{definable_from}
use Rattle.app_definition_soundness.proofs.PeriodRecords.{period_value}
use Rattle.app_definition_soundness.proofs.SimpleLemmas.{application_value, predecessors_value}
use Rattle.plan_tables_constraints.proofs.FormRows.{AreCells, IsCell, flag_cell, natural_or_null, number_cell, number_or_null}
use Rattle.plan_tables_constraints.proofs.FormRows.{text_cell}
use Rattle.plan_tables_constraints.proofs.FormRows.{text_or_null, work_cell}
use Rattle.plan_tables_constraints.proofs.RowFits.{plain_null, plain_text}

cells_as : (t : Table) (v w : Values) → v ≡ w → AreCells (form t).columns w → AreCells (form t).columns v
cells_as t v w is cells = subst (AreCells (form t).columns) (sym is) cells

name_cell : {column : List ℕ} (name : List ℕ) → IsName name → IsCell (needs column Texts) (Text name)
name_cell name named = text_cell name (omega (arith, named.fits))

name_or_null : {column : List ℕ} (o : Option (List ℕ)) → IfSome o IsName
    → IsCell (may_have column Texts) (or_null (option_map Text o))
name_or_null None named = text_or_null None plain_null
name_or_null (Some name) named = text_or_null (Some name) (plain_text name (omega (arith, named.fits)))

rule_cell : {column : List ℕ} (r : Rule) → IsCell (needs column Texts) (Text (rule_text r))
rule_cell rule.WorkDaysOnly = text_cell (codes "E") (omega arith)
rule_cell rule.Before = text_cell (codes "1") (omega arith)
rule_cell rule.After = text_cell (codes "2") (omega arith)
rule_cell rule.Same = text_cell (codes "3") (omega arith)
rule_cell rule.Skip = text_cell (codes "4") (omega arith)

type_cell : {column : List ℕ} (k : CycleType) → IsCell (needs column Texts) (Text (type_letter k))
type_cell (Normal deadline) = text_cell (codes "N") (omega arith)
type_cell (Negative deadline) = text_cell (codes "X") (omega arith)

pub applications_cells : (all : ByName Application)
    → AreDefinable HasApplicationFields FitsApplication IsApplicationOf (map.get all) → (v : Values)
    → IsOfSome IsApplicationRow all v → AreCells (form table.Application).columns v
applications_cells all sound v (name, a, at, is) =
    let so = application_value name a (definable_from HasApplicationFields FitsApplication IsApplicationOf all sound name
    a at) in
    cells_as table.Application v _ is
    (name_cell name so.named, (flag_cell a.active, (name_or_null a.calendar so.calendar, tt)))

pub calendars_cells : (all : ByName CalendarEntries)
    → AreDefinable HasCalendarFields FitsCalendar IsCalendarOf (map.get all) → (v : Values)
    → IsOfSome IsCalendarRow all v → AreCells (form table.CalendarEntry).columns v
calendars_cells all sound v (name, c, at, is) = go is
  where
    named : IsName name
    named = let given = definable_from HasCalendarFields FitsCalendar IsCalendarOf all sound name c at in
        (calendar_value c name given).named

    go : IsCalendarRow name c v → AreCells (form table.CalendarEntry).columns v
    go (IsCalendarRow.Weekday weekday status got it) = cells_as table.CalendarEntry v _ it
        (name_cell name named, (number_cell (pos 0), (number_cell (pos weekday), (work_cell status, tt))))
    go (IsCalendarRow.Date day status got it) = cells_as table.CalendarEntry v _ it
        (name_cell name named, (number_cell (pos 1), (number_cell (pos day), (work_cell status, tt))))

entry_cells : (name : List ℕ) (place : ℕ) (letter : List ℕ) (origin : ℕ) (second : Option ℕ) → IsShort name
    → length letter ≤ 1 → AreCells (form table.Period).columns (entry_values name place letter origin second)
entry_cells name place letter origin second named short = (
  text_cell name (omega (arith, named.fits)),
  (
    number_cell (pos place),
    (
      text_cell letter (omega (arith, short)),
      (number_cell (pos origin), (natural_or_null second, tt)),
    ),
  ),
)

pub periods_cells : (all : ByName Period) → AreDefinable HasPeriodFields FitsPeriod IsPeriodOf (map.get all)
    → (v : Values) → IsOfSome IsPeriodRow all v → AreCells (form table.Period).columns v
periods_cells all sound v (name, p, at, is) = go p is
  where
    named : IsShort name
    named = (period_value name p (definable_from HasPeriodFields FitsPeriod IsPeriodOf all sound name p at)).named

    go : (q : Period) → IsPeriodRow name q v → AreCells (form table.Period).columns v
    go (period.All origin interval) it = cells_as table.Period v _ it
        (entry_cells name 0 (codes "A") origin (Some interval) named (omega arith))
    go (period.Work origin interval) it = cells_as table.Period v _ it
        (entry_cells name 0 (codes "W") origin (Some interval) named (omega arith))
    go (period.Listed origins) (place, entry, got, it) = cells_as table.Period v _ it
        (entry_cells name place (codes "N") entry.0 entry.1 named (omega arith))

pub predecessors_cells : (all : ByName (List Predecessor))
    → AreDefinable HasPredecessorFields FitsPredecessors ArePredecessorsOf (map.get all) → (v : Values)
    → IsOfSome IsPredecessorRow all v → AreCells (form table.Predecessor).columns v
predecessors_cells all sound v (app, listed, at, (p, has, is)) =
    let so = predecessors_value app listed (definable_from HasPredecessorFields FitsPredecessors ArePredecessorsOf all
    sound app listed at) in
    let named = All-contains (λ (q : Predecessor). IsName q.name) listed p so.names has in
    cells_as table.Predecessor v _ is
    (name_cell app so.named, (name_cell p.name named, (natural_or_null p.within, tt)))

-- the run cycles of an application
module _ (all : ByName (List RunCycle)) (sound : AreDefinable HasCycleFields FitsRunCycle AreRunCyclesOf (map.get all))
    (app : List ℕ) (cycles : List RunCycle) (at : map.get all app ≡ Some cycles) where
  values : AreCycleValues app cycles
  values = cycles_value app cycles (definable_from HasCycleFields FitsRunCycle AreRunCyclesOf all sound app cycles at)

  each_value : (c : RunCycle) → Contains cycles c → IsCycleValue c
  each_value c has = All-contains IsCycleValue cycles c values.cycles has

pub cycles_cells : (all : ByName (List RunCycle))
    → AreDefinable HasCycleFields FitsRunCycle AreRunCyclesOf (map.get all) → (v : Values)
    → IsOfSome IsCycleRow all v → AreCells (form table.RunCycle).columns v
cycles_cells all sound v (app, cycles, at, (c, has, is)) =
    let each = each_value all sound app cycles at c has in
    cells_as table.RunCycle v _ is (
      name_cell app (values all sound app cycles at).named,
      (
        text_cell c.name (omega (arith, each.name.fits)),
        (
          type_cell c.kind,
          (
            text_cell c.period (omega (arith, each.period.fits)),
            (
              rule_cell c.rule,
              (
                number_cell (pos c.in_effect),
                (
                  natural_or_null c.out_effect,
                  (
                    number_cell (pos c.ia),
                    (
                      number_or_null (λ (d : Deadline). d.days) (deadline_of c.kind),
                      (number_or_null (λ (d : Deadline). d.time) (deadline_of c.kind), tt),
                    ),
                  ),
                ),
              ),
            ),
          ),
        ),
      ),
    )

pub offsets_cells : (all : ByName (List RunCycle))
    → AreDefinable HasCycleFields FitsRunCycle AreRunCyclesOf (map.get all) → (v : Values)
    → IsOfSome IsOffsetRow all v → AreCells (form table.Offset).columns v
offsets_cells all sound v (app, cycles, at, (c, has, place, k, got, is)) =
    let each = each_value all sound app cycles at c has in
    cells_as table.Offset v _ is (
      name_cell app (values all sound app cycles at).named,
      (text_cell c.name (omega (arith, each.name.fits)), (number_cell (pos place), (number_cell k, tt))),
    )
