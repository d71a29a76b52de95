-- Run cycles as their rows encode them, without the application and the offsets.
use Rattle.std.specs.Prelude.{◌≡◌, ℕ, ◌<◌, ◌^◌, List, [], ◌∷◌, Option, option_map, IfSome}
use Rattle.sqlite.specs.Order.{Row as Values, column}
use Rattle.sqlite.specs.declared.types.Value.TheVariants.{Text}
use Rattle.work_calendars.specs.Day.{IsDay}
use Rattle.work_calendars.specs.Minute.{IsMinute}
use Rattle.work_calendars.specs.Name.{IsShort}
use Rattle.run_cycles.specs.declared.cycles.CycleType.{CycleType}
use Rattle.run_cycles.specs.declared.cycles.Deadline.{Deadline}
use Rattle.app_definition_records.specs.CycleRecords.{rule_text}
use Rattle.plan_tables_content.specs.Facts.{deadline_of, natural, or_null, type_letter}
use Rattle.plan_tables_definitions.specs.declared.decoded_cycles.DecodedCycle.{DecodedCycle}

-- the row of a run cycle without its first column, the application
abbrev pub told_values : List ℕ → DecodedCycle → Values
told_values name t = Text name ∷ Text (type_letter t.kind) ∷ Text t.period ∷ Text (rule_text t.rule)
    ∷ natural t.in_effect ∷ or_null (option_map natural t.out_effect) ∷ natural t.ia
    ∷ or_null (option_map (λ (d : Deadline). natural d.days) (deadline_of t.kind))
    ∷ or_null (option_map (λ (d : Deadline). natural d.time) (deadline_of t.kind)) ∷ []

-- what the row encodes of the deadline
pub record HasDeadline (values : Values) (deadline : Option Deadline) : Type 0 where
  pub days : column values 7 ≡ or_null (option_map (λ (d : Deadline). natural d.days) deadline)
  pub time : column values 8 ≡ or_null (option_map (λ (d : Deadline). natural d.time) deadline)

-- what it encodes of the type
pub record HasType (values : Values) (kind : CycleType) : Type 0 where
  pub letter : column values 1 ≡ Text (type_letter kind)
  pub deadline : HasDeadline values (deadline_of kind)

-- the days of a deadline are below 2 ^ 8, and its time is one of the day
abbrev pub IsDeadline : Deadline → Type 0
IsDeadline d = (d.days < 2 ^ 8) × IsMinute d.time

-- each part is such as a run cycle has
pub record IsReadableCycle (t : DecodedCycle) : Type 0 where
  pub deadline : IfSome (deadline_of t.kind) IsDeadline
  pub period : IsShort t.period
  pub in_effect : IsDay t.in_effect
  pub out_effect : IfSome t.out_effect IsDay
  pub ia : IsMinute t.ia
