-- The cells of a row.
use Rattle.std.specs.Prelude.{◌≡◌, ◌<◌, ◌^◌, Option, Some, None, IfSome, option_map}
use Rattle.sqlite.specs.Order.{Row as Values, column}
use Rattle.sqlite.specs.declared.types.Value.TheVariants.{Text}
use Rattle.work_calendars.specs.Day.{IsDay}
use Rattle.work_calendars.specs.Moment.{IsMoment}
use Rattle.work_calendars.specs.Name.{IsName}
use Rattle.app_definitions.specs.declared.options.Options.{Options}
use Rattle.occurrences.specs.Row.{run_cycle_of}
use Rattle.occurrences.specs.Serial.{IsSerial}
use Rattle.occurrences.specs.declared.row.Row.{Row}
use Rattle.external_dependencies.specs.declared.pairs.Pair.{Pair}
use Rattle.planner_machine.specs.Sound.{IsKeptReply, IsRow}
use Rattle.planner_machine.specs.declared.content.Bounds.{Bounds}
use Rattle.planner_machine.specs.declared.job.Job.{Job}
use Rattle.plan_tables_content.specs.Facts.{natural, or_null}
use Rattle.plan_tables_loading.specs.declared.meta.Meta.{Meta}

-- the first five cells are those of the occurrence
pub record Leads (row : Row) (cells : Values) : Type 0 where
  pub serial : column cells 0 ≡ natural row.serial
  pub app : column cells 1 ≡ Text row.key.app
  pub ia : column cells 2 ≡ natural row.key.ia
  pub deadline : column cells 3 ≡ natural row.deadline
  pub origin : column cells 4 ≡ or_null (option_map Text (run_cycle_of row.origin))

-- four cells of `plan_meta` encode how far the plans reach
abbrev pub HasBounds : Option Bounds → Values → Type 0
HasBounds None cells = (column cells 2 ≡ natural 0) × (column cells 3 ≡ natural 0) × (column cells 4 ≡ natural 0)
    × (column cells 5 ≡ natural 0)
HasBounds (Some b) cells = (column cells 2 ≡ natural 1) × (column cells 3 ≡ natural b.first_day)
    × (column cells 4 ≡ natural b.last_day) × (column cells 5 ≡ natural b.plan_end)

-- two cells of `plan_meta` encode the options
abbrev pub HasOptions : Options → Values → Type 0
HasOptions options cells =
    (column cells 7 ≡ Text options.default_calendar) × (column cells 8 ≡ natural options.max_extension_hours)

-- ---- forms and ranges

abbrev pub AreDays : Bounds → Type 0
AreDays b = IsDay b.first_day × IsDay b.last_day × IsMoment b.plan_end

abbrev pub IsReadJob : Job → Type 0
IsReadJob job = IsKeptReply job.reply

pub record IsMeta (meta : Meta) : Type 0 where
  pub bounds : IfSome meta.bounds AreDays
  pub issued : meta.issued < 2 ^ 32
  pub default_calendar : IsName meta.options.default_calendar

abbrev pub IsNumberedRow : Row → Type 0
IsNumberedRow row = IsRow row × IsSerial row.serial

abbrev pub IsPair : Pair → Type 0
IsPair pair = IsSerial pair.successor × IsSerial pair.predecessor
