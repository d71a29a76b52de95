-- Periods as lists of entries, each with the letter of the period's type.
use Rattle.std.specs.Prelude.{◌≡◌, ℕ, ◌<◌, ◌^◌, List, [], ◌∷◌, Option, Some, map, slice_get, IfSome}
use Rattle.std.specs.Str.{byte}
use Rattle.std.proofs.Common.{ap}
use Rattle.sqlite.specs.Order.{Row as Values, column}
use Rattle.sqlite.specs.declared.types.Value.TheVariants.{Text}
use Rattle.work_calendars.specs.Day.{IsDay}
use Rattle.plan_periods.specs.Period.{Entry, IsSoundPeriod}
use Rattle.plan_periods.specs.declared.periods.Period.{Period}
use Rattle.plan_periods.specs.declared.periods.Period.TheVariants as period
use Rattle.plan_tables_content.specs.Facts.{IsPeriodRow, entry_values}
use Rattle.plan_tables_definitions.specs.Placed.{ByPlace, IsPlaced}

-- the letter, the origin, and the interval or the end
abbrev pub LetteredEntry : Type 0
LetteredEntry = ℕ × ℕ × Option ℕ

-- its row
abbrev pub lettered_values : List ℕ → ℕ → LetteredEntry → Values
lettered_values name place entry = entry_values name place (entry.0 ∷ []) entry.1 entry.2

-- an origin of a list, with its end, under the letter N
abbrev pub listed_entry : Entry → LetteredEntry
listed_entry e = (byte "N", e.0, e.1)

-- the entries of a period
abbrev pub entries_of : Period → List LetteredEntry
entries_of (period.All origin interval) = (byte "A", origin, Some interval) ∷ []
entries_of (period.Work origin interval) = (byte "W", origin, Some interval) ∷ []
entries_of (period.Listed entries) = map listed_entry entries

-- the origin is a day, and the second number is below 2 ^ 32
abbrev pub IsReadable : LetteredEntry → Type 0
IsReadable entry = IsDay entry.1 × IfSome entry.2 (λ n. n < 2 ^ 32)

-- origins and ends are days
abbrev pub AreOfDays : List Entry → Type 0
AreOfDays entries = (place : ℕ) (e : Entry) → slice_get entries place ≡ Some e → IsDay e.0 × IfSome e.1 IsDay

abbrev pub IsOfDays : Period → Type 0
IsOfDays (period.All origin interval) = IsDay origin
IsOfDays (period.Work origin interval) = IsDay origin
IsOfDays (period.Listed entries) = AreOfDays entries

-- each period that is defined is so
pub record IsSoundPeriodOfDays (name : List ℕ) (p : Period) : Type 0 where
  pub sound : IsSoundPeriod p
  pub days : IsOfDays p

pub period_named : (name : List ℕ) (p : Period) (v : Values) → IsPeriodRow name p v → column v 0 ≡ Text name
period_named name (period.All origin interval) v is = ap (λ (r : Values). column r 0) is
period_named name (period.Work origin interval) v is = ap (λ (r : Values). column r 0) is
period_named name (period.Listed entries) v (place, entry, at, is) = ap (λ (r : Values). column r 0) is

pub entry_named : (name : List ℕ) (entries : ByPlace LetteredEntry) (v : Values)
    → IsPlaced (lettered_values name) entries v → column v 0 ≡ Text name
entry_named name entries v (place, entry, at, is) = ap (λ (r : Values). column r 0) is
