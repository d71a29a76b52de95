-- How many fields the records of each kind have.
use Rattle.std.specs.Prelude.{◌≡◌, ◌⊎◌, ℕ}
use Rattle.app_definition_records.specs.declared.columns.TheConstants.{APPLICATION_FIELDS, CALENDAR_FIELDS, CYCLE_FIELDS}
use Rattle.app_definition_records.specs.declared.columns.TheConstants.{LIMITED_PREDECESSOR_FIELDS, PERIOD_FIELDS}
use Rattle.app_definition_records.specs.declared.columns.TheConstants.{PREDECESSOR_FIELDS}

abbrev pub HasApplicationFields : ℕ → Type 0
HasApplicationFields count = count ≡ APPLICATION_FIELDS

abbrev pub HasCalendarFields : ℕ → Type 0
HasCalendarFields count = count ≡ CALENDAR_FIELDS

abbrev pub HasPeriodFields : ℕ → Type 0
HasPeriodFields count = count ≡ PERIOD_FIELDS

-- with the field of a limit, or without it
abbrev pub HasPredecessorFields : ℕ → Type 0
HasPredecessorFields count = (count ≡ PREDECESSOR_FIELDS) ⊎ (count ≡ LIMITED_PREDECESSOR_FIELDS)

abbrev pub HasCycleFields : ℕ → Type 0
HasCycleFields count = count ≡ CYCLE_FIELDS
