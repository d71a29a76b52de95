-- The records of periods: period, type, origin, second.
use Rattle.std.specs.Prelude.{◌≡◌, ◌⊎◌, ℕ, ◌<◌, ◌≤◌, ◌-◌, List, [], ◌∷◌, length, None, codes}
use Rattle.std.specs.List.{slice_index_or}
use Rattle.plan_periods.specs.Period.{Entry, EndsFromOrigin}
use Rattle.plan_periods.specs.declared.periods.TheConstants.{MAX_INTERVAL}
use Rattle.plan_periods.specs.declared.periods.Period.{Period}
use Rattle.plan_periods.specs.declared.periods.Period.TheVariants.{All as AllDays, Work, Listed}
use Rattle.work_calendars.specs.Name.{IsShort}
use Rattle.work_calendars.specs.Spelling.{SpellsDay}
use Rattle.app_definition_records.specs.Fields.{field, IsDayText, SpellsOptionalDay, IsNumberUpTo, number_value}
use Rattle.app_definition_records.specs.Records.{Record, Records}
use Rattle.app_definition_records.specs.declared.columns.TheConstants.{NAME, PERIOD_TYPE, PERIOD_ORIGIN, PERIOD_LENGTH}

-- the record's last field is the length of an interval
abbrev pub HasInterval : Record → Type 0
HasInterval row = IsNumberUpTo MAX_INTERVAL (field row PERIOD_LENGTH) × (1 ≤ number_value (field row PERIOD_LENGTH))

-- the record gives this origin, and this end or none, which is not before the origin
abbrev pub GivesEntry : Record → Entry → Type 0
GivesEntry row entry = SpellsDay (field row PERIOD_ORIGIN) entry.0
    × SpellsOptionalDay (field row PERIOD_LENGTH) entry.1 × EndsFromOrigin entry

-- the first record of a period: type A or W with an origin and an interval, or type N with an origin and an end or none
abbrev pub BeginsPeriod : Record → Type 0
BeginsPeriod row =
    IsShort (field row NAME)
    × (((((field row PERIOD_TYPE ≡ codes "A") ⊎ (field row PERIOD_TYPE ≡ codes "W"))
    × IsDayText (field row PERIOD_ORIGIN) × HasInterval row))
    ⊎ ((field row PERIOD_TYPE ≡ codes "N") × ((entry : Entry) × GivesEntry row entry)))

-- the origin of a record is later than that of the last of these
abbrev pub IsLaterThan : Records → ℕ → Type 0
IsLaterThan before origin = (last : ℕ)
    → SpellsDay (field (slice_index_or before (length before - 1) []) PERIOD_ORIGIN) last → last < origin

-- a further record of a period: both it and the first are of type N, and its origin is later than that of the record
-- before it
abbrev pub GoesOnPeriod : Records → Record → Type 0
GoesOnPeriod before row =
    (field (slice_index_or before 0 []) PERIOD_TYPE ≡ codes "N") × (field row PERIOD_TYPE ≡ codes "N")
    × ((entry : Entry) × GivesEntry row entry × IsLaterThan before entry.0)

-- a record after the earlier ones of its period
abbrev pub FitsPeriod : Records → Record → Type 0
FitsPeriod [] row = BeginsPeriod row
FitsPeriod (first ∷ more) row = GoesOnPeriod (first ∷ more) row

-- each record gives the entry at its place
pub record GiveEntries (rows : Records) (entries : List Entry) : Type 0 where
  pub same_length : length rows ≡ length entries
  pub each : (k : ℕ) → k < length rows → GivesEntry (slice_index_or rows k []) (slice_index_or entries k (0, None))

-- the period that its records give: by the type of the first, intervals from its origin on, or the listed ones
abbrev pub IsPeriodOf : Period → Records → Type 0
IsPeriodOf (AllDays origin interval) rows =
    (field (slice_index_or rows 0 []) PERIOD_TYPE ≡ codes "A")
    × SpellsDay (field (slice_index_or rows 0 []) PERIOD_ORIGIN) origin
    × (interval ≡ number_value (field (slice_index_or rows 0 []) PERIOD_LENGTH))
IsPeriodOf (Work origin interval) rows =
    (field (slice_index_or rows 0 []) PERIOD_TYPE ≡ codes "W")
    × SpellsDay (field (slice_index_or rows 0 []) PERIOD_ORIGIN) origin
    × (interval ≡ number_value (field (slice_index_or rows 0 []) PERIOD_LENGTH))
IsPeriodOf (Listed entries) rows = (field (slice_index_or rows 0 []) PERIOD_TYPE ≡ codes "N") × GiveEntries rows entries

-- an entry's origin is later than that of the last of these
abbrev pub IsLater : List Entry → Entry → Type 0
IsLater entries entry = 0 < length entries → (slice_index_or entries (length entries - 1) (0, None)).0 < entry.0
