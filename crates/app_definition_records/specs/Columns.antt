-- The columns of records, in figures. A column that moves is refused until this page says the same.
use Rattle.std.specs.Prelude.{◌≡◌, [], ◌∷◌, refl}
use Rattle.app_definition_records.specs.declared.columns.TheConstants.{NAME, APPLICATION_STATUS, APPLICATION_CALENDAR}
use Rattle.app_definition_records.specs.declared.columns.TheConstants.{CALENDAR_ENTRY, CALENDAR_STATUS, PREDECESSOR}
use Rattle.app_definition_records.specs.declared.columns.TheConstants.{PREDECESSOR_WITHIN}
use Rattle.app_definition_records.specs.declared.columns.TheConstants.{PERIOD_TYPE, PERIOD_ORIGIN, PERIOD_LENGTH}
use Rattle.app_definition_records.specs.declared.columns.TheConstants.{CYCLE_NAME, CYCLE_TYPE, CYCLE_PERIOD, CYCLE_RULE}
use Rattle.app_definition_records.specs.declared.columns.TheConstants.{CYCLE_OFFSETS, CYCLE_IN_EFFECT, CYCLE_OUT_EFFECT}
use Rattle.app_definition_records.specs.declared.columns.TheConstants.{CYCLE_IA, CYCLE_DEADLINE_DAY, CYCLE_DEADLINE_TIME}
use Rattle.app_definition_records.specs.declared.columns.TheConstants.{APPLICATION_FIELDS, CALENDAR_FIELDS, PERIOD_FIELDS}
use Rattle.app_definition_records.specs.declared.columns.TheConstants.{PREDECESSOR_FIELDS, CYCLE_FIELDS}
use Rattle.app_definition_records.specs.declared.columns.TheConstants.{LIMITED_PREDECESSOR_FIELDS}

-- application, status, calendar
pub application : (NAME ∷ APPLICATION_STATUS ∷ APPLICATION_CALENDAR ∷ []) ≡ (0 ∷ 1 ∷ 2 ∷ [])
application = refl

-- calendar, entry, status
pub calendar : (NAME ∷ CALENDAR_ENTRY ∷ CALENDAR_STATUS ∷ []) ≡ (0 ∷ 1 ∷ 2 ∷ [])
calendar = refl

-- period, type, origin, interval or end
pub period : (NAME ∷ PERIOD_TYPE ∷ PERIOD_ORIGIN ∷ PERIOD_LENGTH ∷ []) ≡ (0 ∷ 1 ∷ 2 ∷ 3 ∷ [])
period = refl

-- application, predecessor, limit
pub predecessor : (NAME ∷ PREDECESSOR ∷ PREDECESSOR_WITHIN ∷ []) ≡ (0 ∷ 1 ∷ 2 ∷ [])
predecessor = refl

-- application, name, type, period, rule, offsets
pub cycle_begins : (NAME ∷ CYCLE_NAME ∷ CYCLE_TYPE ∷ CYCLE_PERIOD ∷ CYCLE_RULE ∷ CYCLE_OFFSETS ∷ []) ≡
    (0 ∷ 1 ∷ 2 ∷ 3 ∷ 4 ∷ 5 ∷ [])
cycle_begins = refl

-- in effect, out of effect, input arrival, deadline day, deadline time
pub cycle_ends : (CYCLE_IN_EFFECT ∷ CYCLE_OUT_EFFECT ∷ CYCLE_IA ∷ CYCLE_DEADLINE_DAY ∷ CYCLE_DEADLINE_TIME ∷ []) ≡
    (6 ∷ 7 ∷ 8 ∷ 9 ∷ 10 ∷ [])
cycle_ends = refl

-- the fields of a record of each kind
pub fields : (APPLICATION_FIELDS ∷ CALENDAR_FIELDS ∷ PERIOD_FIELDS ∷ PREDECESSOR_FIELDS ∷ CYCLE_FIELDS ∷ []) ≡
    (3 ∷ 3 ∷ 4 ∷ 2 ∷ 11 ∷ [])
fields = refl

-- the fields of a predecessor's record with a limit
pub limited : LIMITED_PREDECESSOR_FIELDS ≡ 3
limited = refl
