-- The records of applications: application, status, calendar.
use Rattle.std.specs.Prelude.{◌≡◌, ◌↔◌, ◌⊎◌, [], codes, IsTrue}
use Rattle.std.specs.Prelude.{get_or}
use Rattle.work_calendars.specs.Name.{IsName}
use Rattle.app_definition_records.specs.declared.applications.Application.{Application}
use Rattle.app_definition_records.specs.Fields.{field, some_unless_empty, IsEmptyOr}
use Rattle.app_definition_records.specs.Records.{Record, Records}
use Rattle.app_definition_records.specs.declared.columns.TheConstants.{APPLICATION_STATUS, APPLICATION_CALENDAR}

-- a record after the earlier ones of its application: there are none, its status is A, active, or P, pending, and its
-- calendar is a name or empty
pub record FitsApplication (before : Records) (row : Record) : Type 0 where
  pub only : before ≡ []
  pub status : (field row APPLICATION_STATUS ≡ codes "A") ⊎ (field row APPLICATION_STATUS ≡ codes "P")
  pub calendar : IsEmptyOr IsName (field row APPLICATION_CALENDAR)

-- the application that its one record gives
pub record IsApplicationOf (a : Application) (rows : Records) : Type 0 where
  pub active : IsTrue a.active ↔ (field (get_or rows 0 []) APPLICATION_STATUS ≡ codes "A")
  pub calendar : a.calendar ≡ some_unless_empty (field (get_or rows 0 []) APPLICATION_CALENDAR)
