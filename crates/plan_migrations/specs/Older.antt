-- A database whose plan is brought to the current schema before it is adopted.
use Rattle.std.specs.Prelude.{◌≡◌, ◌⊎◌, ℕ, IsTrue, Option, Some}
use Rattle.sqlite.specs.State.{State}
use Rattle.plan_tables_opening.specs.Foreign.{RefusesVersion}
use Rattle.plan_tables_schema.specs.declared.tables.TheConstants.{SCHEMA_VERSION}
use Rattle.plan_migrations.specs.Migrating.{IsRenewed}
use Rattle.plan_migrations.specs.Schemas.{ShowsVersion}
use Rattle.plan_migrations.specs.declared.versions.TheConstants.{FIRST_VERSION}

-- the connection is open; its database is without tables or of the current version, and is as it was, or its tables of
-- schema 1 are replaced
pub record IsCurrent (old new : State) : Type 0 where
  pub is_open : IsTrue new.is_open
  pub current : ((RefusesVersion old new ⊎ ShowsVersion SCHEMA_VERSION old new) × (new.now ≡ old.now)) ⊎ IsRenewed old new

-- what the version that was found says of it: the tables of version 1 are replaced, and a database of another version,
-- or without tables, is as it was
pub record IsFoundAs (found : Option ℕ) (old new : State) : Type 0 where
  pub first : found ≡ Some FIRST_VERSION → IsRenewed old new
  pub other : (found ≡ Some FIRST_VERSION → ⊥) → new.now ≡ old.now
