-- The number of a fault for which no stream is run.
use Rattle.std.specs.Prelude.{ℕ}
use Rattle.plan_migrations.specs.Faults as migrating
use Rattle.plan_tables_opening.specs.Faults as opening
use Rattle.plan_files.specs.declared.refusals.Unrun.{Unrun}
use Rattle.plan_files.specs.declared.refusals.Unrun.TheVariants.{Unadopted, Unmigrated, Unopened}

-- the number that a program reports
abbrev pub number_of : Unrun → ℕ
number_of (Unopened fault) = opening.number_of fault
number_of (Unmigrated fault) = migrating.number_of fault
number_of (Unadopted fault) = opening.number_of fault
