-- Sets as the rows of a table encode them.
use Rattle.std.specs.Prelude.{◌≡◌, ℕ, List, Option, map}
use Rattle.sqlite.specs.Order.{Row as Values}
use Rattle.occurrences.specs.declared.place.Deletion.{Deletion}
use Rattle.occurrences.specs.declared.row.Row.{Row}
use Rattle.planner_machine.specs.Content.{Content}
use Rattle.planner_machine.specs.declared.job.Job.{Job}
use Rattle.plan_store_lists.specs.Rows.{look_up}
use Rattle.plan_tables_schema.specs.Rows.{Tables, shown}
use Rattle.plan_tables_schema.specs.declared.tables.Table.TheVariants as table
use Rattle.plan_tables_content.specs.Content.{IsContentOf}
use Rattle.plan_tables_content.specs.Decoded.{deletion_of, job_of, row_of}

-- under a number the first of the facts that has it
abbrev pub told_set : {X : Type 0} → (Values → X) → (X → ℕ) → List Values → ℕ → Option X
told_set fact_of number_of rows = look_up number_of (map fact_of rows)

abbrev pub told_history : Tables → ℕ → Option Row
told_history all = told_set row_of (λ row. row.serial) (map (shown table.History) (all table.History))

abbrev pub told_deletions : Tables → ℕ → Option Deletion
told_deletions all =
    told_set deletion_of (λ deletion. deletion.row.serial) (map (shown table.Deletion) (all table.Deletion))

abbrev pub told_jobs : Tables → ℕ → Option Job
told_jobs all = told_set job_of (λ job. job.number) (map (shown table.Job) (all table.Job))

-- these are the sets of the content that the tables have
pub record RepresentSets (all : Tables) (c : Content) : Type 0 where
  pub history : told_history all ≡ c.sets.history
  pub deletions : told_deletions all ≡ c.sets.deletions
  pub jobs : told_jobs all ≡ c.jobs

abbrev pub AllRepresentSets : Type 0
AllRepresentSets = (all : Tables) (c : Content) → IsContentOf all c → RepresentSets all c
