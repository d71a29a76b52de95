-- Rows, deletions and what the tables tell beside lists are sets: two equations between two of them are the same.
use Rattle.std.proofs.Common.{List, Option, ℕ}
use Rattle.std.proofs.Props.{props}
use base.Stored.{Coded-set}
use Rattle.occurrences.specs.declared.place.Deletion.{Deletion}
use Rattle.occurrences.specs.contracts.place.Deletion as deletion
use Rattle.occurrences.specs.declared.row.Row.{Row}
use Rattle.occurrences.specs.contracts.row.Row as row
use Rattle.planner_machine.specs.declared.job.Job.{Job}
use Rattle.planner_machine.specs.contracts.job.Job as job
use Rattle.plan_store.specs.Parts.{Rest}

deletion_set : IsSet Deletion
deletion_set = Coded-set deletion.the_row.coded

pub row_set : IsSet Row
row_set = Coded-set row.the_row.coded

job_set : IsSet Job
job_set = Coded-set job.the_row.coded

pub row_found_set : IsSet (Option Row)
row_found_set = hlevel (props, row_set)

pub deletion_found_set : IsSet (Option Deletion)
deletion_found_set = hlevel (props, deletion_set)

pub rest_set : IsSet Rest
rest_set = hlevel (props, deletion_set, row_set, job_set)

pub name_set : IsSet (List ℕ)
name_set = hlevel props

pub no_prop : IsProp ⊥
no_prop x y = absurd x
