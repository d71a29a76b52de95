-- Contents are a set: two equations between two contents are the same.
use Rattle.std.proofs.Props.{props}
use Rattle.std.specs.Prelude.{◌≡◌, ℕ, Bool, IsTrue, List, Option}
use base.Stored.{Coded-set}
use Rattle.app_definitions.specs.declared.definitions.Definitions.{Definitions}
use Rattle.app_definitions.specs.contracts.definitions.Definitions as definitions
use Rattle.occurrences.specs.declared.place.CurrentRow.{CurrentRow}
use Rattle.occurrences.specs.contracts.place.CurrentRow as current
use Rattle.occurrences.specs.declared.place.Deletion.{Deletion}
use Rattle.occurrences.specs.contracts.place.Deletion as deletion
use Rattle.occurrences.specs.declared.row.Row.{Row}
use Rattle.occurrences.specs.contracts.row.Row as row
use Rattle.external_dependencies.specs.declared.links.Link.{Link}
use Rattle.external_dependencies.specs.contracts.links.Link as link
use Rattle.external_dependencies.specs.declared.pairs.Pair.{Pair}
use Rattle.external_dependencies.specs.contracts.pairs.Pair as pair
use Rattle.planner_machine.specs.Content.{Content, Sets}
use Rattle.planner_machine.specs.declared.content.Bounds.{Bounds}
use Rattle.planner_machine.specs.contracts.content.Bounds as bounds
use Rattle.planner_machine.specs.declared.job.Job.{Job}
use Rattle.planner_machine.specs.contracts.job.Job as job

definitions_set : IsSet Definitions
definitions_set = Coded-set definitions.the_row.coded

current_set : IsSet CurrentRow
current_set = Coded-set current.the_row.coded

deletion_set : IsSet Deletion
deletion_set = Coded-set deletion.the_row.coded

pub row_set : IsSet Row
row_set = Coded-set row.the_row.coded

link_set : IsSet Link
link_set = Coded-set link.the_row.coded

pair_set : IsSet Pair
pair_set = Coded-set pair.the_row.coded

bounds_set : IsSet Bounds
bounds_set = Coded-set bounds.the_row.coded

job_set : IsSet Job
job_set = Coded-set job.the_row.coded

sets_set : IsSet Sets
sets_set = hlevel (props, current_set, deletion_set, row_set, bounds_set)

pub content_set : IsSet Content
content_set = hlevel (props, definitions_set, sets_set, link_set, pair_set, job_set)

pub found_set : IsSet (Option Job)
found_set = hlevel (props, job_set)

pub truth_prop : (b : Bool) → IsProp (IsTrue b)
truth_prop b = hlevel props

pub test_prop : (a b : Bool) → IsProp (a ≡ b)
test_prop a b = hlevel props

pub deletions_set : IsSet (List Deletion)
deletions_set = hlevel (props, deletion_set)

pub no_prop : IsProp ⊥
no_prop x y = absurd x

pub size_set : IsSet ℕ
size_set = hlevel props

pub row_found_set : IsSet (Option Row)
row_found_set = hlevel (props, row_set)

pub deletion_found_set : IsSet (Option Deletion)
deletion_found_set = hlevel (props, deletion_set)
