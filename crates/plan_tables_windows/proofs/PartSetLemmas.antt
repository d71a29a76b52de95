-- Equations between rows are mere.
use Rattle.std.proofs.Props.{props}
use Rattle.std.proofs.Common.{ℕ, Option}
use base.Stored.{Coded-set}
use Rattle.occurrences.specs.declared.place.Deletion.{Deletion}
use Rattle.occurrences.specs.contracts.place.Deletion as deletion
use Rattle.occurrences.specs.declared.row.Row.{Row}
use Rattle.occurrences.specs.contracts.row.Row as row

row_set : IsSet Row
row_set = Coded-set row.the_row.coded

deletion_set : IsSet Deletion
deletion_set = Coded-set deletion.the_row.coded

pub number_set : IsSet ℕ
number_set = hlevel props

pub row_found_set : IsSet (Option Row)
row_found_set = hlevel (props, row_set)

pub deletion_found_set : IsSet (Option Deletion)
deletion_found_set = hlevel (props, deletion_set)

pub no_prop : IsProp ⊥
no_prop x y = absurd x
