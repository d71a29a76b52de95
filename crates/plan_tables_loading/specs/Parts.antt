-- Parts of a content that are read together.
use Rattle.plan_tables_schema.specs.Rows.{Tables}
use Rattle.plan_tables_schema.specs.declared.tables.Table.TheVariants as table
use Rattle.plan_tables_content.specs.Content.{job_values}
use Rattle.plan_tables_content.specs.Facts.{current_values, deletion_values, link_values, pair_values, row_values}
use Rattle.plan_tables_loading.specs.Order.{NumbersRise, current_number, deletion_number, job_number, row_number}
use Rattle.plan_tables_loading.specs.Tables.{IsOneOf, ShowsOnce, ShowsOnly, RepresentsMetaOnce}
use Rattle.plan_tables_loading.specs.declared.meta.Meta.{Meta}
use Rattle.plan_tables_loading.specs.declared.parts.InOrder.{InOrder}
use Rattle.occurrences.specs.declared.place.CurrentRow.{CurrentRow}
use Rattle.occurrences.specs.declared.place.Deletion.{Deletion}
use Rattle.occurrences.specs.declared.row.Row.{Row}
use Rattle.planner_machine.specs.declared.job.Job.{Job}
use Rattle.plan_tables_loading.specs.declared.parts.LinkRows.{LinkRows}
use Rattle.plan_tables_loading.specs.declared.parts.PairRows.{PairRows}

-- the rows of the four sets
abbrev pub RowParts : Type 0
RowParts = (InOrder Row 8 × InOrder CurrentRow 9) × (InOrder Row 10 × InOrder Deletion 11)

-- the lists in force, the pairs, how far the plans reach, and the jobs
abbrev pub Rest : Type 0
Rest = (LinkRows × PairRows) × (Meta × InOrder Job 13)

abbrev pub AreRowsInOrder : RowParts → Type 0
AreRowsInOrder p =
    (NumbersRise row_number p.0.0.rows.items × NumbersRise current_number p.0.1.rows.items)
    × (NumbersRise row_number p.1.0.rows.items × NumbersRise deletion_number p.1.1.rows.items)

abbrev pub AreRestInOrder : Rest → Type 0
AreRestInOrder p = (Unit {0} × Unit {0}) × (Unit {0} × NumbersRise job_number p.1.1.rows.items)

abbrev pub RepresentRowParts : Tables → RowParts → Type 0
RepresentRowParts all p =
    (ShowsOnce all table.LongTerm (IsOneOf row_values p.0.0.rows.items)
    × ShowsOnce all table.Current (IsOneOf current_values p.0.1.rows.items))
    × (ShowsOnce all table.History (IsOneOf row_values p.1.0.rows.items)
    × ShowsOnce all table.Deletion (IsOneOf deletion_values p.1.1.rows.items))

abbrev pub RepresentRest : Tables → Rest → Type 0
RepresentRest all p =
    (ShowsOnly all table.LinkInForce (IsOneOf link_values p.0.0.links)
    × ShowsOnce all table.Dependency (IsOneOf pair_values p.0.1.pairs.items))
    × (RepresentsMetaOnce all p.1.0 × ShowsOnce all table.Job (IsOneOf job_values p.1.1.rows.items))
