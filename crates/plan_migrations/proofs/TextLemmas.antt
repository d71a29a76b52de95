-- The texts that show tables only read.
use Rattle.sqlite_tied.specs.Compute.{everything}
use Rattle.sqlite_resolve.specs.Compile.{first}
use Rattle.plan_tables_opening.specs.Queries.{IsReading}
use Rattle.plan_tables_opening.specs.Rowids.{rowid_sql}
use Rattle.plan_tables_schema.specs.Texts.{select_sql}
use Rattle.plan_tables_schema.specs.declared.tables.Table.{Table}
use Rattle.plan_tables_schema.specs.declared.tables.Table.TheVariants.{Meta}
use Rattle.plan_migrations_remaking.specs.FirstTexts.{first_select_sql}

pub select_reads : (t : Table) → IsReading (select_sql t)
unfolding first everything
select_reads Meta = tt
select_reads t = tt

pub rowid_reads : (t : Table) → IsReading (rowid_sql t)
unfolding first everything
rowid_reads Meta = tt
rowid_reads t = tt

pub first_reads : (t : Table) → IsReading (first_select_sql t)
unfolding first everything
first_reads Meta = tt
first_reads t = tt
