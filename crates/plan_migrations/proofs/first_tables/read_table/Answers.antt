use Rattle.std.proofs.Common.{sym, subst}
use Rattle.plan_tables_opening.specs.Queries.{IsReading}
use Rattle.plan_migrations.proofs.TextLemmas.{first_reads}
use Rattle.plan_migrations.proofs.first_tables.read_table.Goals as goal

pub ask-requires-clause-reading : goal.ask-requires-clause-reading
ask-requires-clause-reading g c = subst IsReading (sym c.first_select_text.ensures) (first_reads c.args.table)
