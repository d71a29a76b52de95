use Rattle.std.proofs.Common.{sym, subst}
use Rattle.plan_tables_opening.specs.Queries.{IsReading}
use Rattle.plan_migrations.proofs.TextLemmas.{select_reads}
use Rattle.plan_migrations.proofs.tables.check_table.Goals as goal

pub ask-requires-clause-reading : goal.ask-requires-clause-reading
ask-requires-clause-reading g c = subst IsReading (sym c.select_text.ensures) (select_reads c.args.table.now)
