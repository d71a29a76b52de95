use Rattle.std.proofs.Common.{sym, subst}
use Rattle.plan_tables_opening.specs.Queries.{IsReading}
use Rattle.plan_tables_opening.proofs.ForeignLemmas.{version_reads}
use Rattle.plan_migrations.proofs.versions.shown_version.Goals as goal

pub ask-requires-clause-reading : goal.ask-requires-clause-reading
ask-requires-clause-reading g c = subst IsReading (sym c.version_text.ensures) version_reads
