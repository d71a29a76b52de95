use Rattle.std.proofs.Common.{refl}
use Rattle.plan_tables_queries.proofs.listed_rows.DecoderValuesSink.accept.Goals as goal

pub returns-in-Err-clause-refused : goal.returns-in-Err-clause-refused
returns-in-Err-clause-refused g c = (refl, (refl, c.in-Err.ensures.untold))
