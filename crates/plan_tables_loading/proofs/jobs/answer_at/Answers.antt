use Rattle.std.proofs.Common.{refl}
use Rattle.plan_tables_loading.proofs.LineLemmas.{utf8_line}
use Rattle.plan_tables_loading.proofs.jobs.answer_at.Goals as goal

pub returns-in-None-clause-none : goal.returns-in-None-clause-none
returns-in-None-clause-none c none answer kept is = c.in-None.ensures.none refl _ (utf8_line answer kept) is
