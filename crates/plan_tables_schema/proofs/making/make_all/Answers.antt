use Rattle.plan_tables_schema.proofs.MakingLemmas.{makes_whole}
use Rattle.plan_tables_schema.proofs.making.make_all.Goals as goal

pub returns : goal.returns
returns g c = makes_whole c.make_each.ensures
