use Rattle.plan_migrations.proofs.renewing.renew.Goals as goal

pub renew_first-requires-clause-first : goal.renew_first-requires-clause-first
renew_first-requires-clause-first g c = c.in-Ok.ensures.0 c.if-is_first.true
