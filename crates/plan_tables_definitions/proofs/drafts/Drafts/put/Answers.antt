use Rattle.std.proofs.Common.{ap, ◌∙◌}
use Rattle.std.specs.FinMap.{insert}
use Rattle.run_cycles.proofs.PeriodsLemmas.{from_entries-put}
use Rattle.plan_tables_definitions.proofs.drafts.Drafts.put.Goals as goal

pub returns : goal.returns
returns g c =
    from_entries-put _ _ c.args.name c.args.draft c.in_ok-_replaced.ensures.updates.0
    ∙ ap (λ m. insert m c.args.name c.args.draft) c.self.view_is
