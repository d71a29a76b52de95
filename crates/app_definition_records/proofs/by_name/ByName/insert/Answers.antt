use Rattle.std.proofs.Common.{ap, ◌∙◌}
use Rattle.std.specs.FinMap.{insert}
use Rattle.run_cycles.proofs.PeriodsLemmas.{from_entries-put}
use Rattle.app_definition_records.proofs.by_name.ByName.insert.Goals as goal

pub returns-clause-ok : goal.returns-clause-ok
returns-clause-ok g c =
    from_entries-put _ _ c.args.name c.args.definition c.in_ok-_replaced.ensures.updates.0
    ∙ ap (λ m. insert m c.args.name c.args.definition) c.self.view_is
