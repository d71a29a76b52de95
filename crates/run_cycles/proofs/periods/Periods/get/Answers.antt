use Rattle.std.proofs.Common.{ap, ◌∙◌}
use Rattle.std.specs.FinMap.{get}
use Rattle.run_cycles.proofs.PeriodsLemmas.{get-lookup}
use Rattle.run_cycles.proofs.periods.Periods.get.Goals as goal

pub returns-clause-value : goal.returns-clause-value
returns-clause-value c =
    c.get.ensures.value ∙ get-lookup c.args.name.now _ ∙ ap (λ m. get m c.args.name.now) c.self.view_is
