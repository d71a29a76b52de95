use Rattle.std.proofs.Common.{◌≡◌, sym, subst}
use Rattle.plan_store.specs.Changes.{after}
use Rattle.planner_cli.specs.Verdicts.{left_by}
use Rattle.planner_cli.proofs.ChangeLemmas.{nothing_changed}
use Rattle.planner_cli.proofs.jobs.parts_of.Goals as goal

pub returns-in-Refused-clause-leaves : goal.returns-in-Refused-clause-leaves
returns-in-Refused-clause-leaves c c' fits =
    subst (λ v. after c.none.result c' ≡ left_by v c') (sym c.in-Refused.is)
    (nothing_changed c.none.result c.none.ensures c')
