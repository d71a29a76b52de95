use Rattle.std.proofs.Common.{ap, ◌∙◌, ◌∷◌, ◌+◌, ◌-◌, ◌*◌}
use Rattle.plan_periods.specs.Places.{stepped}
use Rattle.plan_periods.proofs.StepLemmas.{stepped_next, step_is}
use Rattle.plan_periods.proofs.WalkLemmas.{progress_first}
use Rattle.plan_periods.proofs.intervals.IntervalsIterator.next.Goals as goal

pub returns-else-self-clause-steps : goal.returns-else-self-clause-steps
returns-else-self-clause-steps c =
    let n = c.in-All.interval in
    let origin = c.in-All.origin in
    let next = c.self.inside.next in
    let end = c.self.inside.end in
    rw (← c.self.view_is, c.in-All.is) (stepped_next origin n next end c.if-self.false
    ∙ ap (λ x. x ∷ stepped (origin + (next + 1) * n) n (end - (next + 1)))
    (step_is (origin + next * n) n c.step_interval-step.result
    c.step_interval-step.ensures.first c.step_interval-step.ensures.last))

pub returns-else-self-clause-goes : goal.returns-else-self-clause-goes
returns-else-self-clause-goes c = progress_first _ _ _ (returns-else-self-clause-steps c)
