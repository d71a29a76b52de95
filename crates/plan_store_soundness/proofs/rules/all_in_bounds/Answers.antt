use Rattle.plan_store_soundness.proofs.NumberedLemmas.{has_rows}
use Rattle.plan_store_soundness.proofs.RuleLemmas.{all_arrive_from, all_arrive_to}
use Rattle.plan_store_soundness.proofs.rules.all_in_bounds.Goals as goal

pub returns-in-Some : goal.returns-in-Some
returns-in-Some c numbered =
    let kept = c.args.content.now in
    let bounds = c.in-Some.bounds in
    let all = c.args.all.now in (
      λ yes. all_arrive_from kept (has_rows kept) numbered bounds c.in-Some.is all c.requires (c.all_arrive.ensures.0 yes),
      λ arrive. c.all_arrive.ensures.1
          (all_arrive_to kept (has_rows kept) numbered bounds c.in-Some.is all c.requires arrive),
    )
