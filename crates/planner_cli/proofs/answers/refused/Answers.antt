use Rattle.std.proofs.Common.{◌++◌, ◌∙◌, ap}
use Rattle.plan_listings.specs.Reply.{refusal_text}
use Rattle.planner_cli.specs.Replies.{ended}
use Rattle.planner_cli.proofs.OutcomeLemmas.{refused_prints}
use Rattle.planner_cli.proofs.answers.refused.Goals as goal

pub returns : goal.returns
returns c lines e =
    let line = ended (refusal_text c.args.refusal.now) in
    refused_prints c.args.refusal.now lines _
    (c.in_ok-append_line.ensures ∙ ap (λ l. c.args.rows.items ++ ended l)
    (c.deref.ensures.value ∙ c.in_ok-refusal_line.ensures) ∙ ap (λ l. l ++ line) e)
