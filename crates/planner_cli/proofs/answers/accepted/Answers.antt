use Rattle.std.proofs.Common.{◌++◌, ◌∙◌, ap}
use Rattle.plan_listings.specs.Reply.{reply_text}
use Rattle.planner_cli.specs.Replies.{ended}
use Rattle.planner_cli.proofs.OutcomeLemmas.{accepted_prints}
use Rattle.planner_cli.proofs.answers.accepted.Goals as goal

pub returns : goal.returns
returns c lines e =
    let line = ended (reply_text c.args.reply.now) in
    accepted_prints c.args.reply.now lines _
    (c.in_ok-append_line.ensures ∙ ap (λ l. c.args.rows.items ++ ended l)
    (c.deref.ensures.value ∙ c.in_ok-reply_line.ensures) ∙ ap (λ l. l ++ line) e)
