use Rattle.std.proofs.Common.{[], Err, Ok}
use Rattle.app_definition_records.proofs.ByNameLemmas.{IfOk-map}
use Rattle.planner_cli.specs.Outcomes.{answer_text, answering}
use Rattle.planner_cli.proofs.TrialServes.{trial_refused}
use Rattle.planner_cli.proofs.trials.print_trial.Goals as goal

pub returns-in_ok-rows-in-Done : goal.returns-in_ok-rows-in-Done
returns-in_ok-rows-in-Done g c =
    IfOk-map c.accepted.result _ _ (λ printed h c' end shows sound.
    let decided = rw c.in-Done.is at c.in_ok-verdict.ensures c' end shows sound in
    let shown = c.in_ok-rows-in-Done.ensures c' c.args.end c.in-Done.reply end shows sound decided in (
      record { rows = shown.lines; line = answer_text (Ok c.in-Done.reply) },
      shown.serves,
      h shown.lines shown.text_is,
    ))
    c.accepted.ensures

pub returns-in-Refused : goal.returns-in-Refused
returns-in-Refused g c =
    IfOk-map c.refused.result _ _ (λ printed h c' end shows sound. (
      answering (Err c.in-Refused.refusal),
      trial_refused _ c' c.in-Refused.refusal (rw c.in-Refused.is at c.in_ok-verdict.ensures c' end shows sound),
      h [] c.new.ensures.items,
    ))
    c.refused.ensures
