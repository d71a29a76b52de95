use Rattle.app_definition_records.proofs.ByNameLemmas.{IfOk-map}
use Rattle.planner_cli.specs.Changes.{plan_change}
use Rattle.planner_cli.proofs.TrialServes.{plan_shown}
use Rattle.planner_cli.proofs.trials.PlanFunctionTry.rows.Goals as goal

pub returns : goal.returns
returns c =
    let function = c.args.self.now in
    IfOk-map c.ltp_report.result _ _ (λ text report c' end reply is_end shows sound verdict.
    plan_shown function (c.fate_is_followed.ensures (plan_change function))
    (c.sound_content_stays_sound.ensures (plan_change function) c.plan_is_well_formed.ensures) c.args.made.now reply c'
    sound verdict _ (rw (c.deref.ensures.value, c.deref-2.ensures.value) at report)) c.ltp_report.ensures
