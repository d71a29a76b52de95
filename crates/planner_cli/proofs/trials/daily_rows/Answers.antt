use Rattle.app_definition_records.proofs.ByNameLemmas.{IfOk-map}
use Rattle.std.proofs.Common.{List, subst}
use Rattle.plan_listings.specs.Report.{IsReport}
use Rattle.plan_listings.specs.declared.report.Signed.{Signed}
use Rattle.planner_cli.proofs.TrialServes.{daily_signs_are}
use Rattle.planner_cli.proofs.trials.daily_rows.Goals as goal

pub returns : goal.returns
returns c =
    IfOk-map c.dp_report.result _ _
    (λ text h. subst (λ (l : List Signed). IsReport l text.items) (daily_signs_are c.args.moved.now c.args.current.now)
    (rw (
      c.deref.ensures.value,
      c.deref-2.ensures.value,
      c.deref-3.ensures.value,
      c.in_ok-carried.ensures,
      c.in_ok-completed.ensures,
      c.in_ok-deleted.ensures,
    ) at h)) c.dp_report.ensures
