use Rattle.std.proofs.Common.{◌∙◌, List, subst, sym}
use Rattle.app_definition_records.proofs.ByNameLemmas.{IfOk-map}
use Rattle.occurrences.specs.declared.place.CurrentRow.{CurrentRow}
use Rattle.plan_store_lists.specs.Rows.{of_current}
use Rattle.plan_store.specs.Views.{IsAny, ListsSet, shown}
use Rattle.planner_cli.specs.Changes.{daily_change}
use Rattle.planner_cli.proofs.TrialServes.{daily_shown, well_formed}
use Rattle.planner_cli.proofs.WindowLemmas.{lists_current}
use Rattle.planner_cli.proofs.trials.DailyFunctionTry.rows.Goals as goal

pub returns : goal.returns
returns c =
    let function = c.args.self.now in
    let rows = c.deref.result.now in
    let rows_are = subst (λ (l : List CurrentRow). ListsSet of_current (shown c.args.view.now).sets.cp IsAny l)
    (sym (c.deref.ensures.value ∙ c.in_ok-current.ensures)) c.cp.ensures.rows in
    IfOk-map c.daily_rows.result _ _ (λ text report c' end reply is_end shows sound verdict.
    daily_shown function (c.fate_is_followed.ensures (daily_change function))
    (c.sound_content_stays_sound.ensures (daily_change function) (well_formed function)) c.args.made.now reply c' sound
    verdict rows
    (lists_current c.args.view.now c' rows rows_are function end c.args.made.now reply is_end shows verdict) _
    (rw c.deref-2.ensures.value at report)) c.daily_rows.ensures
