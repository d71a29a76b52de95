use Rattle.std.proofs.Common.{ap, ◌∙◌}
use Rattle.work_calendars.specs.WorkIndex.{is_work_in}
use Rattle.app_occurrences.specs.NamedOccurrences.{work_in}
use Rattle.planner_cli.proofs.DaysLemmas.{lists_days}
use Rattle.planner_cli.proofs.days.named_days.Goals as goal

pub named_by_index-requires-clause-index : goal.named_by_index-requires-clause-index
named_by_index-requires-clause-index c d =
    ap (λ index. is_work_in index d) c.index-2.ensures ∙ c.in_ok-index.ensures d
    ∙ ap (λ name. work_in c.args.all.now name d) c.calendar_name-calendar.ensures

pub returns-clause-listed : goal.returns-clause-listed
returns-clause-listed c =
    lists_days c.args.all.now c.args.app.now _ c.in-Ok.ensures.active c.args.from c.args.to _
    c.in_ok-list.ensures
