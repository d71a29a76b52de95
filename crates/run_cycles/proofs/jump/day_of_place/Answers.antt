use Rattle.work_calendars.specs.WorkIndex.{is_work_in}
use Rattle.run_cycles.proofs.JumpLemmas.{nth_only, nth_rule}
use Rattle.run_cycles.proofs.jump.day_of_place.Goals as goal

pub returns-in-WorkDaysOnly-clause-only : goal.returns-in-WorkDaysOnly-clause-only
returns-in-WorkDaysOnly-clause-only c =
    λ d h. nth_only (is_work_in c.args.index.now.statuses) c.args.place
    c.nth.result c.nth.ensures.none.0 c.nth.ensures.value d
    (nth_rule c.args.rule (is_work_in c.args.index.now.statuses) c.args.place d c.in-WorkDaysOnly.is h)
