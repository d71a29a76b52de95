use Rattle.std.proofs.Common.{rules, ◌<◌, ◌+◌, length, arith}
use Rattle.work_calendars.specs.Day.{last_day}
use Rattle.work_calendars.specs.WorkIndex.{is_work_in}
use Rattle.work_calendars.proofs.WorkIndexFacts.{none_is_nth, is_work_in-past}
use Rattle.work_calendars.proofs.work_index.WorkIndex.nth.Goals as goal

pub returns-clause-none : goal.returns-clause-none
returns-clause-none c =
    let count = c.self.invariant.days_len in
    let len = c.self.inside.days.ok in
    rw (← c.self.view_is) (none_is_nth (is_work_in c.self.inside.statuses.items)
    (last_day + 1) (is_work_in-past _) c.args.place _ (λ h. let e : c.args.place < length c.deref.result.now =
    omega arith in search rules) (search rules))
