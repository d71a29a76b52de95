use Rattle.std.proofs.Common.{◌≡◌, ◌+◌, ◌∙◌, ap, arith}
use Rattle.work_calendars.specs.Day.{first_day, last_day}
use Rattle.work_calendars.specs.WorkDay.{work_days_before}
use Rattle.work_calendars.specs.WorkIndex.{is_work_in}
use Rattle.work_calendars.proofs.WorkIndexFacts.{none_is_next, value_is_next, is_work_in-past}
use Rattle.work_calendars.proofs.work_index.WorkIndex.next_work.Goals as goal

pub returns-clause-none : goal.returns-clause-none
returns-clause-none c =
    let e : first_day + (c.place.result + 1) ≡ c.args.day + 1 = omega arith in
    none_is_next (is_work_in c.args.self.now) (last_day + 1)
    (is_work_in-past _) c.args.day _ _ (c.count_before.ensures ∙
    ap (work_days_before (is_work_in c.args.self.now)) e) c.nth.ensures.found.1 c.nth.ensures.value

pub returns-clause-value : goal.returns-clause-value
returns-clause-value c =
    let e : first_day + (c.place.result + 1) ≡ c.args.day + 1 = omega arith in
    value_is_next (is_work_in c.args.self.now) (last_day + 1)
    (is_work_in-past _) c.args.day _ _ (c.count_before.ensures ∙
    ap (work_days_before (is_work_in c.args.self.now)) e) c.nth.ensures.value
