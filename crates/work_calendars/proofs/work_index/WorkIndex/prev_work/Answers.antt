use Rattle.std.proofs.Common.{◌+◌, ◌∙◌, ap, refl, arith}
use Rattle.work_calendars.specs.Day.{last_day}
use Rattle.work_calendars.specs.WorkDay.{work_days_before}
use Rattle.work_calendars.specs.WorkIndex.{is_work_in}
use Rattle.work_calendars.proofs.WorkIndexFacts.{none_is_previous, value_is_previous, is_work_in-past}
use Rattle.work_calendars.proofs.WorkDayFacts.{HasNoWorkDayBefore-from_count}
use Rattle.work_calendars.proofs.work_index.WorkIndex.prev_work.Goals as goal

pub returns-then-count-eq0-clause-none : goal.returns-then-count-eq0-clause-none
returns-then-count-eq0-clause-none c =
    let e = c.place-days.ensures.value in
    let count = c.count_before-count.ensures ∙ ap (work_days_before (is_work_in c.args.self.now)) e in
    (λ _. HasNoWorkDayBefore-from_count (is_work_in c.args.self.now) c.args.day (omega arith), λ _. refl)

pub returns-clause-none : goal.returns-clause-none
returns-clause-none c =
    let e = c.place-days.ensures.value in
    let count = c.count_before-count.ensures ∙ ap (work_days_before (is_work_in c.args.self.now)) e in
    none_is_previous (is_work_in c.args.self.now) (last_day + 1)
    (is_work_in-past _) c.args.day _ _ (omega arith) (omega arith) c.nth.ensures.found.1 c.nth.ensures.value

pub returns-clause-value : goal.returns-clause-value
returns-clause-value c =
    let e = c.place-days.ensures.value in
    let count = c.count_before-count.ensures ∙ ap (work_days_before (is_work_in c.args.self.now)) e in
    value_is_previous (is_work_in c.args.self.now) (last_day + 1)
    (is_work_in-past _) c.args.day _ _ (omega arith) c.nth.ensures.value
