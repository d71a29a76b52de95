use Rattle.std.proofs.Common.{◌≡◌, ◌<◌, ◌+◌, ◌-◌, ◌∙◌, length, false, ap, arith}
use Rattle.std.specs.List.{slice_index_or}
use Rattle.std.proofs.lemmas.List.{get_or_default}
use Rattle.work_calendars.specs.Day.{first_day, last_day}
use Rattle.work_calendars.specs.Calendar.{is_work_day}
use Rattle.work_calendars.proofs.WorkDayFacts.{work_days_before-le}
use Rattle.work_calendars.proofs.WorkIndexFacts.{CountsUpTo-start, CountsUpTo-more, IsIndex-from_counts}
use Rattle.work_calendars.proofs.WorkIndexFacts.{is_work_in-statuses, IsDay-work_day}
use Rattle.work_calendars.proofs.work_index.WorkIndex.build.Goals as goal

pub loop-number-init : goal.loop-number-init
loop-number-init c =
    rw (c.in_ok-ranks.ensures.items, c.in_ok-days.ensures.items)
    (CountsUpTo-start _ (IsDay-work_day c.args.calendar.now))

pub overflow_cast-len : goal.overflow_cast-len
overflow_cast-len c =
    let n = work_days_before-le (is_work_day c.args.calendar.now) c.loop-number.number in
    let d = c.loop-number.invariant.days_len in
    omega arith

pub loop-number-preserved : goal.loop-number-preserved
loop-number-preserved c =
    let statuses = c.in_ok-statuses.statuses.items in
    let len = c.in_ok-statuses.ensures.len in
    let in_range = c.place.ensures.in_range in
    let within : c.place.result < length statuses = omega arith in
    let at : c.place.result ≡ c.loop-number.number - first_day = omega arith in
    let is : c.index.result.now ≡ is_work_day c.args.calendar.now c.loop-number.number
    = c.index.ensures ∙ get_or_default statuses _ _ false within ∙
    ap (λ i. slice_index_or statuses i false) at ∙ c.in_ok-statuses.ensures.are _ in_range in
    rw (c.in_ok-push.ensures.items, c.in_ok-push_work_day.ensures)
    (CountsUpTo-more _ _ _ _ _ _ c.loop-number.invariant is (let o = c.loop-number.days.ok in omega arith))

pub overflow_cast-len-2 : goal.overflow_cast-len-2
overflow_cast-len-2 c =
    let n = work_days_before-le (is_work_day c.args.calendar.now) c.loop-number.number in
    let d = c.loop-number.invariant.days_len in
    omega arith

pub invariant_of-result : goal.invariant_of-result
invariant_of-result c =
    let e : c.loop-number.number ≡ last_day + 1 = omega arith in
    rw c.in_ok-push-2.ensures.items (IsIndex-from_counts (is_work_day c.args.calendar.now) _ _ _ _
    (IsDay-work_day c.args.calendar.now) c.in_ok-statuses.ensures (rw e at c.loop-number.invariant) (let o =
    c.loop-number.days.ok in omega arith))

pub returns : goal.returns
returns c =
    is_work_in-statuses (is_work_day c.args.calendar.now) _ (IsDay-work_day c.args.calendar.now)
    c.in_ok-statuses.ensures
