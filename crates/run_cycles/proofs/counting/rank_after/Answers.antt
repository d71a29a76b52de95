use Rattle.std.proofs.Common.{sym, ◌∙◌, arith}
use Rattle.work_calendars.specs.Day.{IsDay}
use Rattle.work_calendars.specs.WorkIndex.{is_work_in}
use Rattle.work_calendars.proofs.WorkDayFacts.{work_days_before-le, work_days_before-work, work_days_before-free}
use Rattle.work_calendars.proofs.WorkIndexFacts.{IsDay-work_in}
use Rattle.run_cycles.proofs.counting.rank_after.Goals as goal

pub overflow_add-result : goal.overflow_add-result
overflow_add-result c =
    let in_range : IsDay c.args.day = IsDay-work_in c.args.index.now c.args.day (sym c.is_work.ensures ∙
    c.if-is_work.true) in
    let few = work_days_before-le (is_work_in c.args.index.now) c.args.day in
    omega (arith, in_range.1)

pub returns-then-is_work : goal.returns-then-is_work
returns-then-is_work c =
    let one = work_days_before-work (is_work_in c.args.index.now) c.args.day (sym c.is_work.ensures ∙
    c.if-is_work.true) in
    omega arith

pub returns-else-is_work : goal.returns-else-is_work
returns-else-is_work c =
    let none = work_days_before-free (is_work_in c.args.index.now) c.args.day (sym c.is_work.ensures ∙
    c.if-is_work.false) in
    omega arith
