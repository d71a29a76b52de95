use Rattle.std.proofs.Common.{sym, ◌∙◌, arith}
use Rattle.plan_periods.specs.Interval.{HoldsDay}
use Rattle.work_calendars.specs.Day.{IsDay}
use Rattle.work_calendars.specs.WorkIndex.{is_work_in}
use Rattle.work_calendars.proofs.WorkDayFacts.{work_days_before-le}
use Rattle.work_calendars.proofs.WorkIndexFacts.{IsDay-work_in}
use Rattle.run_cycles.proofs.CountLemmas.{any_count_is}
use Rattle.run_cycles.proofs.Iff.{and_so}
use Rattle.run_cycles.proofs.counting.any_counts_in.Goals as goal

pub any_has_count-requires-clause-before : goal.any_has_count-requires-clause-before
any_has_count-requires-clause-before c =
    let in_range : IsDay c.args.day = IsDay-work_in c.args.index.now c.args.day (sym c.is_work.ensures ∙
    c.if-not-is_work.false) in
    let few = work_days_before-le (is_work_in c.args.index.now) c.args.day in
    omega (arith, in_range.1)

pub any_has_count-requires-clause-before_first : goal.any_has_count-requires-clause-before_first
any_has_count-requires-clause-before_first c =
    let in_range : IsDay c.args.day = IsDay-work_in c.args.index.now c.args.day (sym c.is_work.ensures ∙
    c.if-not-is_work.false) in
    let holds : HoldsDay c.args.interval.now.first c.args.interval.now.last c.args.day =
    c.holds.ensures.0 c.if-not-holds.false in
    let few = work_days_before-le (is_work_in c.args.index.now) c.args.interval.now.first in
    omega (arith, in_range.1, holds.0)

pub returns : goal.returns
returns c =
    and_so _ _ _ c.any_has_count.ensures
    (any_count_is (is_work_in c.args.index.now) c.args.interval.now.first c.args.day (sym c.is_work.ensures ∙
    c.if-not-is_work.false) c.args.offsets.now
    c.rank.result c.rank-2.result c.args.interval.now.last c.up_to-up_to_last.result
    (c.holds.ensures.0 c.if-not-holds.false) c.rank.ensures c.rank-2.ensures c.up_to-up_to_last.ensures)
