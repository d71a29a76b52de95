use Rattle.std.proofs.Common.{◌≡◌, Bool, List, true, false, ap, sym, ◌∙◌, arith}
use Rattle.work_calendars.specs.CountedIndex.{CountedStatuses}
use Rattle.work_calendars.specs.WorkIndex.{is_work_in}
use Rattle.work_calendars.proofs.WorkDayFacts.{work_days_before-work, work_days_before-free}
use Rattle.run_cycles.proofs.JumpLemmas.{few_work_days}
use Rattle.run_cycles.proofs.jump.rank_after.Goals as goal

pub overflow_add-result : goal.overflow_add-result
overflow_add-result c =
    let few = few_work_days c.args.index.now.statuses c.args.day in
    omega arith

pub returns-then-is_work-clause-value : goal.returns-then-is_work-clause-value
returns-then-is_work-clause-value c =
    let statuses : CountedStatuses → List Bool = λ s. s.statuses in
    let on : is_work_in c.args.index.now.statuses c.args.day ≡ true
    = ap (λ s. is_work_in s c.args.day) (sym (ap statuses c.rank-before.ensures.counted)) ∙
    sym c.is_work.ensures.value ∙ c.if-is_work.true in
    let one = work_days_before-work (is_work_in c.args.index.now.statuses) c.args.day on in
    omega arith

pub returns-else-is_work-clause-value : goal.returns-else-is_work-clause-value
returns-else-is_work-clause-value c =
    let statuses : CountedStatuses → List Bool = λ s. s.statuses in
    let off : is_work_in c.args.index.now.statuses c.args.day ≡ false
    = ap (λ s. is_work_in s c.args.day) (sym (ap statuses c.rank-before.ensures.counted)) ∙
    sym c.is_work.ensures.value ∙ c.if-is_work.false in
    let none = work_days_before-free (is_work_in c.args.index.now.statuses) c.args.day off in
    omega arith
