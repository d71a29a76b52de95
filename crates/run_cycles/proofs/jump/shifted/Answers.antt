use Rattle.std.proofs.Common.{◌≡◌, ℕ, Bool, List, Some, ap, subst, sym, ◌∙◌}
use Rattle.work_calendars.specs.CountedIndex.{CountedStatuses}
use Rattle.work_calendars.specs.WorkIndex.{is_work_in}
use Rattle.run_cycles.specs.Shift.{IsMoved}
use Rattle.run_cycles.proofs.JumpLemmas.{moved_only}
use Rattle.run_cycles.proofs.jump.shifted.Goals as goal

pub returns-clause-only : goal.returns-clause-only
returns-clause-only c =
    let statuses : CountedStatuses → List Bool = λ s. s.statuses in
    let Only : List Bool → Type 0 = λ s. (d : ℕ) → IsMoved c.args.rule (is_work_in s) c.in_ok-day.day d →
    c.moved.result ≡ Some d in
    moved_only c.args.rule (is_work_in c.args.index.now.statuses)
    c.args.number c.in_ok-day.day c.moved.result c.requires c.in_ok-day.ensures.value (sym c.is_work.ensures.value ∙
    c.if-is_work.false)
    (subst Only (ap statuses c.is_work.ensures.counted) c.moved.ensures.only)
