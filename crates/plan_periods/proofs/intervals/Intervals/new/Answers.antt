use Rattle.std.proofs.Common.{subst}
use Rattle.plan_periods.specs.Period.{IsSoundPeriod, IsSoundList, IsIntervalLength}
use Rattle.plan_periods.specs.declared.periods.Period.{Period}
use Rattle.plan_periods.proofs.StepLemmas.{lists_steps}
use Rattle.plan_periods.proofs.ListedLemmas.{lists_listed, lists_none}
use Rattle.plan_periods.proofs.intervals.Intervals.new.Goals as goal
use Rattle.plan_periods.proofs.intervals.Intervals.new.Goals.{in-All, in-Work, in-Listed}

pub returns-clause-left : goal.returns-clause-left
returns-clause-left c =
    let P : Period → Type 0 = IsSoundPeriod in
    elim c.match-period.branch [
      | in-All w ↦
          let size : IsIntervalLength w.in-All.interval = subst P w.in-All.is c.requires in
          rw (w.in-All.is, w.start-is) (lists_steps _ _ _ _ _ _ size.0 w.steps_meeting.ensures)
      | in-Work w ↦ rw w.in-Work.is (lists_none _ _ _ _)
      | in-Listed w ↦
          let sound : IsSoundList w.in-Listed.origins = subst P w.in-Listed.is c.requires in
          rw (w.in-Listed.is, w.start-is) (lists_listed _ _ _ sound)
    ]
