-- Changes of status, and pairs.
use Rattle.occurrences.specs.declared.key.Key.{Key}
use Rattle.occurrences.specs.declared.status.Action.{Action}
use Rattle.occurrences.specs.declared.status.Action.TheVariants.{Start, Complete, Fail, Reset, Delete}
use Rattle.planner_machine.specs.Laws.{KeepsPairs}
use Rattle.planner_machine.specs.Statement.{Act}

-- a start, a completion or a failure
abbrev pub LeavesPairs : Action → Type 0
LeavesPairs Start = Unit {0}
LeavesPairs Complete = Unit {0}
LeavesPairs Fail = Unit {0}
LeavesPairs Reset = ⊥
LeavesPairs Delete = ⊥

-- each of them leaves the pairs as they are
abbrev pub StatusChangesLeavePairs : Type 0
StatusChangesLeavePairs = (key : Key) (action : Action) → LeavesPairs action → KeepsPairs (Act action key)
