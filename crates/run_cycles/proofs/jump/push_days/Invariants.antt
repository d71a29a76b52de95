use Rattle.std.proofs.Common.{◌*◌, take}
use Rattle.work_calendars.specs.WorkIndex.{is_work_in}
use Rattle.run_cycles.specs.Searches.{AddsDays, AsksAtMost, IsGivenAt, IsInWindow, questions_of}
use Rattle.run_cycles.proofs.jump.push_days.Given as goal

abbrev pub invariant-loop-offset : goal.invariant-loop-offset
invariant-loop-offset l =
    AddsDays (IsInWindow l.window.low l.window.high (IsGivenAt l.rule
    (is_work_in l.initial.index.statuses) l.start l.end)
    (take l.offset-index l.offsets)) l.initial.days.items l.days.items
    × AsksAtMost (l.offset-index * questions_of l.rule) l.initial.index l.index
