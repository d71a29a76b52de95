use Rattle.std.proofs.Common.{◌≡◌, ◌+◌, ◌*◌, ◌<◌, length, false, arith}
use Rattle.std.proofs.lemmas.List.{length-take-le}
use Rattle.work_calendars.specs.Day.{first_day, last_day}
use Rattle.work_calendars.specs.declared.days.TheConstants.{DAYS}
use Rattle.work_calendars.proofs.StatusFacts.{AreStatuses-first}
use Rattle.work_calendars.proofs.calendars.Calendar.weekday_statuses.Goals as goal

pub returns : goal.returns
returns c =
    let old = c.weeks.statuses.items in
    let new = c.truncate.new.self.items in
    let filled : first_day + length old ≡ first_day + 7 * c.weeks._week = c.weeks.invariant.len in
    let past : last_day < first_day + 7 * c.weeks._week = omega arith in
    let len : first_day + length new ≡ last_day + 1
    = rw c.truncate.ensures.items (let n = length-take-le DAYS old (omega arith) in omega arith) in
    AreStatuses-first c.args.self.now (first_day + 7 * c.weeks._week) old new c.weeks.invariant past len
    (λ i h. c.truncate.ensures.by_index i false (omega arith))
