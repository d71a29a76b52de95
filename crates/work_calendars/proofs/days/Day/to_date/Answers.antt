use Rattle.std.proofs.Common.{◌≡◌, pos, rules}
use Rattle.jiff_core.specs.Date.{epoch_day}
use Rattle.work_calendars.proofs.SpellingFacts.{natural_year}
use Rattle.work_calendars.proofs.days.Day.to_date.Goals as goal

pub returns-clause-natural : goal.returns-clause-natural
returns-clause-natural c =
    let e : epoch_day c.from_plain.result ≡ pos c.args.self = search rules in
    natural_year c.from_plain.result c.args.self e
