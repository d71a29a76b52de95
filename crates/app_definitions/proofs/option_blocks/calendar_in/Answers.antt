use Rattle.std.proofs.Common.{ap}
use Rattle.std.specs.Prelude.{codes}
use Rattle.toml.proofs.Views.{table_get}
use Rattle.app_definitions.proofs.option_blocks.calendar_in.Goals as goal

pub returns-in-None-clause-given : goal.returns-in-None-clause-given
returns-in-None-clause-given c =
    let found = table_get c.get.result (codes "default_calendar") c.args.table.now.entries c.get.ensures.value in
    rw (← rw c.in-None.is at found) (ap (λ o. o.default_calendar) c.new.ensures)

pub returns-in-Some-clause-given : goal.returns-in-Some-clause-given
returns-in-Some-clause-given c =
    let found = table_get c.get.result (codes "default_calendar") c.args.table.now.entries c.get.ensures.value in
    rw (← rw c.in-Some.is at found) c.calendar_of.ensures.given

pub returns-in-Some-clause-refused : goal.returns-in-Some-clause-refused
returns-in-Some-clause-refused c =
    let found = table_get c.get.result (codes "default_calendar") c.args.table.now.entries c.get.ensures.value in
    rw (← rw c.in-Some.is at found) c.calendar_of.ensures.refused
