use Rattle.std.proofs.Common.{refl}
use Rattle.std.specs.Prelude.{codes}
use Rattle.toml.proofs.Views.{table_get}
use Rattle.app_definitions.proofs.option_blocks.hours_in.Goals as goal

pub returns-in-None-clause-given : goal.returns-in-None-clause-given
returns-in-None-clause-given c =
    let found = table_get c.get.result (codes "max_extension_hours") c.args.table.now.entries c.get.ensures.value in
    rw (← rw c.in-None.is at found) refl

pub returns-in-Some-clause-given : goal.returns-in-Some-clause-given
returns-in-Some-clause-given c =
    let found = table_get c.get.result (codes "max_extension_hours") c.args.table.now.entries c.get.ensures.value in
    rw (← rw c.in-Some.is at found) c.hours_of.ensures.given

pub returns-in-Some-clause-refused : goal.returns-in-Some-clause-refused
returns-in-Some-clause-refused c =
    let found = table_get c.get.result (codes "max_extension_hours") c.args.table.now.entries c.get.ensures.value in
    rw (← rw c.in-Some.is at found) c.hours_of.ensures.refused
