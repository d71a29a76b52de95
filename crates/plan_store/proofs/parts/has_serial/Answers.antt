use Rattle.std.proofs.Common.{◌∙◌}
use Rattle.plan_store.proofs.ViewLemmas.{found_is}
use Rattle.plan_store.proofs.parts.has_serial.Goals as goal

pub returns : goal.returns
returns g c =
    c.is_some.ensures ∙ found_is g.T.PlanRow.row_of c.args.list.now.items c.requires.rows.one_each c.args.serial
    c.of_serial.result c.of_serial.ensures
