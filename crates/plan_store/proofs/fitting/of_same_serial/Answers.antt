use Rattle.std.proofs.Common.{◌∙◌, ap}
use Rattle.occurrences.specs.declared.row.Row.{Row}
use Rattle.plan_store_lists.specs.Rows.{look_up}
use Rattle.plan_store.proofs.FittingLemmas.{found_is, serial_of}
use Rattle.plan_store.proofs.fitting.of_same_serial.Goals as goal

pub returns : goal.returns
returns g c =
    let row_of = g.T.PlanRow.row_of in
    found_is row_of c.args.list.now.items c.row.result.serial c.of_serial.result c.requires.rows c.of_serial.ensures
    ∙ ap (λ (row : Row). look_up (serial_of row_of) c.args.list.now.items row.serial) c.row.ensures
