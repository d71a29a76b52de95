use Rattle.plan_store.proofs.AppPairLemmas.{found_at}
use Rattle.plan_store.proofs.app_pairs.row_in.Goals as goal

pub returns : goal.returns
returns g c =
    found_at g.T.PlanRow.row_of c.args.list.now.items c.requires.rows.one_each c.args.serial c.of_serial.result
    c.of_serial.ensures
