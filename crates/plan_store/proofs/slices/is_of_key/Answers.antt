use Rattle.plan_store.proofs.ReadLemmas.{keys_test}
use Rattle.plan_store.proofs.slices.is_of_key.Goals as goal

pub returns-in-Some : goal.returns-in-Some
returns-in-Some c =
    rw c.in-Some.is (keys_test c.args.row.now.key c.in-Some.key c.eq.result c.eq.ensures)
