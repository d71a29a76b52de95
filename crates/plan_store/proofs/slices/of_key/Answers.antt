use Rattle.std.proofs.Common.{◌∙◌, sym}
use Rattle.plan_store.proofs.SliceLemmas.{key_part}
use Rattle.plan_store.proofs.slices.of_key.Goals as goal

pub returns-clause-keyed : goal.returns-clause-keyed
returns-clause-keyed g c keyed = c.arriving_at.ensures.keyed (c.of_app.ensures.keyed keyed)

pub returns-clause-all : goal.returns-clause-all
returns-clause-all g c keyed =
    let own = c.of_app.ensures.all keyed in
    key_part g.T.PlanRow.row_of c.args.list.now c.of_app.result.now c.arriving_at.result.now c.args.key.now own
    (c.arriving_at.ensures.all (c.of_app.ensures.keyed keyed)
    (λ x y at_x at_y. ((own x).0 at_x).1 ∙ sym ((own y).0 at_y).1))
