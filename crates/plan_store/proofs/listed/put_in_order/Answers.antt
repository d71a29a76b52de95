use Rattle.std.proofs.Common.{rules}
use Rattle.std.proofs.lemmas.List.Sorted.{answers_always}
use Rattle.plan_store.proofs.ListedLemmas.{in_order_by}
use Rattle.plan_store.proofs.listed.put_in_order.Goals as goal

pub returns : goal.returns
returns g c =
    let row_of = g.T.PlanRow.row_of in
    let is = c.sort_unstable_by_key.ensures in
    in_order_by (λ b. b.now) row_of c.args.found.now.items c.sort_unstable_by_key.new.self.items is.permutation
    (is.sorted (λ b. row_of b.now) (answers_always _ _ _ (λ f a r q called. search rules)))
