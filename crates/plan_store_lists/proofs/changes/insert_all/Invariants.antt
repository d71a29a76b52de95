use Rattle.plan_store_lists.proofs.MergeLemmas.{Merging}
use Rattle.plan_store_lists.proofs.changes.insert_all.Given as goal

abbrev pub invariant-loop-right : goal.invariant-loop-right
invariant-loop-right g l = Merging g.met.T.Key.Ord.total g.met.T.Keyed.ties g.T.Keyed.key_of l.fn.list.items l.items
    l.list.items l.left l.right

abbrev pub decreases-loop-right : goal.decreases-loop-right
decreases-loop-right g l = l.right
