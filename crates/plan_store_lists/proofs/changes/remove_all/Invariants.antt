use Rattle.std.proofs.Common.{◌≡◌, vec_capacity}
use Rattle.plan_store_lists.proofs.ThinLemmas.{Thinning}
use Rattle.plan_store_lists.proofs.changes.remove_all.Given as goal

-- up to a place the items with the keys of the first ones are out
abbrev pub invariant-loop-item : goal.invariant-loop-item
invariant-loop-item g l = record {
  capacity : vec_capacity l.list ≡ vec_capacity l.fn.list;
  thinning : Thinning g.met.T.Key.Ord.total g.met.T.Keyed.ties g.T.Keyed.key_of l.fn.list.items l.items l.list.items
      l.kept l.rest l.item-index;
}
