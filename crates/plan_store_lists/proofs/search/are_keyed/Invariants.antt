use Rattle.std.proofs.Common.{◌≡◌}
use Rattle.std.specs.List.{AllAdjacentBelow}
use Rattle.std.specs.declared.cmp.Ordering.TheVariants.{Less}
use Rattle.plan_store_lists.proofs.search.are_keyed.Given as goal

-- each of the first items is below the next
abbrev pub invariant-loop-at : goal.invariant-loop-at
invariant-loop-at g l = AllAdjacentBelow (λ (x y : g.row.T.Denot).
    g.T.Key.Ord.cmp (g.T.Keyed.key_of x) (g.T.Keyed.key_of y) ≡ Less) l.list l.at
