use Rattle.std.proofs.Common.{◌≢◌, take}
use Rattle.std.specs.List.{Contains}
use Rattle.external_dependencies.specs.declared.pairs.Pair.{Pair}
use Rattle.external_dependencies.specs.declared.rows.PlacedRow.{PlacedRow}
use Rattle.planner_machine.specs.Content.{IsOnlyAt}
use Rattle.plan_store.specs.Views.{HoldsOfPairs, IsOutsideDeletions}
use Rattle.plan_store_pairs.proofs.additions.predecessor_in.Given as goal

-- none of the pairs so far has its predecessor in the application
abbrev pub invariant-loop-pair : goal.invariant-loop-pair
invariant-loop-pair l = HoldsOfPairs l.view (λ c. (pair : Pair) (p : PlacedRow)
    → Contains (take l.pair-index l.pair-items) pair → IsOnlyAt c.sets pair.predecessor p → IsOutsideDeletions p.place
    → p.row.key.app ≢ l.app)
