use Rattle.std.proofs.Common.{◌<◌}
use Rattle.std.specs.List.{AllAdjacentBelow}
use Rattle.plan_tables_loading.proofs.order.numbers_rise.Given as goal

abbrev pub invariant-loop-at : goal.invariant-loop-at
invariant-loop-at g l = AllAdjacentBelow (λ x y. g.X.Numbered.number_of x < g.X.Numbered.number_of y) l.xs l.at
