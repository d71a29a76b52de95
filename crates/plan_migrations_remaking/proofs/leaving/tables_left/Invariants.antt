use Rattle.std.proofs.Common.{◌≡◌, take, filter, not}
use Rattle.plan_migrations_remaking.specs.Leaving.{is_of}
use Rattle.plan_migrations_remaking.proofs.leaving.tables_left.Given as goal

abbrev pub invariant-loop-table : goal.invariant-loop-table
invariant-loop-table l = l.left ≡ filter (λ x. not (is_of l.tables l.named x.tree)) (take l.table-index l.tables)
