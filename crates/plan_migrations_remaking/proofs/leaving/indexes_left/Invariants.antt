use Rattle.std.proofs.Common.{◌≡◌, take, filter, not}
use Rattle.plan_migrations_remaking.specs.Leaving.{is_of}
use Rattle.plan_migrations_remaking.proofs.leaving.indexes_left.Given as goal

abbrev pub invariant-loop-index : goal.invariant-loop-index
invariant-loop-index l = l.left ≡ filter (λ x. not (is_of l.tables l.named x.table)) (take l.index-index l.indexes)
